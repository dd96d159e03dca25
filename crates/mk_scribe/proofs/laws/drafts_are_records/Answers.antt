-- Answers to the goals of `laws::drafts_are_records` that the prover leaves.
use Rattle.mk_scribe.proofs.Noting.{saw_later, shown_begins}
use Rattle.mk_scribe.proofs.laws.drafts_are_records.Goals as goal

pub returns-clause-records : goal.returns-clause-records
returns-clause-records g c P pause had J old new begin empty is = shown_begins g.S.Sink.written g.S.Sink.faults g.S.Sink.shortages P pause had J old new begin empty is

pub returns-clause-grow : goal.returns-clause-grow
returns-clause-grow g c P pause batches old new saw = saw_later g.S.Sink.written g.S.Sink.faults g.S.Sink.shortages P pause batches old new saw
