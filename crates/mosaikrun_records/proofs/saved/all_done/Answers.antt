-- Answers to the goals of `saved::all_done` that the prover leaves.
use Rattle.mosaikrun_records.proofs.WholeRuns.{said_other, said_short}
use Rattle.mosaikrun_records.proofs.saved.all_done.Goals as goal

pub returns-in-Short-clause-said : goal.returns-in-Short-clause-said
returns-in-Short-clause-said c = said_short c.args.replayed.now.plan c.args.replayed.now.journal.entries c.args.replayed.now.end c.in-Short.outstanding c.in-Short.is

pub returns-in-Other-clause-said : goal.returns-in-Other-clause-said
returns-in-Other-clause-said c = said_other c.args.replayed.now.plan c.args.replayed.now.journal.entries c.args.replayed.now.end c.in-Other.entry c.in-Other.is
