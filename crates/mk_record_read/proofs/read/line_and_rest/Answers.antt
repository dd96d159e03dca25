-- Answers to the goals of `read::line_and_rest` that the prover leaves.
use Rattle.std.proofs.Common.{◌∙◌, sym}
use Rattle.mk_record_read.proofs.Splitting.{cut_at, cut_nowhere}
use Rattle.mk_record_read.proofs.read.line_and_rest.Goals as goal

pub returns-in-Some-clause-cut : goal.returns-in-Some-clause-cut
returns-in-Some-clause-cut c = cut_at c.args.bytes.now c.in-Some.i (sym c.position_of.ensures ∙ c.in-Some.is)

pub returns-in-None-clause-cut : goal.returns-in-None-clause-cut
returns-in-None-clause-cut c = cut_nowhere c.args.bytes.now (sym c.position_of.ensures ∙ c.in-None.is)
