-- Answers to the goals of `blaming::verdict_is_one` that the prover leaves.
use Rattle.mk_blame.proofs.Judging.{one_verdict}
use Rattle.mk_blame.proofs.blaming.verdict_is_one.Goals as goal

pub returns : goal.returns
returns c = one_verdict
