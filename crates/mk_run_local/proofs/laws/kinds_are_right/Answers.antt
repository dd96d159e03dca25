-- Answers to the goals of `laws::kinds_are_right` that the prover leaves.
use Rattle.mk_run_local.proofs.Following.{kinds_right}
use Rattle.mk_run_local.proofs.laws.kinds_are_right.Goals as goal

pub returns : goal.returns
returns c = kinds_right
