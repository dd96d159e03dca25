-- Answers to the goals of `laws::runs_are_right` that the prover leaves.
use Rattle.mk_run.proofs.RunRight.{runs_right}
use Rattle.mk_run.proofs.laws.runs_are_right.Goals as goal

pub returns : goal.returns
returns c = runs_right
