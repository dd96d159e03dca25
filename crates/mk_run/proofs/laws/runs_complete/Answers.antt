-- Answers to the goals of `laws::runs_complete` that the prover leaves.
use Rattle.mk_run.proofs.Completing.{completes}
use Rattle.mk_run.proofs.laws.runs_complete.Goals as goal

pub returns : goal.returns
returns c = completes
