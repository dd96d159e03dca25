-- Answers to the goals of `laws::resumed_runs_complete` that the prover leaves.
use Rattle.mk_resume.proofs.Completing.{completes}
use Rattle.mk_resume.proofs.laws.resumed_runs_complete.Goals as goal

pub returns : goal.returns
returns c = completes
