-- Answers to the goals of `laws::runs_and_resumed_runs_are_alike` that the prover leaves.
use Rattle.mk_resume.proofs.Alike.{runs_alike}
use Rattle.mk_resume.proofs.laws.runs_and_resumed_runs_are_alike.Goals as goal

pub returns : goal.returns
returns c = runs_alike
