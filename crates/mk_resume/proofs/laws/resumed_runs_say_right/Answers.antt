-- Answers to the goals of `laws::resumed_runs_say_right` that the prover leaves.
use Rattle.mk_resume.proofs.Saying.{says_right}
use Rattle.mk_resume.proofs.laws.resumed_runs_say_right.Goals as goal

pub returns : goal.returns
returns c = says_right
