-- Answers to the goals of `laws::turns_alternate` that the prover leaves.
use Rattle.mk_resume_walk.proofs.Alternating.{alternate}
use Rattle.mk_resume_walk.proofs.laws.turns_alternate.Goals as goal

pub returns : goal.returns
returns c = alternate
