-- Answers to the goals of `laws::walks_go_on` that the prover leaves.
use Rattle.mk_resume_walk.proofs.GoingOn.{walk_laws}
use Rattle.mk_resume_walk.proofs.laws.walks_go_on.Goals as goal

pub returns : goal.returns
returns c = walk_laws
