-- Answers to the goals of `laws::free_items_go_on` that the prover leaves.
use Rattle.mk_resume_walk.proofs.GoingOn.{free_go_on}
use Rattle.mk_resume_walk.proofs.laws.free_items_go_on.Goals as goal

pub returns : goal.returns
returns c = free_go_on
