-- Answers to the goals of `laws::free_items_alternate` that the prover leaves.
use Rattle.mk_resume_walk.proofs.Fronts.{free_alternate}
use Rattle.mk_resume_walk.proofs.laws.free_items_alternate.Goals as goal

pub returns : goal.returns
returns c = free_alternate
