-- Answers to the goals of `listed::Listed::order` that the prover leaves.
use Rattle.mk_cycles.proofs.Listings.{below}
use Rattle.mk_cycles.proofs.listed.Listed.order.Goals as goal

pub returns-clause-below : goal.returns-clause-below
returns-clause-below c = rw (← c.self.view_is) (λ s here. below c.self.inside.marks.items c.self.inside.order.items s c.self.invariant here)
