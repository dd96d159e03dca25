-- Answers to the goals of `lower_bound` that the prover leaves.
use Rattle.mk_order.proofs.LowerBound.{bounded_below}
use Rattle.mk_order.proofs.lower_bound.Goals as goal

pub returns : goal.returns
returns c J orderly fine = bounded_below c.args.plan.now c.requires J orderly fine
