-- Answers to the goals of `nothing_new` that the prover leaves.
use Rattle.mk_order.proofs.LowerBound.{has_all}
use Rattle.mk_order.proofs.nothing_new.Goals as goal

pub returns : goal.returns
returns c J orderly R on s x ready = has_all c.args.plan.now c.requires J orderly R on s x ready
