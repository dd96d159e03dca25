-- Answers to the goals of `promise` that the prover leaves.
use Rattle.mk_order.proofs.Headlines.{advance_promised}
use Rattle.mk_order.proofs.promise.Goals as goal

pub returns : goal.returns
returns c = advance_promised c.args.plan.now c.requires
