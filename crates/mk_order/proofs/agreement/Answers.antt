-- Answers to the goals of `agreement` that the prover leaves.
use Rattle.mk_order.proofs.Headlines.{orderly_agrees}
use Rattle.mk_order.proofs.agreement.Goals as goal

pub returns : goal.returns
returns c = orderly_agrees c.args.plan.now c.requires
