-- Answers to the goals of `completion` that the prover leaves.
use Rattle.mk_order.proofs.Headlines.{orderly_finished}
use Rattle.mk_order.proofs.completion.Goals as goal

pub returns : goal.returns
returns c = orderly_finished c.args.plan.now c.requires
