-- Answers to the goals of `reordering` that the prover leaves.
use Rattle.mk_plan.specs.Ready.{IsReady}
use Rattle.mk_plan.specs.Advance.{IsAdvance}
use Rattle.mk_order.proofs.Orders.{next_at}
use Rattle.mk_order.proofs.reordering.Goals as goal

pub returns : goal.returns
returns c = λ R whole used J orderly on. next_at IsReady IsAdvance c.args.plan.now (λ V s x r. r) c.requires R used J orderly on whole
