-- Answers to the goals of `progress` that the prover leaves.
use Rattle.mk_plan.specs.Ready.{IsReady}
use Rattle.mk_plan.specs.Advance.{IsAdvance}
use Rattle.mk_order.proofs.Orders.{somebody_is_ready}
use Rattle.mk_order.proofs.progress.Goals as goal

pub returns : goal.returns
returns c = somebody_is_ready IsReady IsAdvance c.args.plan.now (λ V s x r. r) c.requires
