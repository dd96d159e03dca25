-- Answers to the goals of `emptying` that the prover leaves.
use Rattle.mk_plan.specs.Ready.{IsReady}
use Rattle.mk_plan.specs.Advance.{IsAdvance}
use Rattle.mk_order.proofs.Orders.{all_came}
use Rattle.mk_order.proofs.emptying.Goals as goal

pub returns : goal.returns
returns c = λ R used J orderly on. all_came IsReady IsAdvance c.args.plan.now (λ V s x r. r) c.requires R used J orderly on
