-- Answers to the goals of `stock::Stock::content_of` that the prover leaves.
use Rattle.std.proofs.Common.{◌≡◌, ℕ, List, Some, subst}
use Rattle.std.specs.Prelude.{IfSome, Option, option_map}
use Rattle.mk_plan.specs.Asks.{content_text}
use Rattle.mk_plan.specs.Inputs.{value_at}
use Rattle.mk_async.specs.Asked.{asked_in}
use Rattle.mk_sched_supply.proofs.stock.Stock.content_of.Goals as goal

pub returns : goal.returns
returns c = λ S stands. subst (λ (o : Option (List ℕ)). IfSome o (λ text. option_map (content_text c.args.plan.now (value_at S c.args.at)) (asked_in c.args.asked.now) ≡ Some text)) c.in-Some.is (c.in_ok-content.ensures.content (value_at S c.args.at))
