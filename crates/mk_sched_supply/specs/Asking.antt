-- When a request in a step may be answered.
use Rattle.std.specs.Prelude.{◌≡◌, ℕ, Some}
use Rattle.mk_base.specs.declared.tier.Tier.{Tier}
use Rattle.mk_plan.specs.declared.Plan.{Plan}
use Rattle.mk_plan.specs.Journals.{OpenTurn, View}
use Rattle.mk_sched_supply.specs.declared.stock.Stock.{Stock}
use Rattle.mk_sched_supply.specs.Stock.{IsStockOf}

-- a step of s at x is open in a view whose stock this is
pub record IsStepOpen (P : Plan) (s : ℕ) (x : Tier) (k : Stock) : Type 0 where
  pub view : View
  pub turn : OpenTurn
  pub opened : view.open_at s ≡ Some turn
  pub at : turn.at ≡ x
  pub stock : IsStockOf P view k
