-- The invariants and measures of the loops of `stock::Stock::give_all`.
use Rattle.std.proofs.Common.{◌≡◌, ℕ, List, ◌++◌, All}
use Rattle.mk_base.specs.Tiers.{delayed}
use Rattle.mk_base.specs.declared.tier.Via.TheVariants.{Shift}
use Rattle.mk_plan.specs.declared.Plan.{Plan}
use Rattle.mk_plan.specs.declared.SetValue.{SetValue}
use Rattle.mk_plan.specs.Deliveries.{Supply}
use Rattle.mk_buffers.specs.Standing.{StandFor}
use Rattle.mk_async.specs.Asked.{IsGivenBy}
use Rattle.mk_sched_supply.specs.inner.Making.{HasSameRest}
use Rattle.mk_sched_supply.specs.inner.Gifts.{HasGivenAll, gifts_in}
use Rattle.mk_sched_supply.proofs.stock.Stock.give_all.Given as goal

abbrev pub invariant-loop-set : goal.invariant-loop-set
invariant-loop-set l = record {
  done : List SetValue;
  split : l.fn.sets ≡ done ++ l.set-iterator.rest.items;
  rest : HasSameRest l.fn.self l.self;
  next : l.next ≡ delayed l.fn.at (Shift 1);
  given : (P : Plan) (s : ℕ) (S : Supply) → StandFor P l.fn.self.buffers S → All (IsGivenBy P s) l.fn.sets → HasGivenAll P (gifts_in l.fn.at done) S l.self.buffers;
}
