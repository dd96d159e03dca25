-- The stock of a run that has not begun.
use Rattle.std.proofs.Common.{◌≡◌, ℕ, List, [], length, refl, sym, subst}
use Rattle.mk_plan.specs.declared.Plan.{Plan}
use Rattle.mk_plan.specs.Plans.{IsValidPlan}
use Rattle.mk_plan.specs.Deliveries.{Supply}
use Rattle.mk_plan.specs.Journals.{empty_view}
use Rattle.mk_order.specs.Supplies.{given_so_far}
use Rattle.mk_order.specs.Pending.{IsMarkOf}
use Rattle.mk_plan_names.specs.Names.{AreNamesOf}
use Rattle.mk_buffers.specs.Standing.{IsNew, StandFor}
use Rattle.mk_sched_supply.specs.declared.stock.Stock.{Stock}
use Rattle.mk_sched_supply.specs.Stock.{IsStockOf}
use Rattle.mk_sched_supply.specs.inner.Making.{AreFeedsOf}
use Rattle.mk_sched_supply.proofs.Feeding.{feeds_whole}
use Rattle.mk_sched_supply.proofs.Keeping.{start_is_mark}

pub stock_begins : (P : Plan) (k : Stock) → IsValidPlan P → AreNamesOf P k.names → IsNew P k.buffers → AreFeedsOf P (length P.conns) k.feeds.items
    → ((S : Supply) → ((e : ℕ) (attr : List ℕ) → S.outputs e attr ≡ []) → ((e : ℕ) → S.gifts e ≡ []) → StandFor P k.buffers S) → IsStockOf P empty_view k
stock_begins P k valid names new feeds stands = record {
  plan = record { names = names; count = feeds.count; feeds = feeds_whole P k.feeds.items (length P.conns) refl feeds };
  supplied = (given_so_far P empty_view, stands (given_so_far P empty_view) (λ e attr. refl) (λ e. refl), record { outputs = λ e attr given. refl; gifts = λ e low. refl });
  marks = λ s low. subst (IsMarkOf P empty_view s) (sym (new.starts s)) (start_is_mark P valid s);
}
