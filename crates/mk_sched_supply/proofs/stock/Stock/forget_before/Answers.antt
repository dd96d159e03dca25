-- Answers to the goals of `stock::Stock::forget_before` that the prover leaves.
use Rattle.std.proofs.Common.{◌≡◌, ◌≢◌, ◌⊎◌, inl, inr, ℕ, ◌<◌, if◌then◌else◌, Bool, true, false, sym, subst}
use Rattle.mk_base.specs.declared.tier.Tier.{Tier}
use Rattle.mk_base.specs.Tiers.{up_to}
use Rattle.mk_plan.specs.declared.Plan.{Plan}
use Rattle.mk_plan.specs.Plans.{sim_count}
use Rattle.mk_plan.specs.Journals.{View}
use Rattle.mk_order.specs.Pending.{IsMarkOf}
use Rattle.mk_buffers.specs.declared.buffers.Buffers.{Buffers}
use Rattle.mk_buffers.specs.Marking.{greater}
use Rattle.mk_buffers.specs.Standing.{HasRaised, mark_of}
use Rattle.mk_buffers_log.proofs.Places.{apart_or_same}
use Rattle.mk_sched_supply.proofs.stock.Stock.forget_before.Goals as goal

-- the greater of two marks is one
greater_is_mark : (P : Plan) (V : View) (s : ℕ) (x y : Tier) → IsMarkOf P V s x → IsMarkOf P V s y → IsMarkOf P V s (greater x y)
greater_is_mark P V s x y low high = by (up_to y x)
  where
    by : (b : Bool) → IsMarkOf P V s (if b then x else y)
    by true = low
    by false = high

-- marks stay marks where one is raised to a mark
marks_stay : (P : Plan) (V : View) (s : ℕ) (x : Tier) (old new : Buffers) → HasRaised s x old new → IsMarkOf P V s x → ((r : ℕ) → r < sim_count P → IsMarkOf P V r (mark_of old r)) → (r : ℕ) → r < sim_count P → IsMarkOf P V r (mark_of new r)
marks_stay P V s x old new raised mark marks r below = by (apart_or_same r s)
  where
    by : (r ≡ s) ⊎ (r ≢ s) → IsMarkOf P V r (mark_of new r)
    by (inl same) = subst (λ (i : ℕ). IsMarkOf P V i (mark_of new i)) (sym same) (subst (IsMarkOf P V s) (sym raised.here) (greater_is_mark P V s (mark_of old s) x (subst (λ (i : ℕ). IsMarkOf P V i (mark_of old i)) same (marks r below)) mark))
    by (inr apart) = subst (IsMarkOf P V r) (sym (raised.others r apart)) (marks r below)

pub returns-clause-stock : goal.returns-clause-stock
returns-clause-stock c = λ P V stock there mark. record {
  plan = record { names = stock.plan.names; count = stock.plan.count; feeds = stock.plan.feeds };
  supplied = (stock.supplied.0, c.forget_before.ensures.stands P stock.supplied.0 stock.supplied.1, stock.supplied.2);
  marks = marks_stay P V c.args.sim.0 c.args.at c.args.self.now.buffers c.forget_before.new.self (c.forget_before.ensures.marks P stock.supplied.0 stock.supplied.1 there) mark stock.marks;
}
