-- When a Step that is asked for is.
use Rattle.std.proofs.Common.{◌≡◌, ℕ, ℤ, pos, ◌≤ℤ◌, ◌<◌, true, int_lt, nat_le, List, arith}
use Rattle.std.proofs.lemmas.Bool.{and_parts}
use Rattle.std.proofs.lemmas.Int.{ints}
use Rattle.mk_base.specs.declared.tier.Tier.{Tier}
use Rattle.mk_plan.specs.declared.Plan.{Plan}
use Rattle.mk_plan.specs.declared.Entry.{Entry}
use Rattle.mk_plan.specs.Plans.{sim_count, IsValidPlan}
use Rattle.mk_plan.specs.Journals.{view}
use Rattle.mk_plan.specs.Ready.{IsReady}
use Rattle.mk_plan.specs.Advance.{IsAdvance}
use Rattle.mk_plan.specs.Orderly.{IsOrderlySoFar}
use Rattle.mk_order.proofs.Past.{pending_within}
use Rattle.mk_base.specs.Limits.{latest_end}

below_end : (t until end : ℤ) → int_lt t until ≡ true → until ≤ℤ end → t ≤ℤ end
below_end t until end h k = grind (arith, ints)

-- a simulator that is ready is so at a time from 0 on, and before the end of the run
pub ready_time : (P : Plan) → IsValidPlan P → (J : List Entry) → IsOrderlySoFar IsReady IsAdvance P J → (s : ℕ) (x : Tier) → IsReady P (view P J) s x
    → (pos 0 ≤ℤ x.time) × (x.time ≤ℤ latest_end) × (s < sim_count P)
ready_time P valid J orderly s x ready =
    let t = pending_within IsReady IsAdvance P (λ V s x r. r) valid J orderly s x ready.at_pending in
    (t.0, below_end x.time P.until latest_end (and_parts (int_lt x.time P.until) (nat_le x.tier P.loops) t.1).0 valid.well_formed.limits.until.1, t.2)
