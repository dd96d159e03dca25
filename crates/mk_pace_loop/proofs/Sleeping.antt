-- How long the fleet may sleep.
use Rattle.std.proofs.Common.{◌≡◌, inl, inr, ℕ, ◌+◌, ◌<◌, ◌≤◌, List, Some, None, slice_get, sym, ◌∙◌, arith}
use Rattle.mk_base.proofs.Lists.{none_some}
use Rattle.mk_pace_held.specs.declared.held.First.{First}
use Rattle.mk_pace_held.specs.declared.held.Held.{Held}
use Rattle.mk_pace_held.specs.Firsts.{IsFirst, first_at}
use Rattle.mk_pace_loop.specs.inner.Waiting.{AreEarly, IsInTime}

-- the first of what is early
pub first_early : (told : ℕ) (holds : List (List Held)) (f : First) → AreEarly told holds → IsFirst f holds → told < f.due.moment
first_early told holds f early first = early f.sim.0 first.items f first.there first.here

-- until it is due, nothing else is overdue
pub in_time : (told ms : ℕ) (holds : List (List Held)) (f : First) → IsFirst f holds → told + ms ≤ f.due.moment → IsInTime told ms holds
in_time told ms holds f first le i q g there is = elim (first.least i q g there is) [
  | inl less ↦ omega (arith, le, less)
  | inr t ↦ let e = t.0 in omega (arith, le, e)
]
