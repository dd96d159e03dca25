-- For proofs alone. Beside `Dues`, which has what a reader needs.
use Rattle.std.specs.Prelude.{◌≡◌, ℕ, ◌<◌, ◌≤◌, ℤ, ◌≤ℤ◌, Bool, true, false, not, ◌&&◌, List, [], ◌∷◌, length, fold, Option, Some, None, slice_set, slice_index_or, nat_le, int_lt, if◌then◌else◌}
use Rattle.mk_base.specs.declared.tier.Tier.{Tier}
use Rattle.mk_base.specs.Lists.{IsIn}
use Rattle.mk_base.specs.Tiers.{moment, up_to, HasWidth}
use Rattle.mk_plan.specs.declared.PlanSim.{PlanSim}
use Rattle.mk_plan.specs.Due.{first_times}
use Rattle.mk_nextstep.specs.declared.queue.Due.{Due}
use Rattle.mk_nextstep.specs.Queues.{time_of, added, least}
use Rattle.mk_nextstep.specs.inner.Queues.{IsRising}
use Rattle.mk_tiers.specs.Seen.{Seen, start_in, is_busy_in}
use Rattle.mk_tiers.specs.Standing.{IsOwn}
use Rattle.mk_sched_agenda.specs.declared.limits.Limits.{Limits}
use Rattle.mk_sched_agenda.specs.declared.outlets.Outlet.{Outlet}
use Rattle.mk_sched_agenda.specs.Outlets.{outlets_in}
use Rattle.mk_sched_agenda.specs.Dues.{queue_in}
use Rattle.mk_base.specs.Limits.{latest_end, most_loops}

-- its turn is open
abbrev pub is_open : List Bool → ℕ → Bool
is_open opened i = slice_index_or opened i false

-- before the run's end, and within the loop limit
abbrev pub is_inside : Limits → Tier → Bool
is_inside L x = int_lt x.time L.until && nat_le x.tier L.loops

-- the steps to come and one that a simulator asked for itself, if it is within the limits
abbrev pub with_own : Limits → List Due → Tier → List Due
with_own L q x = if is_inside L x then added false x q else q

-- the steps to come and that of the next time that a turn returned, if it returned one
abbrev pub with_next : Limits → List Due → Option ℤ → List Due
with_next L q None = q
with_next L q (Some n) = with_own L q (moment n)

-- the steps that a simulator has before it as the run begins
abbrev pub first_queue : Limits → PlanSim → List Due
first_queue L sim = fold (with_own L) [] (first_times sim)

-- the bounds with this start of a simulator, outstanding or not
abbrev pub with_start : Seen → ℕ → Option Tier → Bool → Seen
with_start B i own busy = record {
  triggers = B.triggers;
  waits = B.waits;
  owns = slice_set B.owns i own;
  busy = slice_set B.busy i busy;
}

-- a step then would be the first
abbrev pub is_first : Tier → List Due → Bool
is_first x [] = true
is_first x (d ∷ ds) = not (up_to d.at x)

-- the bounds after a trigger of i at x: where no turn of i is open and the step is the first, it is
-- the start
abbrev pub with_trigger : Seen → List Bool → List Due → ℕ → Tier → Seen
with_trigger B opened q i x = if is_first x q && not (is_open opened i)
    then with_start B i (Some x) false else B

-- steps to come are in order and within the limits of all plans; a start is outstanding where a turn
-- is open, and where none is, the first of the steps is the start
pub record IsTidy (queues : List (List Due)) (opened : List Bool) (B : Seen) : Type 0 where
  pub owns : length B.owns ≡ length queues
  pub opens : length opened ≡ length queues
  pub busies : length B.busy ≡ length queues
  pub busy : (i : ℕ) → is_busy_in B i ≡ is_open opened i
  pub starts : (i : ℕ) → i < length queues → is_open opened i ≡ false
      → start_in B i ≡ least (queue_in queues i)
  pub rising : (i : ℕ) → IsRising time_of (queue_in queues i)
  pub within : (i : ℕ) (d : Due) → IsIn d (queue_in queues i) → IsOwn (Some d.at)

-- the limits are those that a plan may have, and outlets lead to simulators, by widths that a time
-- shift may have
pub record IsSound (L : Limits) (rows : List (List Outlet))
    (queues : List (List Due)) : Type 0 where
  pub until : L.until ≤ℤ latest_end
  pub loops : L.loops ≤ most_loops
  pub count : length rows ≡ length queues
  pub outlets : (i : ℕ) (o : Outlet) → IsIn o (outlets_in rows i) → (o.to.0 < length queues)
      × HasWidth o.via
