-- For proofs alone. What waits of a paced run.
use Rattle.std.specs.Prelude.{◌≡◌, ℕ, ◌+◌, ◌<◌, ◌≤◌, ⊤, pos, ◌≤ℤ◌, List, [], ◌∷◌, ◌++◌, length, Option, Some, None, slice_get}
use Rattle.mk_base.specs.declared.SimNo.{SimNo}
use Rattle.mk_plan.specs.declared.Item.{Item}
use Rattle.mk_plan.specs.declared.Item.TheVariants.{Step, GetData, Answer, Refuse}
use Rattle.mk_sched.specs.Cores.{CoreState}
use Rattle.mk_pace_held.specs.declared.held.Due.{Due}
use Rattle.mk_pace_held.specs.declared.held.First.{First}
use Rattle.mk_pace_held.specs.declared.held.Held.{Held}
use Rattle.mk_pace_held.specs.Firsts.{IsChanged, first_at}
use Rattle.mk_pace_laws.specs.declared.end.Moment.{Moment}
use Rattle.mk_pace_laws.specs.declared.end.PaceEnd.{PaceEnd}
use Rattle.mk_pace_laws.specs.declared.end.PaceEnd.TheVariants as pace
use Rattle.mk_pace_laws.specs.Moments.{Tempo, Timing, moment_at, timing}
use Rattle.mk_base.specs.Limits.{latest_end}

-- for each simulator what waits of its items, the moments of what was sent, the tempo, and how many
-- milliseconds late a Step may be, if there is a bound
pub record WaitingSeen : Type 0 where
  pub holds : List (List Held)
  pub moments : List Moment
  pub tempo : Tempo
  pub strict : Option ℕ

-- what waits, by its parts
abbrev pub waiting_seen : Tempo → Option ℕ → List (List Held) → List Moment → WaitingSeen
waiting_seen T strict holds moments = record {
  holds = holds;
  moments = moments;
  tempo = T;
  strict = strict;
}

-- how the run was paced so far
abbrev pub timing_of : WaitingSeen → Timing
timing_of W = timing W.tempo W.strict W.moments

-- when an item is due, if it is a Step
abbrev pub DueAs : Tempo → Item → Option Due → Type 0
DueAs T (Step x inputs advance) due = due ≡ Some (record { at = x; moment = moment_at T x.time })
DueAs T (GetData wanted) due = due ≡ None
DueAs T (Answer id content) due = due ≡ None
DueAs T (Refuse id reason) due = due ≡ None

-- the tempo and the bound are as they were
pub record IsOnTempo (old new : WaitingSeen) : Type 0 where
  pub tempo : new.tempo ≡ old.tempo
  pub strict : new.strict ≡ old.strict

-- only what waits of simulator s has changed, from this to that
pub record IsHeldAnew (s : ℕ) (was now : List Held) (old new : WaitingSeen) : Type 0 where
  pub changed : IsChanged s was now old.holds new.holds
  pub moments : new.moments ≡ old.moments
  pub same : IsOnTempo old new

-- the item that the journal ends with waits last of simulator s, with this id
pub record IsHeldLast (core : CoreState) (s : SimNo) (item : Item) (id : ℕ)
    (old new : WaitingSeen) : Type 0 where
  pub was : List Held
  pub held : Held
  pub anew : IsHeldAnew s.0 was (was ++ held ∷ []) old new
  pub place : held.place + 1 ≡ length core.entries
  pub numbered : held.id ≡ id
  pub due : DueAs old.tempo item held.due

-- the Step that waits first of each simulator has a later moment than this
abbrev pub AreEarly : ℕ → List (List Held) → Type 0
AreEarly told holds = (i : ℕ) (q : List Held) (f : First) → slice_get holds i ≡ Some q
    → first_at (record { 0 = i }) q ≡ Some f → told < f.due.moment

-- the Step that waits first is this late at this reading, and more than is allowed
pub record IsTooLate (first : First) (told : ℕ) (W : WaitingSeen) (end : PaceEnd) : Type 0 where
  pub late : ℕ
  pub allowed : ℕ
  pub strict : W.strict ≡ Some allowed
  pub told_is : told ≡ first.due.moment + late
  pub beyond : allowed < late
  pub is : end ≡ pace.Late first.sim (first.due.at).time late allowed

-- a Step is at a time of a run, 0 to 1,000,000,000; another item has none
abbrev pub HasTime : Item → Type 0
HasTime (Step x inputs advance) = (pos 0 ≤ℤ x.time) × (x.time ≤ℤ latest_end)
HasTime (GetData wanted) = ⊤
HasTime (Answer id content) = ⊤
HasTime (Refuse id reason) = ⊤

-- something waits of simulator s
abbrev pub IsSomeHeld : ℕ → WaitingSeen → Type 0
IsSomeHeld s W = (h : Held) × (q : List Held) × (slice_get W.holds s ≡ Some (h ∷ q))

-- so many milliseconds behind this reading no Step that waits first of a simulator is overdue
abbrev pub IsInTime : ℕ → ℕ → List (List Held) → Type 0
IsInTime told ms holds = (i : ℕ) (q : List Held) (f : First) → slice_get holds i ≡ Some q
    → first_at (record { 0 = i }) q ≡ Some f → told + ms ≤ f.due.moment
