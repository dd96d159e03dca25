-- For proofs alone. What stands from one message to the next in a replay in another order.
use Rattle.std.specs.Prelude.{◌≡◌, ℕ, ◌<◌, ◌≤◌, ◌⊎◌, Bool, true, false, ◌&&◌, ◌||◌, ◌==◌, not, List, [], ◌∷◌, ◌++◌, length, filter, reverse, Option, Some, None, is_some, slice_get, slice_set, ◌-◌}
use Rattle.std.specs.List.{range_with_len, list_all}
use Rattle.mk_plan.specs.declared.Message.{Message}
use Rattle.mk_plan.specs.declared.Entry.{Entry}
use Rattle.mk_plan.specs.declared.Entry.TheVariants.{Got}
use Rattle.mk_plan.specs.Plans.{sim_count}
use Rattle.mk_plan.specs.Journals as journals
use Rattle.mk_plan.specs.Journals.{arrivals}
use Rattle.mk_sched.specs.declared.faults.CoreFault.{CoreFault}
use Rattle.mk_sched.specs.Cores.{CoreState}
use Rattle.mk_sched.specs.Answers.{open_id}
use Rattle.mk_record_replay.specs.declared.replaying.ReplayEnd.{ReplayEnd}
use Rattle.mk_record_replay.specs.declared.replaying.ReplayEnd.TheVariants.{Core}
use Rattle.mk_record_replay.specs.declared.ordering.Given.{Given}
use Rattle.mk_record_replay.specs.declared.ordering.Given.TheVariants.{Going, Nothing, Stopped}
use Rattle.mk_record_replay.specs.Replays.{messages_from}
use Rattle.mk_record_replay.specs.inner.Loops.{IsOnWay, GivenBy}
use Rattle.mk_record_replay.specs.Orders.{IsInOrder, IsReplayInOrder, SameMessages, number_after}
use Rattle.mk_plan.specs.Messages.{is_message_in_range}

-- the messages of each simulator that have to come, behind those that came: the next one is the
-- last
pub record AreWaiting (count : ℕ) (A came : List journals.Arrival)
    (waiting : List (List Message)) : Type 0 where
  pub all : length waiting ≡ count
  pub each : (i : ℕ) (left : List Message) → slice_get waiting i ≡ Some left
      → messages_from A i ≡ messages_from came i ++ reverse left
  pub beyond : (i : ℕ) → count ≤ i → messages_from came i ≡ messages_from A i

-- the core takes each of them
pub record AreFit (count : ℕ) (waiting : List (List Message)) : Type 0 where
  pub all : length waiting ≡ count
  pub each : (i : ℕ) (left : List Message) → slice_get waiting i ≡ Some left
      → list_all is_message_in_range left ≡ true

abbrev pub is_some_left : Option (List Message) → Bool
is_some_left None = false
is_some_left (Some left) = not (length left == 0)

-- the simulator has a message left and, unless any will do, an open request
abbrev pub may_be_next : Bool → CoreState → List (List Message) → ℕ → Bool
may_be_next any core waiting i = (any || is_some (open_id core i))
    && is_some_left (slice_get waiting i)

-- those of so many simulators that may be next, in rising number
abbrev pub next_among : Bool → CoreState → List (List Message) → ℕ → List ℕ
next_among any core waiting count = filter (may_be_next any core waiting) (range_with_len 0 count)

-- what stands between two messages
pub record IsBetween (A : List journals.Arrival) (N : ℕ) (core : CoreState)
    (waiting : List (List Message)) (number : ℕ) : Type 0 where
  pub on_way : IsOnWay core.plan (arrivals core.entries) core.entries
  pub in_order : IsInOrder core.plan A N core.entries
  pub drawn : number ≡ number_after core.plan A N core.entries
  pub lists : AreWaiting (sim_count core.plan) A (arrivals core.entries) waiting

-- the entries grew by a message, and perhaps by what was sent then; where a fault ended the replay,
-- by a message or by nothing
abbrev pub GrownBy : CoreState → journals.Arrival → Option CoreFault → CoreState → Type 0
GrownBy old a None new = (more : List Entry)
    × (new.entries ≡ old.entries ++ Got (record { 0 = a.sim }) a.message ∷ more)
    × (arrivals more ≡ []) × (length new.entries ≤ new.plan.entries)
GrownBy old a (Some f) new = (new.entries ≡ old.entries)
    ⊎ (new.entries ≡ old.entries ++ Got (record { 0 = a.sim }) a.message ∷ [])

-- what comes of giving one message
abbrev pub GivenMessage : CoreState → journals.Arrival → Given → CoreState → Type 0
GivenMessage old a Going new = GivenBy old a None new × GrownBy old a None new
GivenMessage old a Nothing new = ⊥
GivenMessage old a (Stopped f) new = GivenBy old a (Some f) new × GrownBy old a (Some f) new

-- the last of a simulator's messages was taken off, if there was one
abbrev pub IsPopped : List (List Message) → ℕ → List Message → Option Message → List (List Message)
    → Type 0
IsPopped old i left None new = left ≡ []
IsPopped old i left (Some m) new = (less : List Message) × (left ≡ less ++ m ∷ [])
    × (new ≡ slice_set old i less)

-- the core has met no fault, and takes the messages that are left
abbrev pub CanGoOn : CoreState → List (List Message) → Type 0
CanGoOn core waiting = (core.ended ≡ None) × AreFit (sim_count core.plan) waiting

-- the core goes on with the same plan, and its journal has less room than before
pub record HasMoved (old new : CoreState) (waiting : List (List Message)) : Type 0 where
  pub going : new.ended ≡ None
  pub plan : new.plan ≡ old.plan
  pub fit : AreFit (sim_count new.plan) waiting
  pub room : new.plan.entries - length new.entries < old.plan.entries - length old.entries

-- a message was given, and the replay goes on
pub record HasGone (A : List journals.Arrival) (N : ℕ) (old new : CoreState)
    (waiting : List (List Message)) (number : ℕ) : Type 0 where
  pub plan : new.plan ≡ old.plan
  pub between : IsBetween A N new waiting number

-- no message is left
pub record IsAllGiven (A : List journals.Arrival) (old new : CoreState) : Type 0 where
  pub same : new ≡ old
  pub all : SameMessages A (arrivals old.entries)

-- the replay has come to this end
pub record HasEnded (A : List journals.Arrival) (N : ℕ) (old : CoreState) (end : ReplayEnd)
    (new : CoreState) : Type 0 where
  pub plan : new.plan ≡ old.plan
  pub replay : IsReplayInOrder old.plan A N new.entries end

-- what comes of giving the message that is next
abbrev pub GivenNext : List journals.Arrival → ℕ → CoreState → Given → CoreState
    → List (List Message) → ℕ → Type 0
GivenNext A N old Going new waiting number = HasGone A N old new waiting number
GivenNext A N old Nothing new waiting number = IsAllGiven A old new
GivenNext A N old (Stopped f) new waiting number = HasEnded A N old (Core f) new

-- what a round comes to: a message was given, or the replay has ended
abbrev pub RoundOf : List journals.Arrival → ℕ → CoreState → Option ReplayEnd → CoreState
    → List (List Message) → ℕ → Type 0
RoundOf A N old None new waiting number = HasGone A N old new waiting number
RoundOf A N old (Some end) new waiting number = HasEnded A N old end new
