-- How a paced run ends that has a plan, and what each end shows.
use Rattle.std.specs.Prelude.{◌≡◌, ◌≢◌, ℕ, ◌+◌, ◌<◌, ◌⊎◌, ℤ, List, ◌∷◌, ◌++◌, length, Option, Some, None}
use Rattle.mk_base.specs.declared.LinkNo.{LinkNo}
use Rattle.mk_base.specs.declared.SimNo.{SimNo}
use Rattle.mk_base.specs.declared.tier.Tier.{Tier}
use Rattle.mk_plan.specs.declared.Plan.{Plan}
use Rattle.mk_plan.specs.declared.Input.{Input}
use Rattle.mk_plan.specs.declared.Item.{Item}
use Rattle.mk_plan.specs.declared.Item.TheVariants.{Step}
use Rattle.mk_plan.specs.declared.Entry.{Entry}
use Rattle.mk_plan.specs.declared.Entry.TheVariants.{Sent}
use Rattle.mk_plan.specs.Plans.{first_id}
use Rattle.mk_plan.specs.Journals.{Fault, sent}
use Rattle.mk_plan.specs.Sequential.{id_after}
use Rattle.mk_frame.specs.Frames.{limit}
use Rattle.mk_message.specs.Written.{item_text}
use Rattle.mk_scenario.specs.declared.parts.Scenario.{Scenario}
use Rattle.mk_outside.specs.declared.fleet.LogEntry.{LogEntry}
use Rattle.mk_run_laws.specs.Exchanges.{Exchange}
use Rattle.mk_run_laws.specs.Handshake.{sim_link}
use Rattle.mk_run.specs.declared.outcome.Outcome.{Outcome}
use Rattle.mk_run.specs.declared.outcome.Outcome.TheVariants as outcome
use Rattle.mk_run.specs.Ends.{IsBrokenOff, QueuedAll, ShownBy, fault_named}
use Rattle.mk_pace_laws.specs.declared.end.Moment.{Moment}
use Rattle.mk_pace_laws.specs.declared.end.PaceEnd.{PaceEnd}
use Rattle.mk_pace_laws.specs.declared.end.PaceEnd.TheVariants as pace
use Rattle.mk_pace_laws.specs.Clocks.{last_told}
use Rattle.mk_pace_laws.specs.Moments.{Timing, moment_at, sent_out}

-- some item of the journal is one to i, which has a link, and its payload has n bytes, more than a
-- frame may have
pub record IsLongAmong (started : ℕ) (S : Scenario) (P : Plan) (J : List Entry)
    (i n : ℕ) : Type 0 where
  pub before : List Entry
  pub sim : SimNo
  pub item : Item
  pub later : List Entry
  pub is : J ≡ before ++ Sent sim item ∷ later
  pub to : sim.0 ≡ i
  pub link : LinkNo
  pub linked : sim_link started S i ≡ Some link
  pub bytes : length (item_text (id_after (first_id P i) (sent before i)) item) ≡ n
  pub beyond : limit < n

-- of simulator s this Step comes next of those that were never sent
abbrev pub IsNextStep : List Entry → List Moment → ℕ → Tier → Type 0
IsNextStep J moments s x = (inputs : List Input) × (advance : ℤ) × (more : List Item)
    × (sent J s ≡ sent_out J moments s ++ Step x inputs advance ∷ more)

-- the one Step was asked for before the other
abbrev pub IsAskedBefore : List Entry → SimNo → Tier → SimNo → Tier → Type 0
IsAskedBefore J s x t y = (before between after : List Entry) × (a b : List Input) × (m n : ℤ)
    × (J ≡ before ++ Sent s (Step x a m) ∷ (between ++ Sent t (Step y b n) ∷ after))

-- this Step was to be sent next, its moment being so many milliseconds before what the clock told
-- last, which is more than are allowed
pub record IsLate (T : Timing) (J : List Entry) (log : List LogEntry) (sim : SimNo) (time : ℤ)
    (late allowed : ℕ) : Type 0 where
  pub strict_is : T.strict ≡ Some allowed
  pub at : Tier
  pub time_is : at.time ≡ time
  pub next : IsNextStep J T.moments sim.0 at
  pub first : (t : SimNo) (y : Tier) → t.0 ≢ sim.0 → IsNextStep J T.moments t.0 y
      → (moment_at T.tempo time < moment_at T.tempo y.time)
      ⊎ ((moment_at T.tempo time ≡ moment_at T.tempo y.time) × IsAskedBefore J sim at t y)
  pub told : last_told log ≡ moment_at T.tempo time + late
  pub beyond : allowed < late

-- what an outcome shows
abbrev pub ShowsOutcome : Exchange → Plan → List Entry → ℕ → ℕ → Outcome → Type 0
ShowsOutcome X P J faults new_faults outcome.Done = ShownBy X P J faults new_faults outcome.Done
ShowsOutcome X P J faults new_faults (outcome.Setup f) = ShownBy X P J faults new_faults
    (outcome.Setup f)
ShowsOutcome X P J faults new_faults (outcome.Core f) = ShownBy X P J faults new_faults
    (outcome.Core f)
ShowsOutcome X P J faults new_faults outcome.Fleet = ShownBy X P J faults new_faults outcome.Fleet
ShowsOutcome X P J faults new_faults (outcome.Gone i) = ShownBy X P J faults new_faults
    (outcome.Gone i)
ShowsOutcome X P J faults new_faults (outcome.Garbled i n) = ShownBy X P J faults new_faults
    (outcome.Garbled i n)
ShowsOutcome X P J faults new_faults (outcome.LongFrame i n) = ShownBy X P J faults new_faults
    (outcome.LongFrame i n)
ShowsOutcome X P J faults new_faults (outcome.LongItem i n) = IsLongAmong X.started X.scenario P J
    i.0 n
ShowsOutcome X P J faults new_faults outcome.Mem = ShownBy X P J faults new_faults outcome.Mem

-- what an end shows
abbrev pub Shows : Exchange → Plan → List Entry → Timing → ℕ → ℕ → PaceEnd → Type 0
Shows X P J T faults new_faults (pace.Outcome end) = ShowsOutcome X P J faults new_faults end
Shows X P J T faults new_faults
    (pace.Late sim time late allowed) = IsLate T J X.log sim time late allowed

-- every item that was to be sent was queued; but for the last ones, where one was too long or there
-- was no memory for it
abbrev pub QueuedOut : PaceEnd → List Item → List Item → Type 0
QueuedOut (pace.Outcome end) all queued = QueuedAll end all queued
QueuedOut (pace.Late sim time late allowed) all queued = queued ≡ all

-- the fault of a journal that the end names
abbrev pub fault_of : PaceEnd → Option Fault
fault_of (pace.Outcome end) = fault_named end
fault_of (pace.Late sim time late allowed) = None

-- the run was broken off: the fleet failed, or a link ended or brought no message
abbrev pub IsBroken : PaceEnd → Type 0
IsBroken (pace.Outcome end) = IsBrokenOff end
IsBroken (pace.Late sim time late allowed) = ⊥
