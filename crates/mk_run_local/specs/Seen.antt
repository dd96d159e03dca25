-- The simulators within the program during a run, and the replies that are kept.
use Rattle.std.specs.Prelude.{◌≡◌, ℕ, true, List, [], map, Option, Some, None, is_some, slice_get, option_map, option_and_then}
use Rattle.mk_base.specs.declared.SimNo.{SimNo}
use Rattle.mk_base.specs.Lists.{IsIn}
use Rattle.mk_plan.specs.declared.Message.{Message}
use Rattle.mk_plan.specs.Journals.{Arrival}
use Rattle.mk_scenario.specs.declared.parts.Begin.{Begin}
use Rattle.mk_scenario.specs.declared.parts.Begin.TheVariants.{Command, Connect, Local}
use Rattle.mk_scenario.specs.declared.parts.SimPart.{SimPart}
use Rattle.mk_scenario.specs.declared.parts.Scenario.{Scenario}
use Rattle.mk_local.specs.declared.turn.Turn.{Turn}
use Rattle.mk_local.specs.Kinds.{kind_named}
use Rattle.mk_local.specs.Simulators.{Simulator, new_simulator}

-- one place for each simulator of the scenario, which has none where it has a link; and the kept
-- replies, the oldest first
pub record WithinState : Type 0 where
  pub sims : List (Option Simulator)
  pub kept : List Arrival

-- a reply that is kept, and the simulator that it is of
abbrev pub arrival : SimNo × Message → Arrival
arrival r = record { sim = r.0.0; message = r.1 }

-- simulator i, if it is within the program
abbrev pub sim_at : WithinState → ℕ → Option Simulator
sim_at W i = option_and_then (λ (o : Option Simulator). o) (slice_get W.sims i)

-- simulator i is within the program
abbrev pub IsHere : WithinState → ℕ → Type 0
IsHere W i = is_some (sim_at W i) ≡ true

-- each simulator is of one of these kinds
abbrev pub AreOf : List Turn → WithinState → Type 0
AreOf rows W = (i : ℕ) (L : Simulator) → sim_at W i ≡ Some L → IsIn L.kind rows

-- the simulator that is begun so, before any request, if it is within the program
abbrev pub begun_as : List Turn → Begin → Option Simulator
begun_as rows (Command template) = None
begun_as rows (Connect port) = None
begun_as rows (Local kind) = option_map new_simulator (kind_named kind rows)

-- that of a scenario's simulator
abbrev pub first_of : List Turn → SimPart → Option Simulator
first_of rows s = begun_as rows s.begin

-- all of a scenario before any request, where no reply is kept
abbrev pub new_within : List Turn → Scenario → WithinState
new_within rows S = record { sims = map (first_of rows) S.sims; kept = [] }
