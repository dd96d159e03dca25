-- Which simulators of a scenario can be begun.
use Rattle.std.specs.Prelude.{◌≡◌, ℕ, List, Option, Some, None, take, slice_get, if◌then◌else◌}
use Rattle.std.specs.Result.{result_err}
use Rattle.mk_base.specs.Lists.{Each, is_among}
use Rattle.mk_scenario.specs.declared.parts.Begin.{Begin}
use Rattle.mk_scenario.specs.declared.parts.Begin.TheVariants.{Command, Connect, Local}
use Rattle.mk_scenario.specs.declared.parts.SimPart.{SimPart}
use Rattle.mk_scenario.specs.declared.parts.Scenario.{Scenario}
use Rattle.mk_launch.specs.declared.faults.LaunchFault.{LaunchFault}
use Rattle.mk_launch.specs.declared.faults.LaunchFault.TheVariants.{NoKind}
use Rattle.mk_launch.specs.declared.faults.Unready.{Unready}
use Rattle.mk_launch.specs.Words.{template_words}

-- why a simulator can't be begun so, the kinds having these names: its template has a fault, or
-- there is no kind of its name
abbrev pub begin_fault : List (List ℕ) → Begin → Option LaunchFault
begin_fault kinds (Command template) = result_err (template_words template)
begin_fault kinds (Connect port) = None
begin_fault kinds (Local kind) = if is_among kinds kind then None else Some NoKind

-- the simulator can be begun
abbrev pub CanBegin : List (List ℕ) → SimPart → Type 0
CanBegin kinds sim = begin_fault kinds sim.begin ≡ None

-- all simulators can be begun
abbrev pub IsPrepared : Scenario → List (List ℕ) → Type 0
IsPrepared S kinds = Each (CanBegin kinds) S.sims

-- the first simulator that can't be begun, and why
pub record IsFirstFault (S : Scenario) (kinds : List (List ℕ)) (unready : Unready) : Type 0 where
  pub sim : SimPart
  pub there : slice_get S.sims unready.sim.0 ≡ Some sim
  pub cause : begin_fault kinds sim.begin ≡ Some unready.fault
  pub before : Each (CanBegin kinds) (take unready.sim.0 S.sims)
