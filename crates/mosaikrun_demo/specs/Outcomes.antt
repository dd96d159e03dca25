-- What `demo` makes of a size over a fleet.
use Rattle.std.specs.Prelude.{ℕ, false, List, None, Result}
use Rattle.mk_scenario_demo.specs.Demo.{demo_scenario}
use Rattle.mosaikrun_endings.specs.declared.ending.Ending.{Ending}
use Rattle.mosaikrun_run.specs.declared.sayings.Form.TheVariants.{Summary}
use Rattle.mosaikrun_run.specs.Outcomes.{IsScenarioOutcome, Outside}

-- what comes of the demo scenario of this size, whose summary is wanted, and no record
abbrev pub IsDemoOutcome : Outside → ℕ → Result (List ℕ) Ending → Type 0
IsDemoOutcome O size text = IsScenarioOutcome O Summary false (demo_scenario size) text None
