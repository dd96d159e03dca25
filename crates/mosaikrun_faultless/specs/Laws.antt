-- Where nothing goes wrong that a run can show.
use Rattle.std.specs.Prelude.{◌≡◌, ℕ, true, List, map, Option, Some, Ok}
use Rattle.mk_plan.specs.declared.Entry.{Entry}
use Rattle.mk_plan.specs.declared.Plan.{Plan}
use Rattle.mk_plan.specs.Journals.{arrivals}
use Rattle.mk_record.specs.Again.{steps_of}
use Rattle.mk_record.specs.Reading.{reading, Said}
use Rattle.mk_scenario.specs.declared.parts.Scenario.{Scenario}
use Rattle.mk_scenario.specs.Scenarios.{scenario_of}
use Rattle.mk_scenario.specs.Wellformed.{IsWellformed}
use Rattle.mk_launch.specs.Ready.{IsPrepared}
use Rattle.mk_local.specs.Kinds.{name_of}
use Rattle.mk_outside.specs.Counts.{HasRisen}
use Rattle.mk_run_crew.specs.Wholly.{is_wholly_within}
use Rattle.mk_run.specs.declared.outcome.Outcome.TheVariants.{Done}
use Rattle.mk_run.specs.Ran.{HasRun}
use Rattle.mosaikrun_check.specs.Runnable.{AreRanks}
use Rattle.mosaikrun_run.specs.Outcomes.{Outside, attempt_in}
use Rattle.mosaikrun_program.specs.Complete.{IsFaultlessPacedStudy, IsFaultlessResume, IsFaultlessStudy}
use Rattle.mosaikrun_faultless.specs.Within.{RecordsWithin, RunsWithin}

-- nothing goes wrong in a run within the program that meets no limit, whatever lies around it,
-- where no fault of the fleet was counted
abbrev pub WithinStudiesAreFaultless : Type 0
WithinStudiesAreFaultless = (O : Outside) (bytes : List ℕ) → RunsWithin O.kinds bytes
    → (HasRisen O.faults O.new_faults → ⊥) → IsFaultlessStudy O bytes

-- so it is of a run by a clock
abbrev pub WithinPacedStudiesAreFaultless : Type 0
WithinPacedStudiesAreFaultless = (O : Outside) (factor : ℕ) (strict : Option ℕ) (bytes : List ℕ)
    → RunsWithin O.kinds bytes → (HasRisen O.faults O.new_faults → ⊥)
    → IsFaultlessPacedStudy O factor strict bytes

-- and of one that goes on from a record of such a run
abbrev pub WithinResumesAreFaultless : Type 0
WithinResumesAreFaultless = (O : Outside) (bytes recorded : List ℕ)
    → RecordsWithin O.kinds bytes recorded → (HasRisen O.faults O.new_faults → ⊥)
    → IsFaultlessResume O bytes recorded

-- a scenario within the program of which some run came to its end meets no limit; and a record that
-- says the plan, the messages and the Steps of that run is one of such a run
abbrev pub DoneRunsAreWithin : Type 0
DoneRunsAreWithin = (O : Outside) (bytes : List ℕ) (S : Scenario) (ranks : List ℕ) (P : Plan)
    (J : List Entry) → scenario_of bytes ≡ Ok S → IsWellformed S → AreRanks S ranks
    → IsPrepared S (map name_of O.kinds) → is_wholly_within S ≡ true
    → HasRun (attempt_in O S ranks) P J O.faults O.new_faults Done
    → RunsWithin O.kinds bytes
    × ((recorded : List ℕ) → reading recorded ≡ Said P (arrivals J) (Some (steps_of J))
    → RecordsWithin O.kinds bytes recorded)
