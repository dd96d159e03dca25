-- When the record of a paced run has to be there, and what it is.
use Rattle.std.specs.Prelude.{◌≡◌, ◌⊎◌, ℕ, ℤ, ⊤, List, map, Option, Some, Result, Ok, Err}
use Rattle.mk_plan.specs.declared.Plan.{Plan}
use Rattle.mk_plan.specs.declared.Entry.{Entry}
use Rattle.mk_scenario.specs.declared.parts.Scenario.{Scenario}
use Rattle.mk_record.specs.Texts.{record_text}
use Rattle.mk_pace_laws.specs.declared.end.Moment.{Moment}
use Rattle.mk_pace_laws.specs.declared.end.PaceEnd.{PaceEnd}
use Rattle.mk_pace_laws.specs.Paced.{HasPaced}
use Rattle.mosaikrun_check.specs.Runnable.{IsRunnable}
use Rattle.mk_local.specs.Kinds.{name_of}
use Rattle.mosaikrun_endings.specs.declared.ending.Ending.{Ending}
use Rattle.mosaikrun_endings.specs.declared.ending.Ending.TheVariants.{Late}
use Rattle.mosaikrun_run.specs.Outcomes.{IsReadAgain, IsSaid, Outside, attempt_in}
use Rattle.mosaikrun_run.specs.Records.{IsRunFault}
use Rattle.mosaikrun_sayings.specs.Sayings.{ids_of}
use Rattle.mosaikrun_paced.specs.Sayings.{pace_saying}

-- the ending is a Step that was too late
pub record IsLateEnding (e : Ending) : Type 0 where
  pub sim : List ℕ
  pub time : ℤ
  pub late : ℕ
  pub allowed : ℕ
  pub is : e ≡ Late sim time late allowed

-- all is done, the run met a fault, or a Step was too late
abbrev pub EndsOfItselfPaced : {V : Type 0} → Result V Ending → Type 0
EndsOfItselfPaced (Ok value) = ⊤
EndsOfItselfPaced (Err e) = IsRunFault e ⊎ IsLateEnding e

-- there is a record, which is that of the plan and the journal of a paced run of the scenario, with
-- its ranks, and says these where it is read again; and what was said of this same run, of its end,
-- is its report, or why there is none
pub record HasPaceRecord (O : Outside) (factor : ℕ) (strict : Option ℕ) (S : Scenario)
    (text : Result (List ℕ) Ending) (kept : Option (List ℕ)) : Type 0 where
  pub ranks : List ℕ
  pub runnable : IsRunnable (map name_of O.kinds) S ranks
  pub plan : Plan
  pub journal : List Entry
  pub moments : List Moment
  pub end : PaceEnd
  pub run : HasPaced (attempt_in O S ranks) factor strict plan journal moments O.faults
      O.new_faults end
  pub said : IsSaid (pace_saying (ids_of S) plan journal end) text
  pub is : kept ≡ Some (record_text plan journal)
  pub again : IsReadAgain plan journal (record_text plan journal)
