-- What comes of a scenario, and of a scenario file's bytes, by the command `paced` over a fleet with a
-- clock.
use Rattle.std.specs.Prelude.{◌≡◌, ◌⊎◌, ℕ, Bool, List, map, Option, None, IfSome, Result, Ok, Err}
use Rattle.mk_plan.specs.declared.Plan.{Plan}
use Rattle.mk_plan.specs.declared.Entry.{Entry}
use Rattle.mk_scenario.specs.declared.parts.Scenario.{Scenario}
use Rattle.mk_scenario.specs.Scenarios.{scenario_of}
use Rattle.mk_scenario.specs.Wellformed.{IsWellformed}
use Rattle.mk_local.specs.Kinds.{name_of}
use Rattle.mk_pace_laws.specs.declared.end.Moment.{Moment}
use Rattle.mk_pace_laws.specs.declared.end.PaceEnd.{PaceEnd}
use Rattle.mk_pace_laws.specs.Paced.{HasPaced, IsAwake}
use Rattle.mosaikrun_check.specs.Runnable.{IsRunnable}
use Rattle.mosaikrun_endings.specs.declared.ending.Ending.{Ending}
use Rattle.mosaikrun_endings.specs.declared.ending.Ending.TheVariants as endings
use Rattle.mosaikrun_run.specs.Outcomes.{IsNoScenario, IsReadAgain, IsSaid, IsUnrunnableScenario, IsUnrun, Outside, attempt_in}
use Rattle.mosaikrun_run.specs.Sayings.{record_of}
use Rattle.mosaikrun_sayings.specs.Sayings.{ids_of}
use Rattle.mosaikrun_paced.specs.Sayings.{pace_saying}

-- the scenario can be run, but wasn't: the handshake ended early, memory was wanting, or the clock
-- failed when it was first looked at; and the fleet didn't sleep
pub record IsUnpaced (O : Outside) (S : Scenario) (text : Result (List ℕ) Ending)
    (kept : Option (List ℕ)) : Type 0 where
  pub unrun : IsUnrun O S text kept
  pub awake : IsAwake O.log

-- the scenario was run with so many milliseconds to a unit of time and so many by which a Step may be
-- late, where that is given; by this plan, with this journal, these moments and this end. What is
-- said is its report, or why there is none; and the record of the plan and the journal is made where
-- it is wanted, but for want of memory, which is then said; read again, it says this plan and journal
pub record IsPacedRun (O : Outside) (factor : ℕ) (strict : Option ℕ) (wanted : Bool) (S : Scenario)
    (text : Result (List ℕ) Ending) (kept : Option (List ℕ)) : Type 0 where
  pub ranks : List ℕ
  pub runnable : IsRunnable (map name_of O.kinds) S ranks
  pub plan : Plan
  pub journal : List Entry
  pub moments : List Moment
  pub end : PaceEnd
  pub run : HasPaced (attempt_in O S ranks) factor strict plan journal moments O.faults
      O.new_faults end
  pub said : IsSaid (pace_saying (ids_of S) plan journal end) text
  pub recorded : (kept ≡ record_of wanted plan journal)
      ⊎ ((kept ≡ None) × (text ≡ Err endings.Mem))
  pub again : IfSome kept (IsReadAgain plan journal)

-- what comes of a scenario: it can't be run, it wasn't, or it was
abbrev pub IsPacedScenario : Outside → ℕ → Option ℕ → Bool → Scenario → Result (List ℕ) Ending
    → Option (List ℕ) → Type 0
IsPacedScenario O factor strict wanted S text kept = IsUnrunnableScenario O S text kept
    ⊎ (IsUnpaced O S text kept ⊎ IsPacedRun O factor strict wanted S text kept)

-- the bytes are a scenario, which is well-formed, and this comes of it
pub record IsOfScenario (O : Outside) (factor : ℕ) (strict : Option ℕ) (wanted : Bool)
    (bytes : List ℕ) (text : Result (List ℕ) Ending) (kept : Option (List ℕ)) : Type 0 where
  pub scenario : Scenario
  pub read : scenario_of bytes ≡ Ok scenario
  pub wellformed : IsWellformed scenario
  pub outcome : IsPacedScenario O factor strict wanted scenario text kept

-- what `paced` makes of the bytes of a scenario's file, a record being wanted or not
abbrev pub IsPacedOutcome : Outside → ℕ → Option ℕ → Bool → List ℕ → Result (List ℕ) Ending
    → Option (List ℕ) → Type 0
IsPacedOutcome O factor strict wanted bytes text kept = IsNoScenario O bytes text kept
    ⊎ IsOfScenario O factor strict wanted bytes text kept
