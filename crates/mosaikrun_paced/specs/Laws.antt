-- What the report of a paced run is, and where its record is there.
use Rattle.std.specs.Prelude.{◌≡◌, ◌⊎◌, ℕ, ◌<◌, Bool, true, List, Option, None, Result, Ok, Err}
use Rattle.mk_plan.specs.Agreement.{Alike}
use Rattle.mk_plan.specs.Plans.{sim_count}
use Rattle.mk_plan.specs.Report.{report}
use Rattle.mk_plan.specs.Sequential.{Messages, all_ended, run_items, sequential}
use Rattle.mk_scenario.specs.declared.parts.Scenario.{Scenario}
use Rattle.mk_run_laws.specs.Runs.{IsPossible}
use Rattle.mk_pace_laws.specs.Paced.{IsAwake}
use Rattle.mosaikrun_endings.specs.declared.ending.Ending.{Ending}
use Rattle.mosaikrun_endings.specs.declared.ending.Ending.TheVariants.{Mem}
use Rattle.mosaikrun_run.specs.declared.sayings.Form.TheVariants.{Report}
use Rattle.mosaikrun_run.specs.Outcomes.{IsPlayed, Outside, exchange_in}
use Rattle.mosaikrun_run.specs.Records.{IsStepSaid}
use Rattle.mosaikrun_paced.specs.Outcomes.{IsPacedRun, IsPacedScenario}
use Rattle.mosaikrun_paced.specs.Records.{HasPaceRecord, EndsOfItselfPaced}

-- the report of a paced run is that of what sequential execution of its plan sends each simulator, over
-- all messages that the links have brought and whatever may still come, those of simulators within
-- the program being their kinds'; and no turn in it is cut
abbrev pub PacedTextsAreSequential : Type 0
PacedTextsAreSequential = (O : Outside) (factor : ℕ) (strict : Option ℕ) (wanted : Bool)
    (S : Scenario) (text : List ℕ) (kept : Option (List ℕ))
    → (paced : IsPacedRun O factor strict wanted S (Ok text) kept) → (R : Messages)
    → IsPossible (exchange_in O S) paced.plan R
    → (text ≡ report paced.plan (run_items paced.plan R))
    × ((i : ℕ) → i < sim_count paced.plan → all_ended (sequential paced.plan R i) ≡ true)

-- a run and a paced run, whatever fleets they are over, at whatever pace, and whichever simulators
-- answer first: where they have the same plan, and over some messages that may come in each the
-- simulators answer alike wherever they were told the same, both have one report, if each has one
abbrev pub PacesAreOneText : Type 0
PacesAreOneText = (O Q : Outside) (factor : ℕ) (strict : Option ℕ) (wanted also : Bool)
    (S T : Scenario) (text other : List ℕ) (kept saved : Option (List ℕ))
    → (p : IsPlayed O Report wanted S (Ok text) kept)
    → (q : IsPacedRun Q factor strict also T (Ok other) saved) → q.plan ≡ p.plan → (R U : Messages)
    → IsPossible (exchange_in O S) p.plan R
    → IsPossible (exchange_in Q T) q.plan U → Alike p.plan R U
    → text ≡ other

-- where a record is wanted and memory isn't wanting: it is there where there is a report, where the
-- run met a fault, where a Step was too late, where the whole frame of a Step was said on a link, and
-- where the fleet slept; and where there is one, it is that of the run of which this was said
pub record PacedRecordsAreThere : Type 0 where
  pub there : (O : Outside) (factor : ℕ) (strict : Option ℕ) (S : Scenario)
      (text : Result (List ℕ) Ending) (kept : Option (List ℕ))
      → IsPacedScenario O factor strict true S text kept → (text ≡ Err Mem → ⊥)
      → EndsOfItselfPaced text ⊎ (IsStepSaid O.started S O.log ⊎ (IsAwake O.log → ⊥))
      → HasPaceRecord O factor strict S text kept
  pub only : (O : Outside) (factor : ℕ) (strict : Option ℕ) (S : Scenario)
      (text : Result (List ℕ) Ending) (kept : Option (List ℕ))
      → IsPacedScenario O factor strict true S text kept → (kept ≡ None)
      ⊎ HasPaceRecord O factor strict S text kept
