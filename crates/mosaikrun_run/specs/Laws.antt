-- What the text of a run is, and where its record is there.
use Rattle.std.specs.Prelude.{◌≡◌, ◌⊎◌, ℕ, ◌<◌, Bool, true, List, Option, None, Result, Ok, Err}
use Rattle.mk_plan.specs.Agreement.{Alike}
use Rattle.mk_plan.specs.Journals.{got}
use Rattle.mk_plan.specs.Plans.{sim_count}
use Rattle.mk_plan.specs.Sequential.{Messages, all_ended, run_items, run_talk, sequential}
use Rattle.mk_scenario.specs.declared.parts.Scenario.{Scenario}
use Rattle.mk_scenario.specs.Scenarios.{scenario_of}
use Rattle.mk_scenario.specs.Wellformed.{IsWellformed}
use Rattle.mk_run_laws.specs.Runs.{IsPossible}
use Rattle.mk_run_crew.specs.Wholly.{is_wholly_within}
use Rattle.mosaikrun_endings.specs.declared.ending.Ending.{Ending}
use Rattle.mosaikrun_endings.specs.declared.ending.Ending.TheVariants.{Mem}
use Rattle.mosaikrun_run.specs.declared.sayings.Form.{Form}
use Rattle.mosaikrun_run.specs.Outcomes.{IsPlayed, IsRunOutcome, IsScenarioOutcome, Outside, exchange_in}
use Rattle.mosaikrun_run.specs.Records.{HasRecord, EndsOfItself, IsStepSaid}
use Rattle.mosaikrun_run.specs.Sayings.{text_of}

-- the report of a run, or its summary, is that of what sequential execution of its plan sends each
-- simulator, over all messages that the links have brought and whatever may still come, those of
-- simulators within the program being their kinds'; and no turn in it is cut
abbrev pub TextsAreSequential : Type 0
TextsAreSequential = (O : Outside) (form : Form) (wanted : Bool) (S : Scenario) (text : List ℕ)
    (record_ : Option (List ℕ)) → (played : IsPlayed O form wanted S (Ok text) record_)
    → (R : Messages) → IsPossible (exchange_in O S) played.plan R
    → (text ≡ text_of form played.plan (run_items played.plan R))
    × ((i : ℕ) → i < sim_count played.plan → all_ended (sequential played.plan R i) ≡ true)

-- two runs of one scenario, whatever fleets they are over and whichever simulators answer first: where
-- the replies to the handshake are the same, and over some messages that may come in each the
-- simulators answer alike wherever they were told the same, both have one text, if each has one
abbrev pub AlikeIsOneText : Type 0
AlikeIsOneText = (O Q : Outside) (form : Form) (wanted also : Bool) (S : Scenario)
    (text other : List ℕ) (kept saved : Option (List ℕ))
    → (p : IsPlayed O form wanted S (Ok text) kept)
    → (q : IsPlayed Q form also S (Ok other) saved) → q.run.answers ≡ p.run.answers
    → (R T : Messages) → IsPossible (exchange_in O S) p.plan R
    → IsPossible (exchange_in Q S) q.plan T → Alike p.plan R T
    → text ≡ other

-- where a record is wanted and memory isn't wanting: it is there where there is a text, where the
-- run met a fault, and where the whole frame of a Step was said on a link; and where there is one,
-- it is that of the run of which this was said
pub record RecordsAreThere : Type 0 where
  pub there : (O : Outside) (form : Form) (S : Scenario) (text : Result (List ℕ) Ending)
      (kept : Option (List ℕ)) → IsScenarioOutcome O form true S text kept → (text ≡ Err Mem → ⊥)
      → EndsOfItself text ⊎ IsStepSaid O.started S O.log → HasRecord O form S text kept
  pub only : (O : Outside) (form : Form) (S : Scenario) (text : Result (List ℕ) Ending)
      (kept : Option (List ℕ)) → IsScenarioOutcome O form true S text kept → (kept ≡ None)
      ⊎ HasRecord O form S text kept

-- all simulators of a scenario being within the program, two runs of it that have texts have the
-- same, whatever fleets they are over, so the report is a function of the bytes of the scenario's
-- file; and they have the same plan, and all that is said with each simulator is the same
pub record WithinIsOneText : Type 0 where
  pub scenarios : (O Q : Outside) (form : Form) (wanted also : Bool) (S : Scenario)
      (text other : List ℕ) (kept saved : Option (List ℕ)) → Q.kinds ≡ O.kinds → IsWellformed S
      → is_wholly_within S ≡ true
      → IsScenarioOutcome O form wanted S (Ok text) kept
      → IsScenarioOutcome Q form also S (Ok other) saved → text ≡ other
  pub files : (O Q : Outside) (wanted also : Bool) (bytes text other : List ℕ)
      (kept saved : Option (List ℕ)) → Q.kinds ≡ O.kinds
      → ((S : Scenario) → scenario_of bytes ≡ Ok S → is_wholly_within S ≡ true)
      → IsRunOutcome O wanted bytes (Ok text) kept → IsRunOutcome Q also bytes (Ok other) saved
      → text ≡ other
  pub talks : (O Q : Outside) (form : Form) (wanted also : Bool) (S : Scenario)
      (text other : List ℕ) (kept saved : Option (List ℕ)) → Q.kinds ≡ O.kinds → IsWellformed S
      → is_wholly_within S ≡ true
      → (p : IsPlayed O form wanted S (Ok text) kept)
      → (q : IsPlayed Q form also S (Ok other) saved) → (q.plan ≡ p.plan)
      × ((i : ℕ) → run_talk p.plan (got p.journal) i ≡ run_talk q.plan (got q.journal) i)
