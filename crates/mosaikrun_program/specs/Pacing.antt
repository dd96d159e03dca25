-- What a call has done that runs a scenario by a clock: that it is right, and what becomes of the file
-- that it saves its record in.
use Rattle.std.specs.Prelude.{◌≡◌, ◌⊎◌, ℕ, List, Option, Some, option_map, IfSome, Result, Ok, Err}
use Rattle.mk_plan.specs.declared.Plan.{Plan}
use Rattle.mk_plan.specs.declared.Entry.{Entry}
use Rattle.mk_plan.specs.Report.{report}
use Rattle.mk_plan.specs.Sequential.{Messages, run_items}
use Rattle.mk_outside.specs.Counts.{HasRisen}
use Rattle.mk_outside.specs.Folders.{with_file}
use Rattle.mk_outside.specs.Sinks.{appended}
use Rattle.mk_scenario.specs.declared.parts.Scenario.{Scenario}
use Rattle.mk_scenario.specs.Scenarios.{scenario_of}
use Rattle.mk_record.specs.Texts.{record_text}
use Rattle.mk_run_laws.specs.Runs.{IsPossible}
use Rattle.mk_setup.specs.Ranked.{AreRanksOf}
use Rattle.mk_pace_laws.specs.declared.end.Moment.{Moment}
use Rattle.mk_run.specs.declared.outcome.Outcome.TheVariants as outcome
use Rattle.mk_pace_laws.specs.declared.end.PaceEnd.{PaceEnd}
use Rattle.mk_pace_laws.specs.declared.end.PaceEnd.TheVariants as pace_end
use Rattle.mk_pace_laws.specs.Laws.{IsRightPace}
use Rattle.mk_pace_laws.specs.Paced.{HasPaced, IsAwake}
use Rattle.mosaikrun_words.specs.declared.request.Request.TheVariants.{Paced}
use Rattle.mosaikrun_endings.specs.declared.ending.Ending.{Ending}
use Rattle.mosaikrun_endings.specs.declared.ending.Ending.TheVariants as endings
use Rattle.mosaikrun_run.specs.Outcomes.{Outside, attempt_in, exchange_in}
use Rattle.mosaikrun_run.specs.Records.{IsStepSaid}
use Rattle.mosaikrun_paced.specs.Outcomes.{IsUnpaced}
use Rattle.mosaikrun_paced.specs.Records.{HasPaceRecord, EndsOfItselfPaced}
use Rattle.mosaikrun_program.specs.Around.{Around}
use Rattle.mosaikrun_program.specs.Commands.{IsAsked, HasBytes}
use Rattle.mosaikrun_program.specs.Running.{RunAnswer}

-- the scenario, with its ranks, was run by the clock, by this plan, with this journal and these
-- moments: what was said on each link begins what sequential execution sends, no Step before its
-- moment, each Step's max_advance is a promise, and where the fleet slept, its clock never having
-- gone back and no simulator being within the program, nothing was due. Where memory was wanting
-- the status is 8. At status 0 all is done; there are messages that may still come, and over
-- whichever do the output has grown by exactly the report of what sequential execution sends; and
-- the record of the plan and the journal was saved under the name that was given for it
pub record IsRightPacedRun (C : Around) (factor : ℕ) (strict : Option ℕ) (S : Scenario)
    (saved : Option (List ℕ)) (n : ℕ) : Type 0 where
  pub ranks : List ℕ
  pub ranked : AreRanksOf S ranks
  pub plan : Plan
  pub journal : List Entry
  pub moments : List Moment
  pub end : PaceEnd
  pub run : HasPaced (attempt_in C.outside S ranks) factor strict plan journal moments
      C.outside.faults C.outside.new_faults end
  pub right : IsRightPace (exchange_in C.outside S) plan journal moments
      (HasRisen C.outside.faults C.outside.new_faults) end
  pub done : n ≡ 0 → end ≡ pace_end.Outcome outcome.Done
  pub wanting : end ≡ pace_end.Outcome outcome.Mem → n ≡ 8
  pub possible : n ≡ 0 → (R : Messages) × IsPossible (exchange_in C.outside S) plan R
  pub text : n ≡ 0 → (R : Messages) → IsPossible (exchange_in C.outside S) plan R
      → C.output.after ≡ appended (report plan (run_items plan R)) C.output.before
  pub recorded : n ≡ 0 → (name : List ℕ) → saved ≡ Some name → C.folder.files_after
      ≡ option_map (with_file name (record_text plan journal)) C.folder.files

-- the scenario wasn't run: the handshake ended early, memory was wanting, or the clock failed when it
-- was first looked at
abbrev pub IsUnpacedBy : Outside → Scenario → Type 0
IsUnpacedBy O S = (text : Result (List ℕ) Ending) × (kept : Option (List ℕ))
    × IsUnpaced O S text kept

-- so nothing was put out, and the status isn't 0, and 8 where memory was wanting
pub record IsNotPaced (C : Around) (S : Scenario) (n : ℕ) : Type 0 where
  pub unpaced : IsUnpacedBy C.outside S
  pub wanting : unpaced.0 ≡ Err endings.Mem → n ≡ 8
  pub unput : C.output.after ≡ C.output.before
  pub status : n ≡ 0 → ⊥

-- the file of this name, where the folder tells, has bytes that are a scenario, which was run by the
-- clock, or wasn't
pub record IsRightPaced (C : Around) (name : List ℕ) (factor : ℕ) (strict : Option ℕ)
    (saved : Option (List ℕ)) (n : ℕ) : Type 0 where
  pub bytes : List ℕ
  pub held : HasBytes C.folder.files name bytes
  pub scenario : Scenario
  pub read : scenario_of bytes ≡ Ok scenario
  pub went : IsNotPaced C scenario n ⊎ IsRightPacedRun C factor strict scenario saved n

-- the words ask for a run by a clock
pub record AsksForPace (words : List (List ℕ)) : Type 0 where
  pub scenario : List ℕ
  pub factor : ℕ
  pub strict : Option ℕ
  pub saved : Option (List ℕ)
  pub asked : IsAsked words (Paced scenario factor strict saved)

-- the bytes are a scenario, the file of this name holds the record of the plan and the journal of a
-- paced run of it, and all other files are as before; what was said of this run is what the answer
-- tells
pub record HoldsPaceRecord (S : Around) (answer : Result (Unit {0}) Ending) (factor : ℕ)
    (strict : Option ℕ) (bytes name : List ℕ) : Type 0 where
  pub scenario : Scenario
  pub read : scenario_of bytes ≡ Ok scenario
  pub said : Result (List ℕ) Ending
  pub text : List ℕ
  pub record_ : HasPaceRecord S.outside factor strict scenario said (Some text)
  pub answered : RunAnswer S.folder S.output (Some name) said (Some text) answer
  pub saved : S.folder.files_after ≡ option_map (with_file name text) S.folder.files

-- the file of this name holds such a record wherever all is done, the run met a fault, a Step was too
-- late, the whole frame of a Step was said on a link, or the fleet slept; else it holds one, or all
-- files are as before
pub record KeepsPaceRecord (S : Around) (answer : Result (Unit {0}) Ending) (factor : ℕ)
    (strict : Option ℕ) (bytes name : List ℕ) : Type 0 where
  pub either : (S.folder.files_after ≡ S.folder.files)
      ⊎ HoldsPaceRecord S answer factor strict bytes name
  pub of_itself : EndsOfItselfPaced answer → HoldsPaceRecord S answer factor strict bytes name
  pub said : (scenario : Scenario) → scenario_of bytes ≡ Ok scenario
      → IsStepSaid S.outside.started scenario S.outside.log
      → HoldsPaceRecord S answer factor strict bytes name
  pub slept : (IsAwake S.outside.log → ⊥) → HoldsPaceRecord S answer factor strict bytes name

-- so it is where the words ask for a paced run of a scenario, whose file has these bytes, and give this
-- name for its record, the folder tells, its count of faults didn't rise, and the status isn't 8
abbrev pub IsPaceRecordKept : Around → Result (Unit {0}) Ending → ℕ → Type 0
IsPaceRecordKept S answer n = IfSome S.folder.files
    (λ held. (scenario : List ℕ) (factor : ℕ) (strict : Option ℕ) (name bytes : List ℕ)
    → IsAsked S.words (Paced scenario factor strict (Some name)) → held scenario ≡ Some bytes
    → (HasRisen S.folder.faults S.folder.new_faults → ⊥) → (n ≡ 8 → ⊥)
    → KeepsPaceRecord S answer factor strict bytes name)
