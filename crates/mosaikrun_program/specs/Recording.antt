-- What becomes of the file that a run saves its record in.
use Rattle.std.specs.Prelude.{◌≡◌, ◌⊎◌, ℕ, List, Some, option_map, IfSome, Result, Ok}
use Rattle.mk_outside.specs.Counts.{HasRisen}
use Rattle.mk_outside.specs.Folders.{with_file}
use Rattle.mosaikrun_words.specs.declared.request.Request.TheVariants.{Run}
use Rattle.mk_scenario.specs.declared.parts.Scenario.{Scenario}
use Rattle.mk_scenario.specs.Scenarios.{scenario_of}
use Rattle.mosaikrun_endings.specs.declared.ending.Ending.{Ending}
use Rattle.mosaikrun_run.specs.declared.sayings.Form.TheVariants.{Report}
use Rattle.mosaikrun_run.specs.Records.{HasRecord, EndsOfItself, IsStepSaid}
use Rattle.mosaikrun_program.specs.Around.{Around}
use Rattle.mosaikrun_program.specs.Commands.{IsAsked}
use Rattle.mosaikrun_program.specs.Running.{RunAnswer}

-- the bytes are a scenario, the file of this name holds the record of the plan and the journal of a
-- run of it, and all other files are as before; what was said of this run is what the answer tells
pub record HoldsRecord (S : Around) (answer : Result (Unit {0}) Ending)
    (bytes name : List ℕ) : Type 0 where
  pub scenario : Scenario
  pub read : scenario_of bytes ≡ Ok scenario
  pub said : Result (List ℕ) Ending
  pub text : List ℕ
  pub record_ : HasRecord S.outside Report scenario said (Some text)
  pub answered : RunAnswer S.folder S.output (Some name) said (Some text) answer
  pub saved : S.folder.files_after ≡ option_map (with_file name text) S.folder.files

-- the file of this name holds such a record wherever all is done, the run met a fault, or the whole
-- frame of a Step was said on a link; else it holds one, or all files are as before
pub record KeepsRecord (S : Around) (answer : Result (Unit {0}) Ending)
    (bytes name : List ℕ) : Type 0 where
  pub either : (S.folder.files_after ≡ S.folder.files) ⊎ HoldsRecord S answer bytes name
  pub of_itself : EndsOfItself answer → HoldsRecord S answer bytes name
  pub said : (scenario : Scenario) → scenario_of bytes ≡ Ok scenario
      → IsStepSaid S.outside.started scenario S.outside.log → HoldsRecord S answer bytes name

-- so it is where the words ask for a run of a scenario, whose file has these bytes, and give this
-- name for its record, the folder tells, its count of faults didn't rise, and the status isn't 8
abbrev pub IsRecordKept : Around → Result (Unit {0}) Ending → ℕ → Type 0
IsRecordKept S answer n = IfSome S.folder.files (λ held. (scenario name bytes : List ℕ)
    → IsAsked S.words (Run scenario (Some name)) → held scenario ≡ Some bytes
    → (HasRisen S.folder.faults S.folder.new_faults → ⊥) → (n ≡ 8 → ⊥)
    → KeepsRecord S answer bytes name)
