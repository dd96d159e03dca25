-- When nothing is done with the fleet.
use Rattle.std.specs.Prelude.{◌≡◌, ◌⊎◌, ℕ, true, List, Option, Some, Ok}
use Rattle.mk_outside.specs.Folders.{Files}
use Rattle.mk_scenario.specs.declared.parts.Scenario.{Scenario}
use Rattle.mk_scenario.specs.Scenarios.{scenario_of}
use Rattle.mosaikrun_words.specs.declared.request.Request.TheVariants.{Run, Resume, Paced}
use Rattle.mk_run_crew.specs.Wholly.{is_wholly_within}
use Rattle.mosaikrun_program.specs.Commands.{IsAsked}

-- the words ask for no run, for none that goes on, and for none by a clock
pub record IsNoRun (words : List (List ℕ)) : Type 0 where
  pub run : (scenario : List ℕ) (saved : Option (List ℕ)) → IsAsked words (Run scenario saved) → ⊥
  pub resume : (scenario recorded : List ℕ) (saved : Option (List ℕ))
      → IsAsked words (Resume scenario recorded saved) → ⊥
  pub paced : (scenario : List ℕ) (factor : ℕ) (strict : Option ℕ) (saved : Option (List ℕ))
      → IsAsked words (Paced scenario factor strict saved) → ⊥

-- the bytes are a scenario whose simulators are all within the program
pub record IsWithin (bytes : List ℕ) : Type 0 where
  pub scenario : Scenario
  pub read : scenario_of bytes ≡ Ok scenario
  pub within : is_wholly_within scenario ≡ true

-- the folder tells that the file of this name is such a scenario
pub record IsHeldWithin (files : Option Files) (name : List ℕ) : Type 0 where
  pub held : Files
  pub told : files ≡ Some held
  pub bytes : List ℕ
  pub there : held name ≡ Some bytes
  pub within : IsWithin bytes

-- the words ask for a run of such a file
pub record IsRunWithin (words : List (List ℕ)) (files : Option Files) : Type 0 where
  pub name : List ℕ
  pub saved : Option (List ℕ)
  pub asked : IsAsked words (Run name saved)
  pub file : IsHeldWithin files name

-- the words ask to go on with one from a record
pub record IsResumeWithin (words : List (List ℕ)) (files : Option Files) : Type 0 where
  pub name : List ℕ
  pub recorded : List ℕ
  pub saved : Option (List ℕ)
  pub asked : IsAsked words (Resume name recorded saved)
  pub file : IsHeldWithin files name

-- no run is asked for, by a clock or without, nor one that goes on; or the folder tells that the
-- scenario of the run, or of the one that goes on, has no simulator with a link
abbrev pub NeedsNoFleet : List (List ℕ) → Option Files → Type 0
NeedsNoFleet words files = IsNoRun words ⊎ (IsRunWithin words files ⊎ IsResumeWithin words files)
