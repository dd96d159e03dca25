-- What `check` finds of a scenario file's bytes, the kinds of simulators within the program having
-- certain names.
use Rattle.std.specs.Prelude.{◌≡◌, ◌⊎◌, ℕ, List, Result, Ok, Err}
use Rattle.mk_scenario_keys.specs.declared.fault.ScenarioFault.{ScenarioFault}
use Rattle.mk_scenario.specs.declared.parts.Scenario.{Scenario}
use Rattle.mk_scenario.specs.Scenarios.{scenario_of}
use Rattle.mk_launch.specs.Ready.{IsPrepared}
use Rattle.mosaikrun_endings.specs.declared.ending.Ending.{Ending}
use Rattle.mosaikrun_endings.specs.declared.ending.Ending.TheVariants as ends
use Rattle.mosaikrun_check.specs.CheckText.{check_text}
use Rattle.mosaikrun_check.specs.Runnable.{AreRanks, IsUnrunnable}

-- the bytes are a scenario that has ranks and can be begun, and the text is what is printed of it
pub record IsChecked (kinds : List (List ℕ)) (bytes text : List ℕ) : Type 0 where
  pub scenario : Scenario
  pub ranks : List ℕ
  pub read : scenario_of bytes ≡ Ok scenario
  pub ranked : AreRanks scenario ranks
  pub prepared : IsPrepared scenario kinds
  pub is : text ≡ check_text scenario ranks

-- why the bytes are no scenario: the first test that they fail, or want of memory
abbrev pub IsUnread : List ℕ → Ending → Type 0
IsUnread bytes e = (e ≡ ends.Mem)
    ⊎ ((fault : ScenarioFault) × (e ≡ ends.Scenario fault) × (scenario_of bytes ≡ Err fault))

-- the bytes are a scenario that can't be run
pub record IsUnrunnableText (kinds : List (List ℕ)) (bytes : List ℕ)
    (ending : Ending) : Type 0 where
  pub scenario : Scenario
  pub read : scenario_of bytes ≡ Ok scenario
  pub cause : IsUnrunnable kinds scenario ending

-- why nothing is printed of the bytes
abbrev pub IsUnchecked : List (List ℕ) → List ℕ → Ending → Type 0
IsUnchecked kinds bytes e = IsUnread bytes e ⊎ IsUnrunnableText kinds bytes e

-- what `check` makes of these bytes: the text that it prints, or why there is none
abbrev pub IsOutcome : List (List ℕ) → List ℕ → Result (List ℕ) Ending → Type 0
IsOutcome kinds bytes (Ok text) = IsChecked kinds bytes text
IsOutcome kinds bytes (Err e) = IsUnchecked kinds bytes e
