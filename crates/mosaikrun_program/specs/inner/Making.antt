-- For proofs alone. What came of one file, before it is known which command it is of; and why a command
-- makes nothing.
use Rattle.std.specs.Prelude.{◌≡◌, ℕ, ◌⊎◌, List, Option, Result, Err}
use Rattle.mk_outside.specs.Folders.{Files}
use Rattle.mk_local.specs.declared.turn.Turn.{Turn}
use Rattle.mosaikrun_words.specs.declared.request.FileCommand.{FileCommand}
use Rattle.mosaikrun_endings.specs.declared.ending.Ending.{Ending}
use Rattle.mk_record_mend.specs.Mended.{mended}
use Rattle.mosaikrun_program.specs.Around.{RulesSeen}
use Rattle.mosaikrun_program.specs.Commands.{HasBytes, ComesOfFiles, IsStuck, read_by}

-- the file of this name was read, and this came of it
pub record IsMadeOfOne (files : Option Files) (name : List ℕ)
    (makes : List ℕ → Result (List ℕ) Ending → Type 0)
    (outcome : Result (List ℕ) Ending) : Type 0 where
  pub bytes : List ℕ
  pub held : HasBytes files name bytes
  pub made : makes bytes outcome

-- one of the command's files isn't read, or this ending came of them
abbrev pub IsUnmade : Option Files → List Turn → RulesSeen → FileCommand → Type 0 → Ending → Type 0
IsUnmade files kinds rules command risen e = IsStuck files (read_by command) risen e
    ⊎ ComesOfFiles files kinds rules command (Err e)

-- these are the bytes of the file of this name, as they are once mended
pub record IsMendedFile (files : Option Files) (name bytes : List ℕ) : Type 0 where
  pub held_bytes : List ℕ
  pub held : HasBytes files name held_bytes
  pub is : bytes ≡ mended held_bytes
