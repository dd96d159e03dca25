-- What the program has done, by its answer.
use Rattle.std.specs.Prelude.{◌≡◌, ℕ, ◌⊎◌, List, map, Option, Some, option_map, Result, Ok, Err}
use Rattle.mk_outside.specs.Counts.{HasRisen}
use Rattle.mk_outside.specs.Folders.{Files, with_file}
use Rattle.mk_outside.specs.Sinks.{TookBeginning, appended}
use Rattle.mk_local.specs.Kinds.{name_of}
use Rattle.mosaikrun_words.specs.declared.request.Request.{Request}
use Rattle.mosaikrun_endings.specs.declared.ending.Ending.{Ending}
use Rattle.mosaikrun_endings.specs.Endings.{line_of, status_of}
use Rattle.mosaikrun_program.specs.Around.{Around, IsUntouched}
use Rattle.mosaikrun_program.specs.Commands.{IsAccepted, IsAsked, IsStuckBy, IsUnasked, files_of, saved_name}
use Rattle.mosaikrun_program.specs.Making.{HasMade}
use Rattle.mosaikrun_program.specs.Recording.{IsRecordKept}
use Rattle.mosaikrun_program.specs.Resuming.{IsNewRecordKept}
use Rattle.mosaikrun_program.specs.Pacing.{IsPaceRecordKept}
use Rattle.mosaikrun_program.specs.Running.{HasRunAs}

-- the words ask for nothing, or there was no memory to read them
pub record IsMisused (S : Around) (e : Ending) : Type 0 where
  pub cause : IsUnasked S.words e
  pub untouched : IsUntouched S

-- a file isn't read, or the folder failed before anything was run
pub record IsUnread (S : Around) (e : Ending) : Type 0 where
  pub request : Request
  pub asked : IsAsked S.words request
  pub stuck : IsStuckBy (IsAccepted (map name_of S.outside.kinds) request) S.folder.files
      (files_of request) (HasRisen S.folder.faults S.folder.new_faults) e
  pub untouched : IsUntouched S

-- what the words ask for was done: a command on files, or something over a fleet
abbrev pub HasPerformed : Around → Result (Unit {0}) Ending → Type 0
HasPerformed S answer = HasMade S answer ⊎ HasRunAs S answer

-- what an answer says
abbrev pub EndedAs : Around → Result (Unit {0}) Ending → Type 0
EndedAs S (Ok done) = HasPerformed S (Ok done)
EndedAs S (Err e) = IsMisused S e ⊎ (IsUnread S e ⊎ HasPerformed S (Err e))

-- the words ask for a run that saves its record under this name, or for a command that saves its text
-- under it
abbrev pub IsNamed : List (List ℕ) → List ℕ → Type 0
IsNamed words name = (R : Request) × IsAsked words R × (saved_name R ≡ Some name)

-- the folder is as before, or one file was saved, under a name that the words give for it
abbrev pub KeepsOthers : List (List ℕ) → Option Files → Option Files → Type 0
KeepsOthers words old new = (new ≡ old)
    ⊎ ((name bytes : List ℕ) × IsNamed words name × (new ≡ option_map (with_file name bytes) old))

-- the status of an answer
abbrev pub status : Result (Unit {0}) Ending → ℕ
status (Ok done) = 0
status (Err e) = status_of e

-- the line was taken, or a beginning of it where the sink failed or found no memory
abbrev pub TookLine : List ℕ → Type 0 → Option (List ℕ) → Option (List ℕ) → Type 0
TookLine line failed old new = (new ≡ appended line old) ⊎ (failed × TookBeginning line old new)

-- nothing is said where all is done, and else a line
abbrev pub Told : Result (Unit {0}) Ending → Type 0 → Option (List ℕ) → Option (List ℕ) → Type 0
Told (Ok done) failed old new = new ≡ old
Told (Err e) failed old new = TookLine (line_of e) failed old new

-- the program has ended with this status: by some answer, which holds and was told at the error
-- output; and the record is kept of a run, of one that goes on, and of one by a clock
pub record EndsWith (S : Around) (failed : Type 0) (err_before err_after : Option (List ℕ))
    (n : ℕ) : Type 0 where
  pub answer : Result (Unit {0}) Ending
  pub is : n ≡ status answer
  pub ended : EndedAs S answer
  pub told : Told answer failed err_before err_after
  pub recorded : IsRecordKept S answer n
  pub resumed : IsNewRecordKept S answer n
  pub paced : IsPaceRecordKept S answer n

-- the status that goes with an outcome, or that of a folder or an output that failed, or of want of
-- memory
abbrev pub IsStatusOr : ℕ → ℕ → Type 0
IsStatusOr wanted n = (n ≡ wanted) ⊎ ((n ≡ 6) ⊎ (n ≡ 8))
