-- The commands on files: which files each reads, where its text goes, and what it makes of them.
use Rattle.std.specs.Prelude.{◌≡◌, ℕ, ◌<◌, ◌≤◌, ◌⊎◌, ⊤, length, map, List, [], ◌∷◌, Option, Some, None, IfSome, Result}
use Rattle.mk_outside.specs.Folders.{Files, file_limit}
use Rattle.mosaikrun_words.specs.declared.request.FileCommand.{FileCommand}
use Rattle.mosaikrun_words.specs.declared.request.FileCommand.TheVariants.{Replay, Check, Pair}
use Rattle.mosaikrun_words.specs.declared.request.PairCommand.TheVariants.{Migrate, Watch, Blame}
use Rattle.mosaikrun_words.specs.declared.request.Request.{Request}
use Rattle.mosaikrun_words.specs.declared.request.Request.TheVariants.{Files as Reads, Run, Resume, Paced, Demo}
use Rattle.mosaikrun_words.specs.Requests.{IsRequest}
use Rattle.mk_local.specs.declared.turn.Turn.{Turn}
use Rattle.mk_local.specs.Kinds.{name_of}
use Rattle.mk_record_mend.specs.Mended.{mended}
use Rattle.mosaikrun_endings.specs.declared.ending.Ending.{Ending}
use Rattle.mosaikrun_endings.specs.declared.ending.Ending.TheVariants as ends
use Rattle.mosaikrun_program.specs.Around.{RulesSeen}
use Rattle.mosaikrun_records.specs.Reports as reports
use Rattle.mosaikrun_records.specs.Migrations.{IsMigration}
use Rattle.mosaikrun_records.specs.Saved.{IsRecord}
use Rattle.mosaikrun_watch.specs.Watched.{IsWatchOutcome}
use Rattle.mosaikrun_blame.specs.Blames.{IsBlameOutcome}
use Rattle.mosaikrun_check.specs.Checks as checks
use Rattle.mosaikrun_resume.specs.Outcomes.{IsStudy}

-- the words ask for this
abbrev pub IsAsked : List (List ℕ) → Request → Type 0
IsAsked words R = IsRequest words R

-- the files that a command reads, in order
abbrev pub read_by : FileCommand → List (List ℕ)
read_by (Replay name order) = name ∷ []
read_by (Check scenario) = scenario ∷ []
read_by (Pair Migrate old new) = old ∷ []
read_by (Pair command first second) = first ∷ second ∷ []

-- and those that are read for a request
abbrev pub files_of : Request → List (List ℕ)
files_of (Reads command) = read_by command
files_of (Run scenario saved) = scenario ∷ []
files_of (Resume scenario recorded saved) = scenario ∷ recorded ∷ []
files_of (Paced scenario factor strict saved) = scenario ∷ []
files_of (Demo size) = []

-- the name that a command saves its text under; where there is none, the text is printed
abbrev pub target_of : FileCommand → Option (List ℕ)
target_of (Pair Migrate old new) = Some new
target_of command = None

-- the name that a file is saved under for a request: a run's record, or a command's text; where there
-- is none, nothing is saved
abbrev pub saved_name : Request → Option (List ℕ)
saved_name (Reads command) = target_of command
saved_name (Run scenario name) = name
saved_name (Resume scenario recorded name) = name
saved_name (Paced scenario factor strict name) = name
saved_name (Demo size) = None

-- what comes of one file
abbrev pub OfOne : (List ℕ → Result (List ℕ) Ending → Type 0) → List (List ℕ)
    → Result (List ℕ) Ending → Type 0
OfOne makes [] outcome = ⊥
OfOne makes (bytes ∷ []) outcome = makes bytes outcome
OfOne makes (bytes ∷ other ∷ more) outcome = ⊥

-- what comes of a file that is accepted and a second one; of the first alone where it isn't accepted,
-- whatever the second is
abbrev pub OfTwoBy : (List ℕ → Type 0) → (List ℕ → List ℕ → Result (List ℕ) Ending → Type 0)
    → List (List ℕ) → Result (List ℕ) Ending → Type 0
OfTwoBy accepted makes [] outcome = ⊥
OfTwoBy accepted makes (first ∷ []) outcome = (accepted first → ⊥)
    × ((second : List ℕ) → makes first second outcome)
OfTwoBy accepted makes (first ∷ second ∷ []) outcome = makes first second outcome
OfTwoBy accepted makes (first ∷ second ∷ other ∷ more) outcome = ⊥

-- so it is of a record and a second file
abbrev pub OfTwo : (List ℕ → List ℕ → Result (List ℕ) Ending → Type 0) → List (List ℕ)
    → Result (List ℕ) Ending → Type 0
OfTwo = OfTwoBy IsRecord

-- what a command makes of these files' bytes, the program having these kinds and rules: its text, or
-- why there is none. A migration takes a record as it is once mended
abbrev pub IsOutcomeOf : List Turn → RulesSeen → FileCommand → List (List ℕ)
    → Result (List ℕ) Ending → Type 0
IsOutcomeOf kinds rules (Replay name order) = OfOne (λ bytes. reports.IsOutcome bytes order)
IsOutcomeOf kinds rules (Check scenario) = OfOne (checks.IsOutcome (map name_of kinds))
IsOutcomeOf kinds rules (Pair Migrate old new) = OfOne (λ bytes. IsMigration (mended bytes))
IsOutcomeOf kinds rules (Pair Watch name spec) = OfTwo (IsWatchOutcome rules.names rules.folds)
IsOutcomeOf kinds rules (Pair Blame first second) = OfTwo IsBlameOutcome

-- the words ask for nothing, or memory is wanting
abbrev pub IsUnasked : List (List ℕ) → Ending → Type 0
IsUnasked words e = (e ≡ ends.Mem) ⊎ ((e ≡ ends.Usage) × ((R : Request) → IsAsked words R → ⊥))

-- the file of this name has these bytes, no more than a file may have, if the folder tells
abbrev pub HasBytes : Option Files → List ℕ → List ℕ → Type 0
HasBytes files name bytes = IfSome files (λ held. (held name ≡ Some bytes)
    × (length bytes ≤ file_limit))

-- the files of these names, or of the first of them, have these bytes
abbrev pub AreHeld : Option Files → List (List ℕ) → List (List ℕ) → Type 0
AreHeld files names [] = ⊤
AreHeld files [] (bytes ∷ more) = ⊥
AreHeld files (name ∷ names) (bytes ∷ more) = HasBytes files name bytes × AreHeld files names more

-- the name of the file that comes next behind those that were read
abbrev pub IsNext : List (List ℕ) → List (List ℕ) → List ℕ → Type 0
IsNext [] read name = ⊥
IsNext (first ∷ names) [] name = first ≡ name
IsNext (first ∷ names) (bytes ∷ read) name = IsNext names read name

-- what the first of two files has to be, so that the second is read: a scenario that can be run, the
-- kinds having these names, where the run of it is to go on, and else a record. A request with one
-- file or none has no use for it
abbrev pub IsAccepted : List (List ℕ) → Request → List ℕ → Type 0
IsAccepted kinds (Resume scenario recorded saved) = IsStudy kinds
IsAccepted kinds (Run scenario saved) = IsRecord
IsAccepted kinds (Paced scenario factor strict saved) = IsRecord
IsAccepted kinds (Demo size) = IsRecord
IsAccepted kinds (Reads command) = IsRecord

-- the next file is read: none was read before, or one that is accepted
abbrev pub IsReadOn : (List ℕ → Type 0) → List (List ℕ) → Type 0
IsReadOn accepted [] = ⊤
IsReadOn accepted (bytes ∷ more) = accepted bytes

-- the file isn't there, or is longer than a file may be
abbrev pub IsNoFile : Option (List ℕ) → Type 0
IsNoFile None = ⊤
IsNoFile (Some bytes) = file_limit < length bytes

-- why a file gives no bytes; risen says that the folder's count of faults rose
abbrev pub IsUnreadable : Option Files → List ℕ → Type 0 → Ending → Type 0
IsUnreadable files name risen e =
    (e ≡ ends.Mem)
    ⊎ ((e ≡ ends.Folder) × risen
    ⊎ ((e ≡ ends.Missing name) × IfSome files (λ held. held name ≡ None)
    ⊎ (count : ℕ) × (e ≡ ends.TooLong name count)
    × IfSome files (λ held. (bytes : List ℕ) × (held name ≡ Some bytes) × (length bytes ≡ count)
    × (file_limit < count))))

-- some of these files were read, and this came of them
pub record ComesOfFiles (files : Option Files) (kinds : List Turn) (rules : RulesSeen)
    (command : FileCommand) (outcome : Result (List ℕ) Ending) : Type 0 where
  pub read : List (List ℕ)
  pub held : AreHeld files (read_by command) read
  pub made : IsOutcomeOf kinds rules command read outcome

-- of the files of these names the next one isn't read
pub record IsStuckBy (accepted : List ℕ → Type 0) (files : Option Files) (names : List (List ℕ))
    (risen : Type 0) (e : Ending) : Type 0 where
  pub read : List (List ℕ)
  pub held : AreHeld files names read
  pub on : IsReadOn accepted read
  pub name : List ℕ
  pub next : IsNext names read name
  pub cause : IsUnreadable files name risen e

-- so it is of those of a command on files
abbrev pub IsStuck : Option Files → List (List ℕ) → Type 0 → Ending → Type 0
IsStuck = IsStuckBy IsRecord
