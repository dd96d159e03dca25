-- What the program has done where its words ask for something over a fleet, by its answer.
use Rattle.std.specs.Prelude.{◌≡◌, ℕ, ◌⊎◌, List, Option, Some, None, IsSome, is_some, map, option_map, Result, Ok, Err}
use Rattle.mk_outside.specs.Counts.{HasRisen}
use Rattle.mk_outside.specs.Folders.{Files, with_file}
use Rattle.mk_outside.specs.Sinks.{TookBeginning, appended}
use Rattle.mosaikrun_words.specs.declared.request.Request.{Request}
use Rattle.mosaikrun_words.specs.declared.request.Request.TheVariants.{Files as Reads, Run, Resume, Paced, Demo}
use Rattle.mk_local.specs.Kinds.{name_of}
use Rattle.mk_record_mend.specs.Mended.{mended}
use Rattle.mosaikrun_endings.specs.declared.ending.Ending.{Ending}
use Rattle.mosaikrun_endings.specs.declared.ending.Ending.TheVariants.{Folder, Mem}
use Rattle.mosaikrun_run.specs.Outcomes.{IsRunOutcome, Outside}
use Rattle.mosaikrun_demo.specs.Outcomes.{IsDemoOutcome}
use Rattle.mosaikrun_resume.specs.Outcomes.{IsResumeOutcome, IsStudy}
use Rattle.mosaikrun_paced.specs.Outcomes.{IsPacedOutcome}
use Rattle.mosaikrun_program.specs.Commands.{AreHeld, IsAsked, OfOne, OfTwoBy, files_of, saved_name}
use Rattle.mosaikrun_program.specs.Around.{Around, FolderSeen, IsCutBy, IsSaidAs, OutputSeen}

-- what comes of a request over a fleet, its files having these bytes: the text or why there is none,
-- and the record, if there is one. A run that goes on takes its old record as it is once mended
abbrev pub IsOutcomeOver : Outside → Request → List (List ℕ) → Result (List ℕ) Ending
    → Option (List ℕ) → Type 0
IsOutcomeOver O (Run scenario name) read text kept =
    OfOne (λ bytes outcome. IsRunOutcome O (is_some name) bytes outcome kept) read text
IsOutcomeOver O (Resume scenario recorded name) read text kept =
    OfTwoBy (IsStudy (map name_of O.kinds))
    (λ bytes old outcome. IsResumeOutcome O (is_some name) bytes (mended old) outcome kept) read
    text
IsOutcomeOver O (Paced scenario factor strict name) read text kept =
    OfOne (λ bytes outcome. IsPacedOutcome O factor strict (is_some name) bytes outcome kept) read
    text
IsOutcomeOver O (Demo size) read text kept = IsDemoOutcome O size text × (kept ≡ None)
IsOutcomeOver O (Reads command) read text kept = ⊥

-- the files after the record, if there is one, was saved under this name, if there is one
abbrev pub IsFolderAfter : Option (List ℕ) → Option (List ℕ) → Option Files → Option Files → Type 0
IsFolderAfter (Some name) (Some bytes) old new = new ≡ option_map (with_file name bytes) old
IsFolderAfter (Some name) None old new = new ≡ old
IsFolderAfter None kept old new = new ≡ old

-- the record, where there is one, was saved under this name, all other files being as before; where
-- there is none, or no name, all files are as before
abbrev pub IsSaved : FolderSeen → Option (List ℕ) → Option (List ℕ) → Type 0
IsSaved folder name kept = IsFolderAfter name kept folder.files folder.files_after

-- or there is a name, and all files are as before, since the folder failed, or memory was wanting,
-- which is then said
abbrev pub IsUnsaved : FolderSeen → Option (List ℕ) → Ending → Type 0
IsUnsaved folder name e = (folder.files_after ≡ folder.files)
    × (HasRisen folder.faults folder.new_faults ⊎ (e ≡ Mem)) × IsSome name

-- there is a text, but it wasn't put out: the record wasn't saved, and nothing was put; or it was, and
-- the output has taken a beginning of the text
abbrev pub IsUnreported : FolderSeen → OutputSeen → Option (List ℕ) → List ℕ → Option (List ℕ)
    → Ending → Type 0
IsUnreported folder out name text kept e = ((out.after ≡ out.before) × IsUnsaved folder name e
    × IsSaidAs Folder e) ⊎ (TookBeginning text out.before out.after × IsSaved folder name kept
    × IsCutBy out e)

-- what an answer says of what was done over a fleet, of which this text or this ending came, and this
-- record: the text was put out and the record saved; or it wasn't put out; or there is no text, and
-- the record was saved, or the folder failed, or memory was wanting
abbrev pub RunAnswer : FolderSeen → OutputSeen → Option (List ℕ) → Result (List ℕ) Ending
    → Option (List ℕ) → Result (Unit {0}) Ending → Type 0
RunAnswer folder out name (Ok text) kept (Ok done) = (out.after ≡ appended text out.before)
    × IsSaved folder name kept
RunAnswer folder out name (Err why) kept (Ok done) = ⊥
RunAnswer folder out name (Ok text) kept (Err e) = IsUnreported folder out name text kept e
RunAnswer folder out name (Err why) kept (Err e) = (out.after ≡ out.before) × IsSaidAs why e
    × (IsSaved folder name kept ⊎ IsUnsaved folder name e)

-- the files of this request were read, and this came of it over the fleet
pub record IsDoneOver (S : Around) (request : Request)
    (answer : Result (Unit {0}) Ending) : Type 0 where
  pub read : List (List ℕ)
  pub held : AreHeld S.folder.files (files_of request) read
  pub text : Result (List ℕ) Ending
  pub kept : Option (List ℕ)
  pub outcome : IsOutcomeOver S.outside request read text kept
  pub ended : RunAnswer S.folder S.output (saved_name request) text kept answer

-- the words ask for this, and it was done
pub record HasRunAs (S : Around) (answer : Result (Unit {0}) Ending) : Type 0 where
  pub request : Request
  pub asked : IsAsked S.words request
  pub run : IsDoneOver S request answer
