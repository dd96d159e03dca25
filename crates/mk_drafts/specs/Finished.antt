-- What it says that a draft was made the file for which it was begun.
use Rattle.std.specs.Prelude.{◌≡◌, ◌≢◌, ℕ, List, Option, Some, None}
use Rattle.mk_outside.specs.declared.folder.FileSave.{FileSave}
use Rattle.mk_outside.specs.declared.folder.FileSave.TheVariants as save
use Rattle.mk_outside.specs.Folders.{Files, after_save}

-- the files after a draft with these bytes took a file's name, with this answer: as after a save of
-- its bytes. A folder that tells of its files but not of the draft keeps them as they are, and
-- doesn't say that it was done.
abbrev pub IsFinished : FileSave → List ℕ → Option (List ℕ) → Option Files → Option Files → Type 0
IsFinished answer name written None after = after ≡ None
IsFinished answer name (Some bytes) (Some held) after =
    after ≡ Some (after_save answer name bytes held)
IsFinished answer name None (Some held) after = (answer ≢ save.Kept) × (after ≡ Some held)
