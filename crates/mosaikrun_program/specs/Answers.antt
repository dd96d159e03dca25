-- What an answer says of a text that is printed or saved.
use Rattle.std.specs.Prelude.{◌≡◌, ◌⊎◌, ℕ, List, Option, None, Some, option_map, Result, Ok, Err}
use Rattle.mk_outside.specs.Counts.{HasRisen}
use Rattle.mk_outside.specs.Folders.{with_file}
use Rattle.mk_outside.specs.Sinks.{TookBeginning, appended}
use Rattle.mosaikrun_endings.specs.declared.ending.Ending.{Ending}
use Rattle.mosaikrun_endings.specs.declared.ending.Ending.TheVariants.{Folder, Mem}
use Rattle.mosaikrun_program.specs.Around.{Around, FolderSeen, IsCutBy, IsSaidAs, OutputSeen}

-- of a text that is printed, or of why there is none: it was put out; or the output has taken a
-- beginning of it; or there is none, and nothing was put
abbrev pub PrintAnswer : OutputSeen → Result (List ℕ) Ending → Result (Unit {0}) Ending → Type 0
PrintAnswer out (Ok text) (Ok done) = out.after ≡ appended text out.before
PrintAnswer out (Ok text) (Err e) = TookBeginning text out.before out.after × IsCutBy out e
PrintAnswer out (Err why) (Ok done) = ⊥
PrintAnswer out (Err why) (Err e) = (out.after ≡ out.before) × IsSaidAs why e

-- of a text that is saved under a name, or of why there is none: it was saved, all other files being
-- as before; or all files are as before, since the folder failed, memory was wanting, or there is
-- none
abbrev pub SaveAnswer : FolderSeen → List ℕ → Result (List ℕ) Ending → Result (Unit {0}) Ending
    → Type 0
SaveAnswer folder name (Ok text) (Ok done) = folder.files_after
    ≡ option_map (with_file name text) folder.files
SaveAnswer folder name (Ok text) (Err e) = (folder.files_after ≡ folder.files)
    × (((e ≡ Folder) × HasRisen folder.faults folder.new_faults) ⊎ (e ≡ Mem))
SaveAnswer folder name (Err why) (Ok done) = ⊥
SaveAnswer folder name (Err why) (Err e) = (folder.files_after ≡ folder.files) × IsSaidAs why e

-- of the text of a command on files: it is saved where the command has a name for it, nothing being
-- put out, and else printed, all files being as before
abbrev pub TextAnswer : Around → Option (List ℕ) → Result (List ℕ) Ending
    → Result (Unit {0}) Ending → Type 0
TextAnswer S None text answer = PrintAnswer S.output text answer
    × (S.folder.files_after ≡ S.folder.files)
TextAnswer S (Some name) text answer = SaveAnswer S.folder name text answer
    × (S.output.after ≡ S.output.before)
