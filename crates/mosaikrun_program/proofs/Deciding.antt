-- The status of a command on files is that of what comes of them, and of a file that isn't there it
-- is 3.
use Rattle.std.proofs.Common.{◌≡◌, ℕ, ◌<◌, ◌⊎◌, inl, inr, sym, ap, ◌∙◌, subst, arith, List, length, map, Option, None, Some, Result, Ok, Err}
use Rattle.std.specs.Prelude.{IfSome}
use Rattle.mk_base.proofs.Lists.{some_same}
use Rattle.mk_outside.specs.Counts.{HasRisen}
use Rattle.mk_outside.specs.Folders.{Files, file_limit}
use Rattle.mk_local.specs.Kinds.{name_of}
use Rattle.mosaikrun_words.specs.declared.request.FileCommand.{FileCommand}
use Rattle.mosaikrun_words.specs.declared.request.Request.{Request}
use Rattle.mosaikrun_words.specs.declared.request.Request.TheVariants.{Files as Reads}
use Rattle.mosaikrun_endings.specs.declared.ending.Ending.{Ending}
use Rattle.mosaikrun_endings.specs.declared.ending.Ending.TheVariants.{Mem}
use Rattle.mosaikrun_endings.specs.Endings.{outcome_status, status_of}
use Rattle.mosaikrun_records.specs.Saved.{IsUnread}
use Rattle.mosaikrun_program.specs.Commands.{AreHeld, IsAccepted, IsAsked, ComesOfFiles, IsNext, IsNoFile, IsOutcomeOf, IsReadOn, IsStuckBy, IsUnreadable, files_of, read_by, target_of}
use Rattle.mosaikrun_program.specs.Answers.{TextAnswer}
use Rattle.mosaikrun_program.specs.Around.{Around}
use Rattle.mosaikrun_program.specs.Making.{HasMade}
use Rattle.mosaikrun_program.specs.Running.{HasRunAs, IsDoneOver}
use Rattle.mosaikrun_program.specs.Program.{EndedAs, HasPerformed, IsStatusOr, status}
use Rattle.mosaikrun_program.proofs.Answering.{cut_status, is_memory, memory, one_command, one_request, unasked_not}
use Rattle.mosaikrun_program.proofs.Rows.{IsThere, row_of, row_over, there_not}

-- bytes that are refused as a record have the status 3
pub unread_status : (bytes : List ℕ) (e : Ending) → IsUnread bytes e → (e ≡ Mem) ⊎ (status_of e ≡ 3)
unread_status bytes e (inl mem) = inl mem
unread_status bytes e (inr fault) = inr (ap status_of fault.2)

-- a file that is there, and short enough, is read, but for a folder that failed and want of memory
pub readable_status : (held : Files) (files : Option Files) (name : List ℕ) (risen : Type 0) (e : Ending) (wanted : ℕ) → files ≡ Some held → IsThere held name → IsUnreadable files name risen e → IsStatusOr wanted (status_of e)
readable_status held files name risen e wanted told there (inl mem) = memory wanted e mem
readable_status held files name risen e wanted told there (inr (inl failed)) = inr (inl (ap status_of failed.0))
readable_status held files name risen e wanted told there (inr (inr (inl missing))) =
    let none : held name ≡ None = subst (λ (f : Option Files). IfSome f (λ h. h name ≡ None)) told missing.1 in
    let is = there.is in
    let wrong : Some there.bytes ≡ None = sym is ∙ none in
    absurd cc
readable_status held files name risen e wanted told there (inr (inr (inr long))) =
    let more = subst (λ (f : Option Files). IfSome f (λ h. (b : List ℕ) × (h name ≡ Some b) × (length b ≡ long.0) × (file_limit < long.0))) told long.2 in
    let same : more.0 ≡ there.bytes = some_same (sym more.1 ∙ there.is) in
    let count : long.0 ≡ length there.bytes = sym more.2 ∙ ap length same in
    let short = there.short in
    let over = more.3 in
    absurd (omega (arith, count, over, short))

said_status : (wanted : ℕ) (why e : Ending) → (e ≡ why) ⊎ (e ≡ Mem) → ((why ≡ Mem → ⊥) → status_of why ≡ wanted) → IsStatusOr wanted (status_of e)
said_status wanted why e (inr mem) is = memory wanted e mem
said_status wanted why e (inl same) is = elim (is_memory why) [
  | inl mem ↦ memory wanted e (same ∙ mem)
  | inr other ↦ inl (ap status_of same ∙ is other)
]

-- the status of an answer is that of the text, or that of a failed output or folder, or of want of
-- memory
text_status : (wanted : ℕ) (S : Around) (target : Option (List ℕ)) (text : Result (List ℕ) Ending) (r : Result (Unit {0}) Ending) → TextAnswer S target text r → ((text ≡ Err Mem → ⊥) → outcome_status text ≡ wanted) → IsStatusOr wanted (status r)
text_status wanted S None (Ok t) (Ok done) said is = inl (is (λ w. cc))
text_status wanted S (Some name) (Ok t) (Ok done) said is = inl (is (λ w. cc))
text_status wanted S None (Ok t) (Err e) said is = cut_status S.output wanted e said.0.1
text_status wanted S (Some name) (Ok t) (Err e) said is = elim said.0.1 [ inl failed ↦ inr (inl (ap status_of failed.0)) | inr mem ↦ memory wanted e mem ]
text_status wanted S None (Err why) (Ok done) said is = absurd said.0
text_status wanted S (Some name) (Err why) (Ok done) said is = absurd said.0
text_status wanted S None (Err why) (Err e) said is = said_status wanted why e said.0.1 (λ other. is (λ w. other (let x : why ≡ Mem = cc in x)))
text_status wanted S (Some name) (Err why) (Err e) said is = said_status wanted why e said.0.1 (λ other. is (λ w. other (let x : why ≡ Mem = cc in x)))

-- a command on files that is asked for, where the folder tells
module _ (S : Around) (held : Files) (told : S.folder.files ≡ Some held) (command : FileCommand) (asked : IsAsked S.words (Reads command)) (read : List (List ℕ)) (there : AreHeld (Some held) (read_by command) read)
    (o : Result (List ℕ) Ending) (outcome : IsOutcomeOf S.outside.kinds S.rules command read o) (not : o ≡ Err Mem → ⊥) where
  -- what came of it came of these files
  made_status : (r : Result (Unit {0}) Ending) → HasMade S r → IsStatusOr (outcome_status o) (status r)
  made_status r has =
      let same : has.command ≡ command = one_command S.words has.command command has.asked asked in
      let made = subst (λ (c : FileCommand). ComesOfFiles (Some held) S.outside.kinds S.rules c has.text) same (subst (λ (f : Option Files). ComesOfFiles f S.outside.kinds S.rules has.command has.text) told has.made) in
      text_status (outcome_status o) S (target_of has.command) has.text r has.ended (λ other. (row_of S.outside.kinds S.rules command).one held made.read read has.text o made.held there made.made outcome other not)

  this_one : (Q : Request) → IsAsked S.words Q → Q ≡ Reads command
  this_one Q other = one_request S.words Q (Reads command) other asked

  performed_status : (r : Result (Unit {0}) Ending) → HasPerformed S r → IsStatusOr (outcome_status o) (status r)
  performed_status r (inl made) = made_status r made
  performed_status r (inr ran) = let d = subst (λ (Q : Request). IsDoneOver S Q r) (this_one ran.request ran.asked) ran.run in absurd d.outcome

  stuck_status : (Q : Request) (e : Ending) (wanted : ℕ) → Q ≡ Reads command → IsStuckBy (IsAccepted (map name_of S.outside.kinds) Q) S.folder.files (files_of Q) (HasRisen S.folder.faults S.folder.new_faults) e → IsStatusOr wanted (status_of e)
  stuck_status Q e wanted same stuck =
      let here = subst (λ (X : Request). IsStuckBy (IsAccepted (map name_of S.outside.kinds) X) S.folder.files (files_of X) (HasRisen S.folder.faults S.folder.new_faults) e) same stuck in
      let seen = subst (λ (f : Option Files). AreHeld f (read_by command) here.read) told here.held in
      readable_status held S.folder.files here.name (HasRisen S.folder.faults S.folder.new_faults) e wanted told ((row_of S.outside.kinds S.rules command).next held read here.read here.name o there seen here.on outcome here.next) here.cause

  decided_status : (r : Result (Unit {0}) Ending) → EndedAs S r → IsStatusOr (outcome_status o) (status r)
  decided_status (Ok done) performed = performed_status (Ok done) performed
  decided_status (Err e) (inl misused) = unasked_not S.words e misused.cause (outcome_status o) (Reads command) asked
  decided_status (Err e) (inr (inl unread)) = stuck_status unread.request e (outcome_status o) (this_one unread.request unread.asked) unread.stuck
  decided_status (Err e) (inr (inr performed)) = performed_status (Err e) performed

-- a file that comes next and isn't there, or is too long, isn't read
module _ (S : Around) (held : Files) (told : S.folder.files ≡ Some held) (R : Request) (asked : IsAsked S.words R) (before : List (List ℕ)) (name : List ℕ) (seen : AreHeld (Some held) (files_of R) before) (on : IsReadOn (IsAccepted (map name_of S.outside.kinds) R) before) (next : IsNext (files_of R) before name) (nothing : IsNoFile (held name)) where
  -- so nothing came of it
  not_made : (r : Result (Unit {0}) Ending) → HasMade S r → ⊥
  not_made r has =
      let same : R ≡ Reads has.command = one_request S.words R (Reads has.command) asked has.asked in
      let made = subst (λ (f : Option Files). ComesOfFiles f S.outside.kinds S.rules has.command has.text) told has.made in
      let had = subst (λ (X : Request). AreHeld (Some held) (files_of X) before) same seen in
      let comes = subst (λ (X : Request). IsNext (files_of X) before name) same next in
      there_not held name ((row_of S.outside.kinds S.rules has.command).next held made.read before name has.text made.held had (subst (λ (X : Request). IsReadOn (IsAccepted (map name_of S.outside.kinds) X) before) same on) made.made comes) nothing

  not_run : (r : Result (Unit {0}) Ending) → HasRunAs S r → ⊥
  not_run r ran =
      let same : R ≡ ran.request = one_request S.words R ran.request asked ran.asked in
      let file = subst (λ (f : Option Files). AreHeld f (files_of ran.request) ran.run.read) told ran.run.held in
      let had = subst (λ (X : Request). AreHeld (Some held) (files_of X) before) same seen in
      let comes = subst (λ (X : Request). IsNext (files_of X) before name) same next in
      there_not held name ((row_over S.outside ran.request).next held ran.run.read before name ran.run.text ran.run.kept file had (subst (λ (X : Request). IsReadOn (IsAccepted (map name_of S.outside.kinds) X) before) same on) ran.run.outcome comes) nothing

  not_performed : (r : Result (Unit {0}) Ending) → HasPerformed S r → ⊥
  not_performed r (inl made) = not_made r made
  not_performed r (inr ran) = not_run r ran

  no_file_cause : (files : Option Files) (other : List ℕ) (risen : Type 0) (e : Ending) → IsUnreadable files other risen e → IsStatusOr 3 (status_of e)
  no_file_cause files other risen e (inl mem) = memory 3 e mem
  no_file_cause files other risen e (inr (inl failed)) = inr (inl (ap status_of failed.0))
  no_file_cause files other risen e (inr (inr (inl missing))) = inl (ap status_of missing.0)
  no_file_cause files other risen e (inr (inr (inr long))) = inl (ap status_of long.1)

  no_file_status : (r : Result (Unit {0}) Ending) → EndedAs S r → IsStatusOr 3 (status r)
  no_file_status (Ok done) performed = absurd (not_performed (Ok done) performed)
  no_file_status (Err e) (inl misused) = unasked_not S.words e misused.cause 3 R asked
  no_file_status (Err e) (inr (inl unread)) = no_file_cause _ _ _ e unread.stuck.cause
  no_file_status (Err e) (inr (inr performed)) = absurd (not_performed (Err e) performed)

-- the same where the folder may not tell
pub told_decided : (S : Around) (files : Option Files) (r : Result (Unit {0}) Ending) (n : ℕ) → S.folder.files ≡ files → n ≡ status r → EndedAs S r
    → IfSome files (λ held. (command : FileCommand) → (read : List (List ℕ)) → (o : Result (List ℕ) Ending) → IsAsked S.words (Reads command) → AreHeld (Some held) (read_by command) read → IsOutcomeOf S.outside.kinds S.rules command read o → (o ≡ Err Mem → ⊥) → IsStatusOr (outcome_status o) n)
told_decided S None r n told is ended = tt
told_decided S (Some held) r n told is ended = λ command read o asked there outcome not. subst (IsStatusOr (outcome_status o)) (sym is) (decided_status S held told command asked read there o outcome not r ended)

pub told_no_file : (S : Around) (files : Option Files) (r : Result (Unit {0}) Ending) (n : ℕ) → S.folder.files ≡ files → n ≡ status r → EndedAs S r
    → IfSome files (λ held. (R : Request) → (read : List (List ℕ)) → (name : List ℕ) → IsAsked S.words R → AreHeld (Some held) (files_of R) read → IsReadOn (IsAccepted (map name_of S.outside.kinds) R) read → IsNext (files_of R) read name → IsNoFile (held name) → IsStatusOr 3 n)
told_no_file S None r n told is ended = tt
told_no_file S (Some held) r n told is ended = λ R read name asked there on next nothing. subst (IsStatusOr 3) (sym is) (no_file_status S held told R asked read name there on next nothing r ended)
