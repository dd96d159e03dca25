-- What the text of a command on files comes to, as an answer.
use Rattle.std.proofs.Common.{◌≡◌, ℕ, ◌<◌, ◌⊎◌, inl, inr, refl, sym, ◌∙◌, subst, length, List, [], ◌∷◌, map, Option, Some, None, Result, Ok, Err}
use Rattle.std.specs.Prelude.{IfErr, IfOk, IfSome}
use Rattle.mk_outside.specs.Counts.{HasRisen}
use Rattle.mk_outside.specs.Folders.{Files, file_limit}
use Rattle.mosaikrun_words.specs.declared.request.FileCommand.{FileCommand}
use Rattle.mosaikrun_words.specs.declared.request.FileCommand.TheVariants.{Replay, Check, Pair}
use Rattle.mosaikrun_words.specs.declared.request.PairCommand.{PairCommand}
use Rattle.mosaikrun_words.specs.declared.request.PairCommand.TheVariants.{Migrate}
use Rattle.mk_local.specs.declared.turn.Turn.{Turn}
use Rattle.mk_local.specs.Kinds.{name_of}
use Rattle.mk_plan.specs.declared.Plan.{Plan}
use Rattle.mk_plan.specs.Journals.{Arrival}
use Rattle.mk_record.specs.Asked.{Asked}
use Rattle.mk_record_mend.specs.Mended.{mended}
use Rattle.mk_record.specs.Reading.{reading, Said, Faulty}
use Rattle.mosaikrun_records.specs.Reports as reports
use Rattle.mosaikrun_records.specs.Saved.{IsRecord, IsUnread}
use Rattle.mosaikrun_records.specs.Migrations.{IsMigration}
use Rattle.mosaikrun_check.specs.Checks as checks
use Rattle.mosaikrun_words.specs.declared.request.Request.TheVariants.{Files as Reads}
use Rattle.mosaikrun_endings.specs.declared.ending.Ending.{Ending}
use Rattle.mosaikrun_program.specs.Around.{Around, RulesSeen}
use Rattle.mosaikrun_program.specs.Answers.{TextAnswer}
use Rattle.mosaikrun_program.specs.Commands.{AreHeld, IsAsked, HasBytes, ComesOfFiles, IsNext, IsOutcomeOf, IsStuck, IsUnreadable, OfTwo, read_by, target_of}
use Rattle.mosaikrun_program.specs.inner.Making.{IsMadeOfOne, IsUnmade}
use Rattle.mosaikrun_program.specs.Program.{EndedAs}
use Rattle.mosaikrun_program.proofs.Playing.{performed}

-- the command that was asked for has come to this text, and the fleet wasn't used
pub has_made : (S : Around) (command : FileCommand) (text : Result (List ℕ) Ending) (answer : Result (Unit {0}) Ending) → IsAsked S.words (Reads command) → ComesOfFiles S.folder.files S.outside.kinds S.rules command text → TextAnswer S (target_of command) text answer
    → S.outside.log ≡ [] → S.outside.new_faults ≡ S.outside.faults → EndedAs S answer
has_made S command text answer asked made ended log faults = performed S answer (inl (record { command = command; asked = asked; text = text; made = made; ended = ended; log = log; faults = faults }))

-- there is no text, which is said
no_text : (S : Around) (target : Option (List ℕ)) (e : Ending) → S.output.after ≡ S.output.before → S.folder.files_after ≡ S.folder.files → TextAnswer S target (Err e) (Err e)
no_text S None e unput unsaved = ((unput, inl refl), unsaved)
no_text S (Some name) e unput unsaved = ((unsaved, inl refl), unput)

pub has_none : (S : Around) (command : FileCommand) (e : Ending) → IsAsked S.words (Reads command) → IsStuck S.folder.files (read_by command) (HasRisen S.folder.faults S.folder.new_faults) e ⊎ ComesOfFiles S.folder.files S.outside.kinds S.rules command (Err e)
    → S.output.after ≡ S.output.before → S.folder.files_after ≡ S.folder.files → S.outside.log ≡ [] → S.outside.new_faults ≡ S.outside.faults → EndedAs S (Err e)
has_none S command e asked (inl stuck) unput unsaved log faults = inr (inl (record { request = Reads command; asked = asked; stuck = stuck; untouched = record { unput = unput; unsaved = unsaved; log = log; faults = faults } }))
has_none S command e asked (inr made) unput unsaved log faults = has_made S command (Err e) (Err e) asked made (no_text S (target_of command) e unput unsaved) log faults

-- the first of a command's files isn't read
pub stuck_first : (files : Option Files) (name : List ℕ) (names : List (List ℕ)) (risen : Type 0) (e : Ending) → IsUnreadable files name risen e → IsStuck files (name ∷ names) risen e
stuck_first files name names risen e cause = record { read = []; held = tt; on = tt; name = name; next = refl; cause = cause }

-- an answer that is an ending, and what holds of that
pub if_err : {T : Type 0} (r : Result T Ending) (e : Ending) (P : Ending → Type 0) → r ≡ Err e → P e → IfErr r P
if_err {T} r e P is h = subst (λ (x : Result T Ending). IfErr x P) (sym is) h

pub on_ok : {T : Type 0} {P Q : T → Type 0} (r : Result T Ending) → ((x : T) → P x → Q x) → IfOk r P → IfOk r Q
on_ok (Ok x) f h = f x h
on_ok (Err e) f h = h

pub on_err : {T : Type 0} {P Q : Ending → Type 0} (r : Result T Ending) → ((e : Ending) → P e → Q e) → IfErr r P → IfErr r Q
on_err (Ok x) f h = h
on_err (Err e) f h = f e h

-- a file that wasn't read later isn't there, the files being as before
pub unreadable_later : (mid old : Option Files) (name : List ℕ) (some risen : Type 0) (e : Ending) → mid ≡ old → (some → risen) → IsUnreadable mid name some e → IsUnreadable old name risen e
unreadable_later mid old name some risen e same rose (inl mem) = inl mem
unreadable_later mid old name some risen e same rose (inr (inl failed)) = inr (inl (failed.0, rose failed.1))
unreadable_later mid old name some risen e same rose (inr (inr (inl missing))) = inr (inr (inl (missing.0, subst (λ (f : Option Files). IfSome f (λ held. held name ≡ None)) same missing.1)))
unreadable_later mid old name some risen e same rose (inr (inr (inr long))) =
    inr (inr (inr (long.0, long.1, subst (λ (f : Option Files). IfSome f (λ held. (bytes : List ℕ) × (held name ≡ Some bytes) × (length bytes ≡ long.0) × (file_limit < long.0))) same long.2)))

-- the bytes that are read as these say a record, and a faulty line says none
pub is_record : (bytes : List ℕ) (P : Plan) (A : List Arrival) (s : Option (List Asked)) → reading bytes ≡ Said P A s → IsRecord bytes
is_record bytes P A s is = record { plan = P; arrivals = A; steps = s; read = is }

no_record : (bytes : List ℕ) (line fault : ℕ) → reading bytes ≡ Faulty line fault → IsRecord bytes → ⊥
no_record bytes line fault is r = let other = r.read in let both : Said r.plan r.arrivals r.steps ≡ Faulty line fault = sym other ∙ is in cc

-- the first of the files of a command that has two isn't read
pub first_unread : (files : Option Files) (kinds : List Turn) (rules : RulesSeen) (c : PairCommand) (first second : List ℕ) (risen : Type 0) (e : Ending) → read_by (Pair c first second) ≡ first ∷ second ∷ [] → IsUnreadable files first risen e → IsUnmade files kinds rules (Pair c first second) risen e
first_unread files kinds rules c first second risen e names cause = inl (subst (λ (n : List (List ℕ)). IsStuck files n risen e) (sym names) (stuck_first files first (second ∷ []) risen e cause))

-- a command whose row is one over two files
module _ (files : Option Files) (kinds : List Turn) (rules : RulesSeen) (c : PairCommand) (first second : List ℕ) (makes : List ℕ → List ℕ → Result (List ℕ) Ending → Type 0) (names : read_by (Pair c first second) ≡ first ∷ second ∷ [])
    (row : (read : List (List ℕ)) (o : Result (List ℕ) Ending) → OfTwo makes read o → IsOutcomeOf kinds rules (Pair c first second) read o) (bytes : List ℕ) (held : HasBytes files first bytes) where
  -- the first is no record, or memory was wanting
  pub first_refused : (risen : Type 0) (e : Ending) → ((other : List ℕ) → IsUnread bytes e → makes bytes other (Err e)) → IsUnread bytes e → IsUnmade files kinds rules (Pair c first second) risen e
  first_refused risen e law (inl mem) = first_unread files kinds rules c first second risen e names (inl mem)
  first_refused risen e law (inr fault) = inr (record {
    read = bytes ∷ [];
    held = subst (λ (n : List (List ℕ)). AreHeld files n (bytes ∷ [])) (sym names) (held, tt);
    made = row (bytes ∷ []) (Err e) (no_record bytes fault.0 fault.1 fault.3, λ other. law other (inr fault));
  })

  -- the second isn't read, and the first is a record
  pub second_unread : (risen : Type 0) (e : Ending) → IsRecord bytes → IsUnreadable files second risen e → IsUnmade files kinds rules (Pair c first second) risen e
  second_unread risen e is cause = inl (record {
    read = bytes ∷ [];
    held = subst (λ (n : List (List ℕ)). AreHeld files n (bytes ∷ [])) (sym names) (held, tt);
    on = is;
    name = second;
    next = subst (λ (n : List (List ℕ)). IsNext n (bytes ∷ []) second) (sym names) refl;
    cause = cause;
  })

  -- both were read
  pub both_made : (other : List ℕ) (o : Result (List ℕ) Ending) → HasBytes files second other → makes bytes other o → ComesOfFiles files kinds rules (Pair c first second) o
  both_made other o too made = record {
    read = bytes ∷ other ∷ [];
    held = subst (λ (n : List (List ℕ)). AreHeld files n (bytes ∷ other ∷ [])) (sym names) (held, (too, tt));
    made = row (bytes ∷ other ∷ []) o made;
  }

-- what came of the one file that a command reads
module _ (files : Option Files) (kinds : List Turn) (rules : RulesSeen) (name : List ℕ) (o : Result (List ℕ) Ending) where
  pub replay_made : (order : Option ℕ) → IsMadeOfOne files name (λ bytes. reports.IsOutcome bytes order) o → ComesOfFiles files kinds rules (Replay name order) o
  replay_made order m = record { read = m.bytes ∷ []; held = (m.held, tt); made = m.made }

  pub check_made : IsMadeOfOne files name (checks.IsOutcome (map name_of kinds)) o → ComesOfFiles files kinds rules (Check name) o
  check_made m = record { read = m.bytes ∷ []; held = (m.held, tt); made = m.made }

  pub migrate_made : (new : List ℕ) → IsMadeOfOne files name (λ bytes. IsMigration (mended bytes)) o → ComesOfFiles files kinds rules (Pair Migrate name new) o
  migrate_made new m = record { read = m.bytes ∷ []; held = (m.held, tt); made = m.made }
