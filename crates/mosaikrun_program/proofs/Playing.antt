-- What is done over a fleet, as an answer.
use Rattle.std.proofs.Common.{◌≡◌, ℕ, ◌≤◌, inl, inr, ◌∙◌, subst, List, [], ◌∷◌, Option, Some, None, Result, Ok, Err}
use Rattle.std.specs.Prelude.{is_some, IfOk, IfErr}
use Rattle.mk_outside.specs.Folders.{Files}
use Rattle.mosaikrun_words.specs.declared.request.Request.TheVariants.{Run, Paced}
use Rattle.mosaikrun_endings.specs.declared.ending.Ending.{Ending}
use Rattle.mosaikrun_run.specs.Outcomes.{IsRunOutcome}
use Rattle.mosaikrun_paced.specs.Outcomes.{IsPacedOutcome}
use Rattle.mosaikrun_program.specs.Answers.{PrintAnswer}
use Rattle.mosaikrun_program.specs.Around.{Around, FolderSeen, OutputSeen}
use Rattle.mosaikrun_program.specs.Commands.{AreHeld, HasBytes, OfOne}
use Rattle.mosaikrun_program.specs.Running.{IsDoneOver, IsFolderAfter, IsSaved, IsUnsaved, RunAnswer}
use Rattle.mosaikrun_program.specs.Program.{EndedAs, HasPerformed}
use Rattle.mk_session.proofs.Polling.{risen_after}

-- what was asked for was done, whatever the answer
pub performed : (S : Around) (answer : Result (Unit {0}) Ending) → HasPerformed S answer → EndedAs S answer
performed S (Ok done) h = h
performed S (Err e) h = inr (inr h)

-- what a run of a scenario's file came to
pub record WasRun (S : Around) (scenario : List ℕ) (name : Option (List ℕ)) (answer : Result (Unit {0}) Ending) : Type 0 where
  pub bytes : List ℕ
  pub held : HasBytes S.folder.files scenario bytes
  pub text : Result (List ℕ) Ending
  pub kept : Option (List ℕ)
  pub outcome : IsRunOutcome S.outside (is_some name) bytes text kept
  pub ended : RunAnswer S.folder S.output name text kept answer

pub was_run : (S : Around) (scenario : List ℕ) (name : Option (List ℕ)) (answer : Result (Unit {0}) Ending) → IsDoneOver S (Run scenario name) answer → WasRun S scenario name answer
was_run S scenario name answer d = by d.read d.held d.outcome
  where
    by : (read : List (List ℕ)) → AreHeld S.folder.files (scenario ∷ []) read → OfOne (λ b o. IsRunOutcome S.outside (is_some name) b o d.kept) read d.text → WasRun S scenario name answer
    by [] held none = absurd none
    by (bytes ∷ []) held outcome = record { bytes = bytes; held = held.0; text = d.text; kept = d.kept; outcome = outcome; ended = d.ended }
    by (bytes ∷ other ∷ more) held none = absurd none

pub is_run : (S : Around) (scenario : List ℕ) (name : Option (List ℕ)) (answer : Result (Unit {0}) Ending) → WasRun S scenario name answer → IsDoneOver S (Run scenario name) answer
is_run S scenario name answer w = record { read = w.bytes ∷ []; held = (w.held, tt); text = w.text; kept = w.kept; outcome = w.outcome; ended = w.ended }

-- what a run of a scenario's file by a clock came to
pub record WasPaced (S : Around) (scenario : List ℕ) (factor : ℕ) (strict : Option ℕ) (name : Option (List ℕ)) (answer : Result (Unit {0}) Ending) : Type 0 where
  pub bytes : List ℕ
  pub held : HasBytes S.folder.files scenario bytes
  pub text : Result (List ℕ) Ending
  pub kept : Option (List ℕ)
  pub outcome : IsPacedOutcome S.outside factor strict (is_some name) bytes text kept
  pub ended : RunAnswer S.folder S.output name text kept answer

pub was_paced : (S : Around) (scenario : List ℕ) (factor : ℕ) (strict : Option ℕ) (name : Option (List ℕ)) (answer : Result (Unit {0}) Ending) → IsDoneOver S (Paced scenario factor strict name) answer → WasPaced S scenario factor strict name answer
was_paced S scenario factor strict name answer d = by d.read d.held d.outcome
  where
    by : (read : List (List ℕ)) → AreHeld S.folder.files (scenario ∷ []) read → OfOne (λ b o. IsPacedOutcome S.outside factor strict (is_some name) b o d.kept) read d.text → WasPaced S scenario factor strict name answer
    by [] held none = absurd none
    by (bytes ∷ []) held outcome = record { bytes = bytes; held = held.0; text = d.text; kept = d.kept; outcome = outcome; ended = d.ended }
    by (bytes ∷ other ∷ more) held none = absurd none

pub is_paced : (S : Around) (scenario : List ℕ) (factor : ℕ) (strict : Option ℕ) (name : Option (List ℕ)) (answer : Result (Unit {0}) Ending) → WasPaced S scenario factor strict name answer → IsDoneOver S (Paced scenario factor strict name) answer
is_paced S scenario factor strict name answer w = record { read = w.bytes ∷ []; held = (w.held, tt); text = w.text; kept = w.kept; outcome = w.outcome; ended = w.ended }

-- the output has taken the text, or a beginning of it
pub reported : (folder : FolderSeen) (out : OutputSeen) (name kept : Option (List ℕ)) (text : List ℕ) (answer : Result (Unit {0}) Ending) → IsSaved folder name kept → PrintAnswer out (Ok text) answer → RunAnswer folder out name (Ok text) kept answer
reported folder out name kept text (Ok done) saved put = (put, saved)
reported folder out name kept text (Err e) saved cut = inr (cut.0, saved, cut.1)

-- what was made of a text, or of why there is none, is one of both, and so is what else holds of it
pub either : {V : Type 0} (items : V → List ℕ) (P Q : Result (List ℕ) Ending → Type 0) (t : Result V Ending) → IfOk t (λ v. P (Ok (items v))) → IfErr t (λ e. P (Err e)) → IfOk t (λ v. Q (Ok (items v))) → IfErr t (λ e. Q (Err e)) → (x : Result (List ℕ) Ending) × P x × Q x
either items P Q (Ok v) text none also nor = (Ok (items v), text, also)
either items P Q (Err e) text none also nor = (Err e, none, nor)

-- an answer that holds from when the folder was read holds from before
module _ (folder : FolderSeen) (mid : Option Files) (risen : ℕ) (same : mid ≡ folder.files) (low : folder.faults ≤ risen) where
  abbrev since : FolderSeen
  since = record { files = mid; files_after = folder.files_after; faults = risen; new_faults = folder.new_faults }

  saved_since : (name kept : Option (List ℕ)) → IsSaved since name kept → IsSaved folder name kept
  saved_since name kept saved = subst (λ (f : Option Files). IsFolderAfter name kept f folder.files_after) same saved

  unsaved_since : (name : Option (List ℕ)) (e : Ending) → IsUnsaved since name e → IsUnsaved folder name e
  unsaved_since name e un = (un.0 ∙ same, elim un.1 [ inl rose ↦ inl (risen_after folder.faults risen folder.new_faults low rose) | inr mem ↦ inr mem ], un.2)

  pub answered_since : (out : OutputSeen) (name : Option (List ℕ)) (text : Result (List ℕ) Ending) (kept : Option (List ℕ)) (answer : Result (Unit {0}) Ending) → RunAnswer since out name text kept answer → RunAnswer folder out name text kept answer
  answered_since out name (Ok text) kept (Ok done) said = (said.0, saved_since name kept said.1)
  answered_since out name (Err why) kept (Ok done) said = absurd said
  answered_since out name (Ok text) kept (Err e) (inl un) = inl (un.0, unsaved_since name e un.1, un.2)
  answered_since out name (Ok text) kept (Err e) (inr cut) = inr (cut.0, saved_since name kept cut.1, cut.2)
  answered_since out name (Err why) kept (Err e) said = (said.0, said.1, elim said.2 [ inl saved ↦ inl (saved_since name kept saved) | inr un ↦ inr (unsaved_since name e un) ])

-- where there is no record, all files are as before
pub none_saved : (folder : FolderSeen) (name : Option (List ℕ)) → folder.files_after ≡ folder.files → IsSaved folder name None
none_saved folder None same = same
none_saved folder (Some name) same = same
