-- What becomes of the file that a run that goes on saves its record in, by how the program ended.
use Rattle.std.proofs.Common.{◌≡◌, ◌≤◌, ◌⊎◌, inl, inr, ℕ, true, List, [], ◌∷◌, length, map, Option, Some, None, Result, Ok, Err, refl, sym, ap, ◌∙◌, subst, arith}
use Rattle.std.specs.Prelude.{IfSome}
use Rattle.mk_base.proofs.Lists.{some_same}
use Rattle.mk_outside.specs.Counts.{HasRisen}
use Rattle.mk_outside.specs.Folders.{Files, file_limit}
use Rattle.mk_local.specs.Kinds.{name_of}
use Rattle.mk_record.specs.Reading.{reading, Said, Faulty}
use Rattle.mk_record.specs.Seen.{came as came_}
use Rattle.mk_record.specs.Texts.{record_text}
use Rattle.mk_record_read.specs.declared.saved.Saved.{Saved}
use Rattle.mk_record_mend.specs.Mended.{mended}
use Rattle.mosaikrun_words.specs.declared.request.Request.{Request}
use Rattle.mosaikrun_words.specs.declared.request.Request.TheVariants.{Files as Reads, Resume}
use Rattle.mosaikrun_check.specs.CheckText.{check_text}
use Rattle.mosaikrun_check.specs.Checks.{IsUnchecked}
use Rattle.mosaikrun_check.proofs.OneRanking.{one_status}
use Rattle.mosaikrun_endings.specs.declared.ending.Ending.{Ending}
use Rattle.mosaikrun_endings.specs.declared.ending.Ending.TheVariants as ends
use Rattle.mosaikrun_endings.specs.Endings.{status_of}
use Rattle.mosaikrun_records.specs.Saved.{IsRecord, IsUnread}
use Rattle.mosaikrun_run.specs.Outcomes.{IsReadAgain, IsUnrun}
use Rattle.mosaikrun_resume.specs.Outcomes.{IsNotTaken, IsResumeOutcome, IsSavedOutcome, IsStudy}
use Rattle.mosaikrun_program.specs.Around.{Around}
use Rattle.mosaikrun_program.specs.Commands.{AreHeld, IsAccepted, IsAsked, HasBytes, IsNext, IsStuckBy, IsUnasked, IsUnreadable, OfTwoBy, files_of}
use Rattle.mosaikrun_program.specs.Program.{EndedAs, HasPerformed, status}
use Rattle.mosaikrun_program.specs.Resuming.{HoldsNewRecord, IsNewRecordKept, KeepsOldFiles}
use Rattle.mosaikrun_program.specs.Running.{IsDoneOver, IsFolderAfter, IsSaved, RunAnswer}
use Rattle.mosaikrun_program.proofs.Answering.{one_request}
use Rattle.mosaikrun_program.proofs.RightCalls.{not_zero}

-- bytes that are refused as a scenario are none that can be run
pub refused_not : (kinds : List (List ℕ)) (bytes : List ℕ) (e : Ending) → IsUnchecked kinds bytes e → (e ≡ ends.Mem → ⊥) → IsStudy kinds bytes → ⊥
refused_not kinds bytes e cause not s =
    let zero : status_of e ≡ 0 = one_status kinds bytes (Err e) (Ok (check_text s.scenario s.ranks)) cause
    (record { scenario = s.scenario; ranks = s.ranks; read = s.read; ranked = s.runnable.ranked; prepared = s.runnable.prepared; is = refl })
    (λ (w : Err e ≡ Err ends.Mem). not (let same : e ≡ ends.Mem = cc in same)) (λ w. cc) in
    not_zero e zero

pub no_record : (bytes : List ℕ) (e : Ending) → IsUnread bytes e → (e ≡ ends.Mem → ⊥) → IsRecord bytes → ⊥
no_record bytes e (inl mem) not r = not mem
no_record bytes e (inr fault) not r = let other = r.read in let is = fault.3 in let both : Said r.plan r.arrivals r.steps ≡ Faulty fault.0 fault.1 = sym other ∙ is in cc

module _ (S : Around) (bytes recorded name : List ℕ) where
  abbrev Kept : Result (Unit {0}) Ending → Type 0
  Kept answer = KeepsOldFiles S answer bytes recorded name ⊎ HoldsNewRecord S answer bytes recorded name

  same_files : (kept : Option (List ℕ)) → kept ≡ None → IsSaved S.folder (Some name) kept → S.folder.files_after ≡ S.folder.files
  same_files kept none saved = subst (λ (k : Option (List ℕ)). IsFolderAfter (Some name) k S.folder.files S.folder.files_after) none saved

  module _ (answer : Result (Unit {0}) Ending) (text : Result (List ℕ) Ending) (kept : Option (List ℕ)) (told : RunAnswer S.folder S.output (Some name) text kept answer) (saved : IsSaved S.folder (Some name) kept) (not : text ≡ Err ends.Mem → ⊥) where
    not_memory : (e : Ending) → text ≡ Err e → e ≡ ends.Mem → ⊥
    not_memory e is mem = not (is ∙ ap (λ (x : Ending). Err x) mem)

    module _ (s : IsStudy (map name_of S.outside.kinds) bytes) (old : Saved) (read : reading (mended recorded) ≡ Said old.plan (map came_ old.arrivals) old.asks) where
      went : IsSavedOutcome S.outside true s.scenario s.ranks old text kept → Kept answer
      went (inl unrun) = inl (record {
        same = same_files kept unrun.unrecorded saved;
        cause = inr (inr (record {
          study = s;
          old = old;
          read = read;
          said = text;
          untaken = inl (subst (λ (k : Option (List ℕ)). IsUnrun S.outside s.scenario text k) unrun.unrecorded unrun);
          answered = subst (λ (k : Option (List ℕ)). RunAnswer S.folder S.output (Some name) text k answer) unrun.unrecorded told;
        }));
      })
      went (inr (inl rest)) = inl (record {
        same = same_files kept rest.unrecorded saved;
        cause = inr (inr (record {
          study = s;
          old = old;
          read = read;
          said = text;
          untaken = inr (subst (λ (k : Option (List ℕ)). IsNotTaken S.outside s.scenario s.ranks old text k) rest.unrecorded rest);
          answered = subst (λ (k : Option (List ℕ)). RunAnswer S.folder S.output (Some name) text k answer) rest.unrecorded told;
        }));
      })
      went (inr (inr gone)) = elim gone.recorded [
        | inl is ↦ inr (record {
          study = s;
          old = old;
          read = read;
          said = text;
          text = record_text gone.plan gone.journal;
          gone = record { plan = gone.plan; journal = gone.journal; end = gone.end; run = gone.run; said = gone.said; recorded = inl refl; again = subst (λ (k : Option (List ℕ)). IfSome k (IsReadAgain gone.plan gone.journal)) is gone.again };
          is = refl;
          answered = subst (λ (k : Option (List ℕ)). RunAnswer S.folder S.output (Some name) text k answer) is told;
          filed = subst (λ (k : Option (List ℕ)). IsFolderAfter (Some name) k S.folder.files S.folder.files_after) is saved;
        })
        | inr none ↦ absurd (not none.1)
      ]

    came : IsResumeOutcome S.outside true bytes (mended recorded) text kept → Kept answer
    came (inl none) = inl (record { same = same_files kept none.idle.unrecorded saved; cause = inl (refused_not (map name_of S.outside.kinds) bytes none.ending none.cause (not_memory none.ending none.is)) })
    came (inr has) = elim has.outcome [
      | inl none ↦ inl (record { same = same_files kept none.idle.unrecorded saved; cause = inr (inl (no_record (mended recorded) none.ending none.cause (not_memory none.ending none.is))) })
      | inr rec ↦ went has.study rec.saved rec.read rec.outcome
    ]

  module _ (unrisen : HasRisen S.folder.faults S.folder.new_faults → ⊥) where
    -- what the answer says
    answered : (answer : Result (Unit {0}) Ending) (text : Result (List ℕ) Ending) (kept : Option (List ℕ)) → (answer ≡ Err ends.Mem → ⊥) → IsResumeOutcome S.outside true bytes (mended recorded) text kept → RunAnswer S.folder S.output (Some name) text kept answer → Kept answer
    answered (Ok done) (Ok text) kept not outcome said = came (Ok done) (Ok text) kept said said.1 (λ wrong. cc) outcome
    answered (Ok done) (Err why) kept not outcome said = absurd said
    answered (Err e) (Ok text) kept not outcome (inl unsaved) = elim unsaved.1.1 [ inl rose ↦ absurd (unrisen rose) | inr mem ↦ absurd (not (ap (λ (x : Ending). Err x) mem)) ]
    answered (Err e) (Ok text) kept not outcome (inr cut) = came (Err e) (Ok text) kept (inr cut) cut.1 (λ wrong. cc) outcome
    answered (Err e) (Err why) kept not outcome said = elim said.1 [
      | inr mem ↦ absurd (not (ap (λ (x : Ending). Err x) mem))
      | inl same ↦ elim said.2 [
        | inl saved ↦ came (Err e) (Err why) kept said saved (λ (wrong : Err why ≡ Err ends.Mem). let short : why ≡ ends.Mem = cc in not (ap (λ (x : Ending). Err x) (same ∙ short))) outcome
        | inr unsaved ↦ elim unsaved.1 [ inl rose ↦ absurd (unrisen rose) | inr mem ↦ absurd (not (ap (λ (x : Ending). Err x) mem)) ]
      ]
    ]

-- a file that is there, and short enough, is read
readable_not : (held : Files) (name bytes : List ℕ) (risen : Type 0) (e : Ending) → held name ≡ Some bytes → length bytes ≤ file_limit → (risen → ⊥) → (e ≡ ends.Mem → ⊥) → IsUnreadable (Some held) name risen e → ⊥
readable_not held name bytes risen e there short unrisen not (inl mem) = not mem
readable_not held name bytes risen e there short unrisen not (inr (inl failed)) = unrisen failed.1
readable_not held name bytes risen e there short unrisen not (inr (inr (inl missing))) = let none = missing.1 in let wrong : Some bytes ≡ None = sym there ∙ none in cc
readable_not held name bytes risen e there short unrisen not (inr (inr (inr long))) =
    let more = long.2 in
    let same : more.0 ≡ bytes = some_same (sym more.1 ∙ there) in
    let count : long.0 ≡ length bytes = sym more.2 ∙ ap length same in
    let over = more.3 in
    omega (arith, count, over, short)

module _ (S : Around) (held : Files) (told : S.folder.files ≡ Some held) (scenario record_ name bytes recorded : List ℕ) (asked : IsAsked S.words (Resume scenario record_ (Some name)))
    (there : held scenario ≡ Some bytes) (short : length bytes ≤ file_limit) (there_too : held record_ ≡ Some recorded) (short_too : length recorded ≤ file_limit) (unrisen : HasRisen S.folder.faults S.folder.new_faults → ⊥) where
  this_one : (Q : Request) → IsAsked S.words Q → Q ≡ Resume scenario record_ (Some name)
  this_one Q other = one_request S.words Q (Resume scenario record_ (Some name)) other asked

  -- the bytes that were read are these
  these : (file b c : List ℕ) → held file ≡ Some c → HasBytes S.folder.files file b → b ≡ c
  these file b c is h = let seen = subst (λ (files : Option Files). HasBytes files file b) told h in some_same (sym seen.0 ∙ is)

  module _ (answer : Result (Unit {0}) Ending) (not : answer ≡ Err ends.Mem → ⊥) where
    done_keeps : IsDoneOver S (Resume scenario record_ (Some name)) answer → Kept S bytes recorded name answer
    done_keeps d = by d.read d.held d.outcome
      where
        both : (b r : List ℕ) → b ≡ bytes → r ≡ recorded → IsResumeOutcome S.outside true b (mended r) d.text d.kept → Kept S bytes recorded name answer
        both b r one other outcome = answered S bytes recorded name unrisen answer d.text d.kept not (subst (λ (x : List ℕ). IsResumeOutcome S.outside true bytes (mended x) d.text d.kept) other (subst (λ (x : List ℕ). IsResumeOutcome S.outside true x (mended r) d.text d.kept) one outcome)) d.ended

        by : (read : List (List ℕ)) → AreHeld S.folder.files (scenario ∷ record_ ∷ []) read → OfTwoBy (IsStudy (map name_of S.outside.kinds)) (λ b r o. IsResumeOutcome S.outside true b (mended r) o d.kept) read d.text → Kept S bytes recorded name answer
        by [] h outcome = absurd outcome
        by (b ∷ []) h outcome = both b recorded (these scenario b bytes there h.0) refl (outcome.1 recorded)
        by (b ∷ r ∷ []) h outcome = both b r (these scenario b bytes there h.0) (these record_ r recorded there_too h.1.0) outcome
        by (b ∷ r ∷ other ∷ more) h outcome = absurd outcome

    performed : HasPerformed S answer → Kept S bytes recorded name answer
    performed (inl made) = let wrong = this_one (Reads made.command) made.asked in absurd cc
    performed (inr ran) = done_keeps (subst (λ (R : Request). IsDoneOver S R answer) (this_one ran.request ran.asked) ran.run)

  stuck_not : (e : Ending) → (e ≡ ends.Mem → ⊥) → (Q : Request) → Q ≡ Resume scenario record_ (Some name) → IsStuckBy (IsAccepted (map name_of S.outside.kinds) Q) S.folder.files (files_of Q) (HasRisen S.folder.faults S.folder.new_faults) e → ⊥
  stuck_not e not Q same stuck =
      let here = subst (λ (X : Request). IsStuckBy (IsAccepted (map name_of S.outside.kinds) X) S.folder.files (files_of X) (HasRisen S.folder.faults S.folder.new_faults) e) same stuck in
      by here.read here.name here.next (subst (λ (files : Option Files). IsUnreadable files here.name (HasRisen S.folder.faults S.folder.new_faults) e) told here.cause)
    where
      by : (read : List (List ℕ)) (file : List ℕ) → IsNext (scenario ∷ record_ ∷ []) read file → IsUnreadable (Some held) file (HasRisen S.folder.faults S.folder.new_faults) e → ⊥
      by [] file next cause = readable_not held scenario bytes _ e there short unrisen not (subst (λ (x : List ℕ). IsUnreadable (Some held) x (HasRisen S.folder.faults S.folder.new_faults) e) (sym next) cause)
      by (b ∷ []) file next cause = readable_not held record_ recorded _ e there_too short_too unrisen not (subst (λ (x : List ℕ). IsUnreadable (Some held) x (HasRisen S.folder.faults S.folder.new_faults) e) (sym next) cause)
      by (b ∷ r ∷ more) file next cause = next

  misused_not : (e : Ending) → (e ≡ ends.Mem → ⊥) → IsUnasked S.words e → ⊥
  misused_not e not (inl mem) = not mem
  misused_not e not (inr usage) = usage.1 (Resume scenario record_ (Some name)) asked

  ended_keeps : (answer : Result (Unit {0}) Ending) → (answer ≡ Err ends.Mem → ⊥) → EndedAs S answer → Kept S bytes recorded name answer
  ended_keeps (Ok done) not done_so = performed (Ok done) not done_so
  ended_keeps (Err e) not (inl misused) = absurd (misused_not e (λ mem. not (ap (λ (x : Ending). Err x) mem)) misused.cause)
  ended_keeps (Err e) not (inr (inl unread)) = absurd (stuck_not e (λ mem. not (ap (λ (x : Ending). Err x) mem)) unread.request (this_one unread.request unread.asked) unread.stuck)
  ended_keeps (Err e) not (inr (inr done_so)) = performed (Err e) not done_so

pub new_record_kept : (S : Around) (answer : Result (Unit {0}) Ending) (n : ℕ) → n ≡ status answer → EndedAs S answer → IsNewRecordKept S answer n
new_record_kept S answer n is ended = by_files S.folder.files refl
  where
    by_files : (files : Option Files) → S.folder.files ≡ files
        → IfSome files (λ held. (scenario record_ name bytes recorded : List ℕ) → IsAsked S.words (Resume scenario record_ (Some name)) → held scenario ≡ Some bytes → length bytes ≤ file_limit → held record_ ≡ Some recorded → length recorded ≤ file_limit
        → (HasRisen S.folder.faults S.folder.new_faults → ⊥) → (n ≡ 8 → ⊥) → KeepsOldFiles S answer bytes recorded name ⊎ HoldsNewRecord S answer bytes recorded name)
    by_files None told = tt
    by_files (Some held) told = λ scenario record_ name bytes recorded asked there short there_too short_too unrisen other.
        ended_keeps S held told scenario record_ name bytes recorded asked there short there_too short_too unrisen answer (λ (mem : answer ≡ Err ends.Mem). other (is ∙ ap status mem)) ended
