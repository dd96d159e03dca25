-- What becomes of the file that a run saves its record in, by how the program ended.
use Rattle.std.proofs.Common.{◌≡◌, inl, inr, ℕ, true, List, [], Option, Some, None, Result, Ok, Err, refl, sym, ap, ◌∙◌, subst}
use Rattle.std.specs.Prelude.{IfSome}
use Rattle.mk_outside.specs.Counts.{HasRisen}
use Rattle.mk_outside.specs.Folders.{Files}
use Rattle.mosaikrun_words.specs.declared.request.Request.{Request}
use Rattle.mosaikrun_words.specs.declared.request.Request.TheVariants.{Files as Reads, Run}
use Rattle.mk_record.specs.Texts.{record_text}
use Rattle.mk_scenario.specs.declared.parts.Scenario.{Scenario}
use Rattle.mk_scenario.specs.Scenarios.{scenario_of}
use Rattle.mosaikrun_check.specs.Checks.{IsUnread}
use Rattle.mosaikrun_endings.specs.declared.ending.Ending.{Ending}
use Rattle.mosaikrun_endings.specs.declared.ending.Ending.TheVariants as ends
use Rattle.mosaikrun_run.specs.declared.sayings.Form.TheVariants.{Report}
use Rattle.mosaikrun_run.specs.Outcomes.{IsRunOutcome}
use Rattle.mosaikrun_run.specs.Records.{HasRecord, IsRunFault, EndsOfItself, IsStepSaid}
use Rattle.mosaikrun_run.proofs.Recording.{nothing_said, records_there}
use Rattle.mosaikrun_program.specs.Around.{Around}
use Rattle.mosaikrun_program.specs.Commands.{IsAsked, HasBytes, IsUnasked, IsUnreadable}
use Rattle.mosaikrun_program.specs.Program.{EndedAs, HasPerformed, status}
use Rattle.mosaikrun_program.specs.Recording.{HoldsRecord, IsRecordKept, KeepsRecord}
use Rattle.mosaikrun_program.specs.Running.{IsDoneOver, IsFolderAfter, IsSaved, RunAnswer}
use Rattle.mosaikrun_program.proofs.Answering.{one_request}
use Rattle.mosaikrun_program.proofs.Playing.{was_run}

-- the bytes are one scenario
pub one_scenario : (X Y : Scenario) (bytes : List ℕ) → scenario_of bytes ≡ Ok X → scenario_of bytes ≡ Ok Y → X ≡ Y
one_scenario X Y bytes a b = let both : Ok X ≡ Ok Y = sym a ∙ b in cc

module _ (S : Around) (bytes name : List ℕ) where
  -- a record that was saved is held
  held_record : (answer : Result (Unit {0}) Ending) (scenario : Scenario) (text : Result (List ℕ) Ending) (kept : Option (List ℕ)) → scenario_of bytes ≡ Ok scenario → HasRecord S.outside Report scenario text kept → RunAnswer S.folder S.output (Some name) text kept answer → IsSaved S.folder (Some name) kept → HoldsRecord S answer bytes name
  held_record answer scenario text kept read has told saved = record {
    scenario = scenario;
    read = read;
    said = text;
    text = record_text has.plan has.journal;
    record_ = record { ranks = has.ranks; runnable = has.runnable; plan = has.plan; journal = has.journal; outcome = has.outcome; run = has.run; said = has.said; is = refl; again = has.again };
    answered = subst (λ (k : Option (List ℕ)). RunAnswer S.folder S.output (Some name) text k answer) has.is told;
    saved = subst (λ (k : Option (List ℕ)). IsFolderAfter (Some name) k S.folder.files S.folder.files_after) has.is saved;
  }

  -- nothing was done
  untouched : (answer : Result (Unit {0}) Ending) → S.folder.files_after ≡ S.folder.files → S.outside.log ≡ [] → (EndsOfItself answer → ⊥) → KeepsRecord S answer bytes name
  untouched answer unsaved quiet not = record {
    either = inl unsaved;
    of_itself = λ of_itself. absurd (not of_itself);
    said = λ scenario read said. absurd (nothing_said S.outside.started scenario S.outside.log quiet said);
  }

  -- bytes that are no scenario have no fault of a run
  no_scenario : (e : Ending) → IsUnread bytes e → IsRunFault e → ⊥
  no_scenario e (inl mem) of_itself = subst IsRunFault mem of_itself
  no_scenario e (inr fault) of_itself = subst IsRunFault fault.1 of_itself

  -- what came of the bytes, and that the record, where there is one, was saved
  came : (answer : Result (Unit {0}) Ending) (text : Result (List ℕ) Ending) (kept : Option (List ℕ)) → IsRunOutcome S.outside true bytes text kept → RunAnswer S.folder S.output (Some name) text kept answer → IsSaved S.folder (Some name) kept → (text ≡ Err ends.Mem → ⊥) → (EndsOfItself answer → EndsOfItself text) → KeepsRecord S answer bytes name
  came answer text kept (inl none) told saved not by_itself = untouched answer (subst (λ (k : Option (List ℕ)). IsFolderAfter (Some name) k S.folder.files S.folder.files_after) none.idle.unrecorded saved) none.idle.quiet
      (λ of_itself. no_scenario none.ending none.cause (subst (λ (t : Result (List ℕ) Ending). EndsOfItself t) none.is (by_itself of_itself)))
  came answer text kept (inr read) told saved not by_itself = record {
    either = elim (records_there.only S.outside Report read.scenario text kept read.outcome) [
      | inl none ↦ inl (subst (λ (k : Option (List ℕ)). IsFolderAfter (Some name) k S.folder.files S.folder.files_after) none saved)
      | inr has ↦ inr (held_record answer read.scenario text kept read.read has told saved)
    ];
    of_itself = λ of_itself. held_record answer read.scenario text kept read.read (records_there.there S.outside Report read.scenario text kept read.outcome not (inl (by_itself of_itself))) told saved;
    said = λ scenario is said. held_record answer read.scenario text kept read.read
        (records_there.there S.outside Report read.scenario text kept read.outcome not (inr (subst (λ (X : Scenario). IsStepSaid S.outside.started X S.outside.log) (one_scenario scenario read.scenario bytes is read.read) said))) told saved;
  }

  module _ (unrisen : HasRisen S.folder.faults S.folder.new_faults → ⊥) where
    -- what a run's answer says
    answered : (answer : Result (Unit {0}) Ending) (text : Result (List ℕ) Ending) (kept : Option (List ℕ)) → (answer ≡ Err ends.Mem → ⊥) → IsRunOutcome S.outside true bytes text kept → RunAnswer S.folder S.output (Some name) text kept answer → KeepsRecord S answer bytes name
    answered (Ok done) (Ok text) kept not outcome said = came (Ok done) (Ok text) kept outcome said said.1 (λ wrong. cc) (λ of_itself. tt)
    answered (Ok done) (Err why) kept not outcome said = absurd said
    answered (Err e) (Ok text) kept not outcome (inl unsaved) = elim unsaved.1.1 [ inl rose ↦ absurd (unrisen rose) | inr mem ↦ absurd (not (ap (λ (x : Ending). Err x) mem)) ]
    answered (Err e) (Ok text) kept not outcome (inr cut) = came (Err e) (Ok text) kept outcome (inr cut) cut.1 (λ wrong. cc) (λ of_itself. tt)
    answered (Err e) (Err why) kept not outcome said = elim said.1 [
      | inr mem ↦ absurd (not (ap (λ (x : Ending). Err x) mem))
      | inl same ↦ elim said.2 [
        | inl saved ↦ came (Err e) (Err why) kept outcome said saved (λ (wrong : Err why ≡ Err ends.Mem). let short : why ≡ ends.Mem = cc in not (ap (λ (x : Ending). Err x) (same ∙ short))) (λ of_itself. subst IsRunFault same of_itself)
        | inr unsaved ↦ elim unsaved.1 [ inl rose ↦ absurd (unrisen rose) | inr mem ↦ absurd (not (ap (λ (x : Ending). Err x) mem)) ]
      ]
    ]

module _ (S : Around) (held : Files) (told : S.folder.files ≡ Some held) (scenario name bytes : List ℕ) (asked : IsAsked S.words (Run scenario (Some name))) (there : held scenario ≡ Some bytes)
    (unrisen : HasRisen S.folder.faults S.folder.new_faults → ⊥) where
  this_run : (Q : Request) → IsAsked S.words Q → Q ≡ Run scenario (Some name)
  this_run Q other = one_request S.words Q (Run scenario (Some name)) other asked

  performed : (answer : Result (Unit {0}) Ending) → (answer ≡ Err ends.Mem → ⊥) → HasPerformed S answer → KeepsRecord S answer bytes name
  performed answer not (inl made) = let wrong = this_run (Reads made.command) made.asked in absurd cc
  performed answer not (inr ran) =
      let w = was_run S scenario (Some name) answer (subst (λ (R : Request). IsDoneOver S R answer) (this_run ran.request ran.asked) ran.run) in
      let seen = subst (λ (files : Option Files). HasBytes files scenario w.bytes) told w.held in
      let both : Some w.bytes ≡ Some bytes = sym seen.0 ∙ there in
      let these : w.bytes ≡ bytes = cc in
      answered S bytes name unrisen answer w.text w.kept not (subst (λ (b : List ℕ). IsRunOutcome S.outside true b w.text w.kept) these w.outcome) w.ended

  misused_not : (e : Ending) → IsUnasked S.words e → IsRunFault e → ⊥
  misused_not e (inl mem) of_itself = subst IsRunFault mem of_itself
  misused_not e (inr usage) of_itself = subst IsRunFault usage.0 of_itself

  unread_not : (files : Option Files) (other : List ℕ) (risen : Type 0) (e : Ending) → IsUnreadable files other risen e → IsRunFault e → ⊥
  unread_not files other risen e (inl mem) of_itself = subst IsRunFault mem of_itself
  unread_not files other risen e (inr (inl failed)) of_itself = subst IsRunFault failed.0 of_itself
  unread_not files other risen e (inr (inr (inl missing))) of_itself = subst IsRunFault missing.0 of_itself
  unread_not files other risen e (inr (inr (inr long))) of_itself = subst IsRunFault long.1 of_itself

  ended_keeps : (answer : Result (Unit {0}) Ending) → (answer ≡ Err ends.Mem → ⊥) → EndedAs S answer → KeepsRecord S answer bytes name
  ended_keeps (Ok done) not done_so = performed (Ok done) not done_so
  ended_keeps (Err e) not (inl misused) = untouched S bytes name (Err e) misused.untouched.unsaved misused.untouched.log (misused_not e misused.cause)
  ended_keeps (Err e) not (inr (inl unread)) = untouched S bytes name (Err e) unread.untouched.unsaved unread.untouched.log (unread_not _ _ _ e unread.stuck.cause)
  ended_keeps (Err e) not (inr (inr done_so)) = performed (Err e) not done_so

pub record_kept : (S : Around) (answer : Result (Unit {0}) Ending) (n : ℕ) → n ≡ status answer → EndedAs S answer → IsRecordKept S answer n
record_kept S answer n is ended = by_files S.folder.files refl
  where
    by_files : (files : Option Files) → S.folder.files ≡ files
        → IfSome files (λ held. (scenario name bytes : List ℕ) → IsAsked S.words (Run scenario (Some name)) → held scenario ≡ Some bytes → (HasRisen S.folder.faults S.folder.new_faults → ⊥) → (n ≡ 8 → ⊥) → KeepsRecord S answer bytes name)
    by_files None told = tt
    by_files (Some held) told = λ scenario name bytes asked there unrisen other. ended_keeps S held told scenario name bytes asked there unrisen answer (λ (mem : answer ≡ Err ends.Mem). other (is ∙ ap status mem)) ended
