-- What becomes of the file that a run by a clock saves its record in, by how the program ended.
use Rattle.std.proofs.Common.{◌≡◌, ◌⊎◌, ◌≤◌, inl, inr, ℕ, true, List, [], Option, Some, None, Result, Ok, Err, refl, sym, ap, ◌∙◌, subst}
use Rattle.std.specs.Prelude.{IfSome}
use Rattle.mk_outside.specs.Counts.{HasRisen}
use Rattle.mk_outside.specs.Folders.{Files}
use Rattle.mosaikrun_words.specs.declared.request.Request.{Request}
use Rattle.mosaikrun_words.specs.declared.request.Request.TheVariants.{Files as Reads, Paced}
use Rattle.mosaikrun_words.specs.Requests.{IsNumberGiven, IsRequest, is_paced, missing, there}
use Rattle.mk_record.specs.Texts.{record_text}
use Rattle.mk_scenario.specs.declared.parts.Scenario.{Scenario}
use Rattle.mk_scenario.specs.Scenarios.{scenario_of}
use Rattle.mosaikrun_check.specs.Checks.{IsUnread}
use Rattle.mosaikrun_endings.specs.declared.ending.Ending.{Ending}
use Rattle.mosaikrun_endings.specs.declared.ending.Ending.TheVariants as ends
use Rattle.mosaikrun_run.specs.Records.{IsRunFault, IsStepSaid}
use Rattle.mosaikrun_run.proofs.Recording.{nothing_said}
use Rattle.mosaikrun_paced.specs.Outcomes.{IsPacedOutcome}
use Rattle.mosaikrun_paced.specs.Records.{HasPaceRecord, IsLateEnding, EndsOfItselfPaced}
use Rattle.mosaikrun_paced.proofs.Recording.{awake_none, records_there}
use Rattle.mosaikrun_program.specs.Around.{Around}
use Rattle.mosaikrun_program.specs.Commands.{IsAsked, HasBytes, IsUnasked, IsUnreadable}
use Rattle.mosaikrun_program.specs.Pacing.{AsksForPace, HoldsPaceRecord, IsPaceRecordKept, KeepsPaceRecord}
use Rattle.mosaikrun_program.specs.Program.{EndedAs, HasPerformed, status}
use Rattle.mosaikrun_program.specs.Running.{IsDoneOver, IsFolderAfter, IsSaved, RunAnswer}
use Rattle.mosaikrun_program.proofs.Answering.{one_request}
use Rattle.mosaikrun_program.proofs.Playing.{was_paced}
use Rattle.mosaikrun_program.proofs.Recording.{one_scenario}
use Rattle.mk_base.specs.Limits.{most_milliseconds}

-- the pace that words ask for is within its bounds
pub record IsWithinBounds (factor : ℕ) (strict : Option ℕ) : Type 0 where
  pub least : 1 ≤ factor
  pub most : factor ≤ most_milliseconds
  pub allowed : IfSome strict (λ ms. ms ≤ most_milliseconds)

given_most : (text : Option (List ℕ)) (strict : Option ℕ) → IsNumberGiven 0 most_milliseconds text strict → IfSome strict (λ ms. ms ≤ most_milliseconds)
given_most _ _ missing = tt
given_most _ _ (there text n is) = is.high

bounds_of : (words : List (List ℕ)) (R : Request) → IsRequest words R → (scenario : List ℕ) (factor : ℕ) (strict : Option ℕ) (name : Option (List ℕ)) → R ≡ Paced scenario factor strict name → IsWithinBounds factor strict
bounds_of words _ (is_paced s t n u m f spelled number given) scenario factor strict name same =
    let factors : n ≡ factor = cc in
    let stricts : m ≡ strict = cc in
    subst (λ (x : ℕ). IsWithinBounds x strict) factors (subst (λ (x : Option ℕ). IsWithinBounds n x) stricts (record { least = number.low; most = number.high; allowed = given_most u m given }))
bounds_of words R other scenario factor strict name same = cc

pub within_bounds : (words : List (List ℕ)) (scenario : List ℕ) (factor : ℕ) (strict : Option ℕ) (name : Option (List ℕ)) → IsAsked words (Paced scenario factor strict name) → IsWithinBounds factor strict
within_bounds words scenario factor strict name asked = bounds_of words (Paced scenario factor strict name) asked scenario factor strict name refl

-- what words ask for that ask for a run by a clock
pub pace_of_words : (words : List (List ℕ)) (R : Request) → IsAsked words R → (p : AsksForPace words) → R ≡ Paced p.scenario p.factor p.strict p.saved
pace_of_words words R asked p = one_request words R (Paced p.scenario p.factor p.strict p.saved) asked p.asked

module _ (S : Around) (factor : ℕ) (strict : Option ℕ) (bytes name : List ℕ) where
  -- a record that was saved is held
  held_record : (answer : Result (Unit {0}) Ending) (scenario : Scenario) (text : Result (List ℕ) Ending) (kept : Option (List ℕ)) → scenario_of bytes ≡ Ok scenario → HasPaceRecord S.outside factor strict scenario text kept → RunAnswer S.folder S.output (Some name) text kept answer → IsSaved S.folder (Some name) kept → HoldsPaceRecord S answer factor strict bytes name
  held_record answer scenario text kept read has told saved = record {
    scenario = scenario;
    read = read;
    said = text;
    text = record_text has.plan has.journal;
    record_ = record { ranks = has.ranks; runnable = has.runnable; plan = has.plan; journal = has.journal; moments = has.moments; end = has.end; run = has.run; said = has.said; is = refl; again = has.again };
    answered = subst (λ (k : Option (List ℕ)). RunAnswer S.folder S.output (Some name) text k answer) has.is told;
    saved = subst (λ (k : Option (List ℕ)). IsFolderAfter (Some name) k S.folder.files S.folder.files_after) has.is saved;
  }

  -- nothing was done
  untouched : (answer : Result (Unit {0}) Ending) → S.folder.files_after ≡ S.folder.files → S.outside.log ≡ [] → (EndsOfItselfPaced answer → ⊥) → KeepsPaceRecord S answer factor strict bytes name
  untouched answer unsaved quiet not = record {
    either = inl unsaved;
    of_itself = λ of_itself. absurd (not of_itself);
    said = λ scenario read said. absurd (nothing_said S.outside.started scenario S.outside.log quiet said);
    slept = λ slept. absurd (slept (awake_none S.outside.log quiet));
  }

  -- bytes that are no scenario have no fault of a run, and no Step that was too late
  no_scenario : (e : Ending) → IsUnread bytes e → IsRunFault e ⊎ IsLateEnding e → ⊥
  no_scenario e (inl mem) (inl of_itself) = subst IsRunFault mem of_itself
  no_scenario e (inr fault) (inl of_itself) = subst IsRunFault fault.1 of_itself
  no_scenario e (inl mem) (inr late) = let wrong = sym mem ∙ late.is in cc
  no_scenario e (inr fault) (inr late) = let wrong = sym fault.1 ∙ late.is in cc

  -- what came of the bytes, and that the record, where there is one, was saved
  came : (answer : Result (Unit {0}) Ending) (text : Result (List ℕ) Ending) (kept : Option (List ℕ)) → IsPacedOutcome S.outside factor strict true bytes text kept → RunAnswer S.folder S.output (Some name) text kept answer → IsSaved S.folder (Some name) kept → (text ≡ Err ends.Mem → ⊥) → (EndsOfItselfPaced answer → EndsOfItselfPaced text) → KeepsPaceRecord S answer factor strict bytes name
  came answer text kept (inl none) told saved not by_itself = untouched answer (subst (λ (k : Option (List ℕ)). IsFolderAfter (Some name) k S.folder.files S.folder.files_after) none.idle.unrecorded saved) none.idle.quiet
      (λ of_itself. no_scenario none.ending none.cause (subst (λ (t : Result (List ℕ) Ending). EndsOfItselfPaced t) none.is (by_itself of_itself)))
  came answer text kept (inr read) told saved not by_itself =
      let due = records_there.there S.outside factor strict read.scenario text kept read.outcome not in
      record {
        either = elim (records_there.only S.outside factor strict read.scenario text kept read.outcome) [
          | inl none ↦ inl (subst (λ (k : Option (List ℕ)). IsFolderAfter (Some name) k S.folder.files S.folder.files_after) none saved)
          | inr has ↦ inr (held_record answer read.scenario text kept read.read has told saved)
        ];
        of_itself = λ of_itself. held_record answer read.scenario text kept read.read (due (inl (by_itself of_itself))) told saved;
        said = λ scenario is said. held_record answer read.scenario text kept read.read (due (inr (inl (subst (λ (X : Scenario). IsStepSaid S.outside.started X S.outside.log) (one_scenario scenario read.scenario bytes is read.read) said)))) told saved;
        slept = λ slept. held_record answer read.scenario text kept read.read (due (inr (inr slept))) told saved;
      }

  module _ (unrisen : HasRisen S.folder.faults S.folder.new_faults → ⊥) where
    -- what a run's answer says
    answered : (answer : Result (Unit {0}) Ending) (text : Result (List ℕ) Ending) (kept : Option (List ℕ)) → (answer ≡ Err ends.Mem → ⊥) → IsPacedOutcome S.outside factor strict true bytes text kept → RunAnswer S.folder S.output (Some name) text kept answer → KeepsPaceRecord S answer factor strict bytes name
    answered (Ok done) (Ok text) kept not outcome said = came (Ok done) (Ok text) kept outcome said said.1 (λ wrong. cc) (λ of_itself. tt)
    answered (Ok done) (Err why) kept not outcome said = absurd said
    answered (Err e) (Ok text) kept not outcome (inl unsaved) = elim unsaved.1.1 [ inl rose ↦ absurd (unrisen rose) | inr mem ↦ absurd (not (ap (λ (x : Ending). Err x) mem)) ]
    answered (Err e) (Ok text) kept not outcome (inr cut) = came (Err e) (Ok text) kept outcome (inr cut) cut.1 (λ wrong. cc) (λ of_itself. tt)
    answered (Err e) (Err why) kept not outcome said = elim said.1 [
      | inr mem ↦ absurd (not (ap (λ (x : Ending). Err x) mem))
      | inl same ↦ elim said.2 [
        | inl saved ↦ came (Err e) (Err why) kept outcome said saved (λ (wrong : Err why ≡ Err ends.Mem). let short : why ≡ ends.Mem = cc in not (ap (λ (x : Ending). Err x) (same ∙ short))) (λ of_itself. subst (λ (x : Ending). IsRunFault x ⊎ IsLateEnding x) same of_itself)
        | inr unsaved ↦ elim unsaved.1 [ inl rose ↦ absurd (unrisen rose) | inr mem ↦ absurd (not (ap (λ (x : Ending). Err x) mem)) ]
      ]
    ]

module _ (S : Around) (held : Files) (told : S.folder.files ≡ Some held) (scenario : List ℕ) (factor : ℕ) (strict : Option ℕ) (name bytes : List ℕ) (asked : IsAsked S.words (Paced scenario factor strict (Some name))) (there_is : held scenario ≡ Some bytes)
    (unrisen : HasRisen S.folder.faults S.folder.new_faults → ⊥) where
  this_run : (Q : Request) → IsAsked S.words Q → Q ≡ Paced scenario factor strict (Some name)
  this_run Q other = one_request S.words Q (Paced scenario factor strict (Some name)) other asked

  performed : (answer : Result (Unit {0}) Ending) → (answer ≡ Err ends.Mem → ⊥) → HasPerformed S answer → KeepsPaceRecord S answer factor strict bytes name
  performed answer not (inl made) = let wrong = this_run (Reads made.command) made.asked in absurd cc
  performed answer not (inr ran) =
      let w = was_paced S scenario factor strict (Some name) answer (subst (λ (R : Request). IsDoneOver S R answer) (this_run ran.request ran.asked) ran.run) in
      let seen = subst (λ (files : Option Files). HasBytes files scenario w.bytes) told w.held in
      let both : Some w.bytes ≡ Some bytes = sym seen.0 ∙ there_is in
      let these : w.bytes ≡ bytes = cc in
      answered S factor strict bytes name unrisen answer w.text w.kept not (subst (λ (b : List ℕ). IsPacedOutcome S.outside factor strict true b w.text w.kept) these w.outcome) w.ended

  misused_not : (e : Ending) → IsUnasked S.words e → IsRunFault e ⊎ IsLateEnding e → ⊥
  misused_not e (inl mem) (inl of_itself) = subst IsRunFault mem of_itself
  misused_not e (inr usage) (inl of_itself) = subst IsRunFault usage.0 of_itself
  misused_not e (inl mem) (inr late) = let wrong = sym mem ∙ late.is in cc
  misused_not e (inr usage) (inr late) = let wrong = sym usage.0 ∙ late.is in cc

  unread_not : (files : Option Files) (other : List ℕ) (risen : Type 0) (e : Ending) → IsUnreadable files other risen e → IsRunFault e ⊎ IsLateEnding e → ⊥
  unread_not files other risen e (inl mem) (inl of_itself) = subst IsRunFault mem of_itself
  unread_not files other risen e (inr (inl failed)) (inl of_itself) = subst IsRunFault failed.0 of_itself
  unread_not files other risen e (inr (inr (inl missing_))) (inl of_itself) = subst IsRunFault missing_.0 of_itself
  unread_not files other risen e (inr (inr (inr long))) (inl of_itself) = subst IsRunFault long.1 of_itself
  unread_not files other risen e (inl mem) (inr late) = let wrong = sym mem ∙ late.is in cc
  unread_not files other risen e (inr (inl failed)) (inr late) = let wrong = sym failed.0 ∙ late.is in cc
  unread_not files other risen e (inr (inr (inl missing_))) (inr late) = let wrong = sym missing_.0 ∙ late.is in cc
  unread_not files other risen e (inr (inr (inr long))) (inr late) = let wrong = sym long.1 ∙ late.is in cc

  ended_keeps : (answer : Result (Unit {0}) Ending) → (answer ≡ Err ends.Mem → ⊥) → EndedAs S answer → KeepsPaceRecord S answer factor strict bytes name
  ended_keeps (Ok done) not done_so = performed (Ok done) not done_so
  ended_keeps (Err e) not (inl misused) = untouched S factor strict bytes name (Err e) misused.untouched.unsaved misused.untouched.log (misused_not e misused.cause)
  ended_keeps (Err e) not (inr (inl unread)) = untouched S factor strict bytes name (Err e) unread.untouched.unsaved unread.untouched.log (unread_not _ _ _ e unread.stuck.cause)
  ended_keeps (Err e) not (inr (inr done_so)) = performed (Err e) not done_so

pub pace_record_kept : (S : Around) (answer : Result (Unit {0}) Ending) (n : ℕ) → n ≡ status answer → EndedAs S answer → IsPaceRecordKept S answer n
pace_record_kept S answer n is ended = by_files S.folder.files refl
  where
    by_files : (files : Option Files) → S.folder.files ≡ files
        → IfSome files (λ held. (scenario : List ℕ) (factor : ℕ) (strict : Option ℕ) (name bytes : List ℕ) → IsAsked S.words (Paced scenario factor strict (Some name)) → held scenario ≡ Some bytes → (HasRisen S.folder.faults S.folder.new_faults → ⊥) → (n ≡ 8 → ⊥) → KeepsPaceRecord S answer factor strict bytes name)
    by_files None told = tt
    by_files (Some held) told = λ scenario factor strict name bytes asked there_is unrisen other. ended_keeps S held told scenario factor strict name bytes asked there_is unrisen answer (λ (mem : answer ≡ Err ends.Mem). other (is ∙ ap status mem)) ended
