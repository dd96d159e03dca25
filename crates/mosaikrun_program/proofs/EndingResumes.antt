-- A run that goes on, and in which nothing goes wrong, comes to its end, and one whose scenario or
-- record is refused has the status 3.
use Rattle.std.proofs.Common.{◌≡◌, ℕ, ◌≤◌, ◌⊎◌, inl, inr, refl, sym, ap, ◌∙◌, subst, List, [], ◌∷◌, length, map, Option, None, Some, Result, Ok, Err}
use Rattle.std.specs.Prelude.{IfSome, is_some}
use Rattle.mk_base.proofs.Lists.{some_same}
use Rattle.mk_outside.specs.Counts.{HasRisen}
use Rattle.mk_outside.specs.Folders.{Files, file_limit}
use Rattle.mk_plan.specs.declared.Plan.{Plan}
use Rattle.mk_plan.specs.declared.Entry.{Entry}
use Rattle.mk_plan.specs.Journals as journals
use Rattle.mk_scenario.specs.declared.parts.Scenario.{Scenario}
use Rattle.mk_record_mend.specs.Mended.{mended}
use Rattle.mosaikrun_run.specs.Outcomes.{attempt_in, exchange_in}
use Rattle.mk_local.specs.Kinds.{name_of}
use Rattle.mk_record.specs.Reading.{Reading, reading, Said, Faulty}
use Rattle.mk_record.specs.Seen.{came}
use Rattle.mk_record_read.specs.declared.saved.Arrival.{Arrival}
use Rattle.mk_record_read.specs.declared.saved.Asked.{Asked}
use Rattle.mk_record_read.specs.declared.saved.Saved.{Saved}
use Rattle.mk_run_crew.specs.Completing.{HandshakesComplete, IsFaultlessHandshake}
use Rattle.mk_run.specs.declared.outcome.Outcome.TheVariants as outcome
use Rattle.mk_resume_loop.specs.declared.ending.ResumeEnd.{ResumeEnd}
use Rattle.mk_resume_loop.specs.declared.ending.ResumeEnd.TheVariants.{Outcome, OtherPlan, OtherEntry, Differs}
use Rattle.mk_resume.specs.Laws.{IsFaultless}
use Rattle.mk_resume.specs.Resumed.{HasFaultySaved, HasRefused, HasResumed, IsRefusedBy}
use Rattle.mosaikrun_words.specs.declared.request.Request.{Request}
use Rattle.mk_resume.proofs.Completing.{completes as resume_completes}
use Rattle.mosaikrun_words.specs.declared.request.Request.TheVariants.{Files as Reads, Resume}
use Rattle.mosaikrun_endings.specs.declared.ending.Ending.{Ending}
use Rattle.mosaikrun_endings.specs.declared.ending.Ending.TheVariants.{Mem}
use Rattle.mosaikrun_endings.specs.Endings.{status_of}
use Rattle.mosaikrun_check.specs.Checks.{IsUnchecked}
use Rattle.mosaikrun_check.specs.Runnable.{AreRanks}
use Rattle.mosaikrun_check.proofs.OneRanking.{fault_status}
use Rattle.mosaikrun_records.specs.Saved.{IsUnread}
use Rattle.mosaikrun_run.specs.declared.sayings.Form.TheVariants.{Report}
use Rattle.mosaikrun_run.specs.Sayings.{halt_ending, text_of}
use Rattle.mosaikrun_run.proofs.Telling.{one_scenario}
use Rattle.mosaikrun_sayings.specs.Sayings.{ids_of}
use Rattle.mosaikrun_resume.specs.Outcomes.{IsResumeOutcome, IsSavedOutcome, IsStudy}
use Rattle.mosaikrun_resume.specs.Sayings.{resume_saying}
use Rattle.mosaikrun_program.specs.Around.{Around}
use Rattle.mosaikrun_program.specs.Commands.{AreHeld, IsAccepted, IsAsked, HasBytes, IsNext, IsReadOn, IsStuckBy, IsUnreadable, OfTwoBy, files_of}
use Rattle.mosaikrun_program.specs.Complete.{IsFaultlessResume, IsRightRecord}
use Rattle.mosaikrun_program.specs.Program.{EndedAs, HasPerformed, IsStatusOr, status}
use Rattle.mosaikrun_program.specs.Running.{IsDoneOver, RunAnswer}
use Rattle.mosaikrun_program.proofs.Answering.{one_request, unasked_not}
use Rattle.mosaikrun_program.proofs.Deciding.{readable_status, unread_status}
use Rattle.mosaikrun_program.proofs.EndingRuns.{runnable_not, status_of_none, status_of_text}
use Rattle.mosaikrun_program.proofs.Resuming.{no_record, refused_not}
use Rattle.mosaikrun_program.proofs.Rows.{IsThere}
use Rattle.mk_resume.proofs.OneOther.{none_other}
use Rattle.mk_record_read.proofs.Known.{kept_as}

-- ---- what a record says is one thing

abbrev arrivals_said : Reading → List journals.Arrival
arrivals_said (Said P A asks) = A
arrivals_said (Faulty line fault) = []

abbrev plan_said : Plan → Reading → Plan
plan_said Q (Said P A asks) = P
plan_said Q (Faulty line fault) = Q

abbrev asks_said : Reading → Option (List Asked)
asks_said (Said P A asks) = asks
asks_said (Faulty line fault) = None

kept_again : (kept : List Arrival) → map kept_as (map came kept) ≡ kept
kept_again [] = refl
kept_again (a ∷ more) = ap (λ (l : List Arrival). a ∷ l) (kept_again more)

one_kept : (a b : List Arrival) → map came a ≡ map came b → a ≡ b
one_kept a b same = sym (kept_again a) ∙ ap (map kept_as) same ∙ kept_again b

one_saved : (bytes : List ℕ) (a b : Saved) → reading bytes ≡ Said a.plan (map came a.arrivals) a.asks → reading bytes ≡ Said b.plan (map came b.arrivals) b.asks → a ≡ b
one_saved bytes a b one other =
    let both : Said a.plan (map came a.arrivals) a.asks ≡ Said b.plan (map came b.arrivals) b.asks = sym one ∙ other in
    let plans : a.plan ≡ b.plan = ap (plan_said a.plan) both in
    let arrivals : a.arrivals ≡ b.arrivals = one_kept a.arrivals b.arrivals (ap arrivals_said both) in
    let asks : a.asks ≡ b.asks = ap asks_said both in
    ap (λ (P : Plan). record { plan = P; arrivals = a.arrivals; asks = a.asks }) plans
    ∙ ap (λ (A : List Arrival). record { plan = b.plan; arrivals = A; asks = a.asks }) arrivals
    ∙ ap (λ (o : Option (List Asked)). record { plan = b.plan; arrivals = b.arrivals; asks = o }) asks

-- what a record says isn't refused
read_not : (bytes : List ℕ) (old : Saved) → reading bytes ≡ Said old.plan (map came old.arrivals) old.asks → (e : Ending) → IsUnread bytes e → e ≡ Mem
read_not bytes old read e (inl mem) = mem
read_not bytes old read e (inr fault) =
    let is = fault.3 in
    let both : Said old.plan (map came old.arrivals) old.asks ≡ Faulty fault.0 fault.1 = sym read ∙ is in
    absurd cc

-- ---- where a right record isn't taken, memory was wanting

refused_for_memory : (P : Plan) (old : Saved) (end : ResumeEnd) → IsRightRecord P old → IsRefusedBy P old end → end ≡ Outcome outcome.Mem
refused_for_memory P old (OtherPlan n) right other = absurd (none_other P old.plan other.0 right.same_plan other.2)
refused_for_memory P old (OtherEntry n) right other = absurd (right.same_entries n other.1)
refused_for_memory P old (Outcome o) right mem = ap Outcome mem.1
refused_for_memory P old (Differs sim place kept heard) right none = absurd none

untaken_for_memory : (P : Plan) (old : Saved) (J : List Entry) (end : ResumeEnd) → IsRightRecord P old → IsRefusedBy P old end ⊎ HasFaultySaved P old J end → end ≡ Outcome outcome.Mem
untaken_for_memory P old J end right (inl refused) = refused_for_memory P old end right refused
untaken_for_memory P old J end right (inr faulty) = absurd (right.no_fault J faulty.fault faulty.faulted)

-- ---- the status by what came of the files' bytes

module _ (C : Around) (name : Option (List ℕ)) (bytes recorded : List ℕ) (text : Result (List ℕ) Ending) (kept : Option (List ℕ)) (r : Result (Unit {0}) Ending) (said : RunAnswer C.folder C.output name text kept r) where
  abbrev kinds : List (List ℕ)
  kinds = map name_of C.outside.kinds

  -- where the scenario is refused
  refused : IsResumeOutcome C.outside (is_some name) bytes (mended recorded) text kept → (e : Ending) → IsUnchecked kinds bytes e → (e ≡ Mem → ⊥) → IsStatusOr 3 (status r)
  refused (inl none) e un not = status_of_none C name text kept r said none.ending none.is 3 (fault_status kinds bytes none.ending none.cause)
  refused (inr has) e un not = absurd (refused_not kinds bytes e un not has.study)

  -- where the record is
  unread : IsResumeOutcome C.outside (is_some name) bytes (mended recorded) text kept → (e : Ending) → IsUnread (mended recorded) e → (e ≡ Mem → ⊥) → IsStatusOr 3 (status r)
  unread (inl none) e un not = status_of_none C name text kept r said none.ending none.is 3 (fault_status kinds bytes none.ending none.cause)
  unread (inr has) e un not = elim has.outcome [
    | inl none ↦ status_of_none C name text kept r said none.ending none.is 3 (unread_status (mended recorded) none.ending none.cause)
    | inr rec ↦ absurd (no_record (mended recorded) e un not (record { plan = rec.saved.plan; arrivals = map came rec.saved.arrivals; steps = rec.saved.asks; read = rec.read }))
  ]

  -- no fault is shown by what follows on this scenario and this record
  abbrev ShowsRight : Scenario → Saved → Type 0
  ShowsRight S old = (any : List ℕ) (P : Plan) → AreRanks S any → HasRefused (attempt_in C.outside S any) P (HasRisen C.outside.faults C.outside.new_faults) → IsRightRecord P old

  abbrev ShowsFaultless : Scenario → Saved → Type 0
  ShowsFaultless S old = (any : List ℕ) (P : Plan) (J : List Entry) (end : ResumeEnd) → AreRanks S any → (h : HasResumed (attempt_in C.outside S any) old P J C.outside.faults C.outside.new_faults end)
      → IsFaultless (exchange_in C.outside S) P h.run.first J h.run.heard C.outside.faults C.outside.new_faults

  abbrev ShowsHandshake : Scenario → Type 0
  ShowsHandshake S = (any : List ℕ) → AreRanks S any → IsFaultlessHandshake (attempt_in C.outside S any) (HasRisen C.outside.faults C.outside.new_faults)

  went : HandshakesComplete → (S : Scenario) (ranks : List ℕ) → AreRanks S ranks → (old : Saved) → ShowsHandshake S → ShowsRight S old → ShowsFaultless S old → IsSavedOutcome C.outside (is_some name) S ranks old text kept → IsStatusOr 0 (status r)
  went law S ranks ranked old handshake right fine (inl u) =
      let mem = law (attempt_in C.outside S u.ranks) C.outside.faults C.outside.new_faults u.halt u.halted (handshake u.ranks u.runnable.ranked) in
      status_of_none C name text kept r said Mem (elim u.said [ inl is ↦ is ∙ ap (λ h. Err (halt_ending (ids_of S) h)) mem | inr is ↦ is ]) 0 (inl refl)
  went law S ranks ranked old handshake right fine (inr (inl n)) =
      let mem = untaken_for_memory n.plan old n.journal n.end (right ranks n.plan ranked n.refused) n.cause in
      status_of_none C name text kept r said Mem (elim n.said [ inl is ↦ is ∙ ap (resume_saying (ids_of S) n.plan n.journal) mem | inr is ↦ is ]) 0 (inl refl)
  went law S ranks ranked old handshake right fine (inr (inr g)) =
      elim (resume_completes (exchange_in C.outside S) g.plan old g.journal C.outside.faults C.outside.new_faults g.end g.run.run (fine ranks g.plan g.journal g.end ranked g.run)) [
        | inl done ↦ elim g.said [
          | inl is ↦ status_of_text C name text kept r said (text_of Report g.plan (journals.sent g.journal)) (is ∙ ap (resume_saying (ids_of S) g.plan g.journal) done)
          | inr is ↦ status_of_none C name text kept r said Mem is 0 (inl refl)
        ]
        | inr mem ↦ elim g.said [
          | inl is ↦ status_of_none C name text kept r said Mem (is ∙ ap (resume_saying (ids_of S) g.plan g.journal) mem) 0 (inl refl)
          | inr is ↦ status_of_none C name text kept r said Mem is 0 (inl refl)
        ]
      ]

  -- where nothing goes wrong
  faultless : HandshakesComplete → IsFaultlessResume C.outside bytes recorded → IsResumeOutcome C.outside (is_some name) bytes (mended recorded) text kept → IsStatusOr 0 (status r)
  faultless law f (inl none) = status_of_none C name text kept r said none.ending none.is 0 (inl (runnable_not kinds bytes f.scenario f.ranks f.read f.ranked f.prepared none.ending none.cause))
  faultless law f (inr has) = elim has.outcome [
    | inl none ↦ status_of_none C name text kept r said none.ending none.is 0 (inl (read_not (mended recorded) f.old f.old_read none.ending none.cause))
    | inr rec ↦
        let same : f.scenario ≡ has.study.scenario = one_scenario bytes f.scenario has.study.scenario f.read has.study.read in
        let one : f.old ≡ rec.saved = one_saved (mended recorded) f.old rec.saved f.old_read rec.read in
        went law has.study.scenario has.study.ranks has.study.runnable.ranked rec.saved
        (subst ShowsHandshake same f.handshake)
        (subst (ShowsRight has.study.scenario) one (subst (λ (X : Scenario). ShowsRight X f.old) same f.right))
        (subst (ShowsFaultless has.study.scenario) one (subst (λ (X : Scenario). ShowsFaultless X f.old) same f.run))
        rec.outcome
  ]

-- ---- the run that is asked for, where the folder tells

module _ (C : Around) (held : Files) (told : C.folder.files ≡ Some held) (scenario record_ : List ℕ) (saved : Option (List ℕ)) (asked : IsAsked C.words (Resume scenario record_ saved)) (bytes : List ℕ) (there : held scenario ≡ Some bytes) where
  -- what came of the bytes of the scenario's file, and of those of the record's, where it is there
  record WasResumed (r : Result (Unit {0}) Ending) : Type 0 where
    text : Result (List ℕ) Ending
    kept : Option (List ℕ)
    some : List ℕ
    came_so : IsResumeOutcome C.outside (is_some saved) bytes (mended some) text kept
    came_of : (old : List ℕ) → held record_ ≡ Some old → IsResumeOutcome C.outside (is_some saved) bytes (mended old) text kept
    answered : RunAnswer C.folder C.output saved text kept r

  -- nothing else is asked for
  this_one : (Q : Request) → IsAsked C.words Q → Q ≡ Resume scenario record_ saved
  this_one Q other = one_request C.words Q (Resume scenario record_ saved) other asked

  -- the bytes that were read are these
  these : (file b c : List ℕ) → held file ≡ Some c → HasBytes C.folder.files file b → b ≡ c
  these file b c is h = let seen = subst (λ (files : Option Files). HasBytes files file b) told h in some_same (sym seen.0 ∙ is)

  was_resumed : (r : Result (Unit {0}) Ending) → IsDoneOver C (Resume scenario record_ saved) r → WasResumed r
  was_resumed r d = by d.read d.held d.outcome
    where
      of_bytes : (b old : List ℕ) → b ≡ bytes → IsResumeOutcome C.outside (is_some saved) b (mended old) d.text d.kept → IsResumeOutcome C.outside (is_some saved) bytes (mended old) d.text d.kept
      of_bytes b old same outcome = subst (λ (x : List ℕ). IsResumeOutcome C.outside (is_some saved) x (mended old) d.text d.kept) same outcome

      by : (read : List (List ℕ)) → AreHeld C.folder.files (scenario ∷ record_ ∷ []) read → OfTwoBy (IsStudy (map name_of C.outside.kinds)) (λ b old o. IsResumeOutcome C.outside (is_some saved) b (mended old) o d.kept) read d.text → WasResumed r
      by [] h outcome = absurd outcome
      by (b ∷ []) h outcome =
          let same = these scenario b bytes there h.0 in
          record { text = d.text; kept = d.kept; some = []; came_so = of_bytes b [] same (outcome.1 []); came_of = λ old is. of_bytes b old same (outcome.1 old); answered = d.ended }
      by (b ∷ second ∷ []) h outcome =
          let same = these scenario b bytes there h.0 in
          let so = of_bytes b second same outcome in
          record { text = d.text; kept = d.kept; some = second; came_so = so; came_of = λ old is. subst (λ (x : List ℕ). IsResumeOutcome C.outside (is_some saved) bytes (mended x) d.text d.kept) (these record_ second old is h.1.0) so; answered = d.ended }
      by (b ∷ second ∷ other ∷ more) h outcome = absurd outcome

  -- what the status of the run is, and the words ask for nothing else
  by_performed : (wanted : ℕ) → ((r : Result (Unit {0}) Ending) → WasResumed r → IsStatusOr wanted (status r)) → (r : Result (Unit {0}) Ending) → HasPerformed C r → IsStatusOr wanted (status r)
  by_performed wanted of_run r (inl made) = let wrong = this_one (Reads made.command) made.asked in absurd cc
  by_performed wanted of_run r (inr ran) = of_run r (was_resumed r (subst (λ (Q : Request). IsDoneOver C Q r) (this_one ran.request ran.asked) ran.run))

  -- each file that is to be read is there, the second one where the scenario can be run
  stuck_status : length bytes ≤ file_limit → (IsStudy (map name_of C.outside.kinds) bytes → ⊥) ⊎ IsThere held record_ → (Q : Request) (e : Ending) (wanted : ℕ) → Q ≡ Resume scenario record_ saved
      → IsStuckBy (IsAccepted (map name_of C.outside.kinds) Q) C.folder.files (files_of Q) (HasRisen C.folder.faults C.folder.new_faults) e → IsStatusOr wanted (status_of e)
  stuck_status short second Q e wanted same stuck =
      let here = subst (λ (X : Request). IsStuckBy (IsAccepted (map name_of C.outside.kinds) X) C.folder.files (files_of X) (HasRisen C.folder.faults C.folder.new_faults) e) same stuck in
      by here.read here.name here.next here.held here.on here.cause
    where
      readable : (file : List ℕ) → IsThere held file → IsUnreadable C.folder.files file (HasRisen C.folder.faults C.folder.new_faults) e → IsStatusOr wanted (status_of e)
      readable file is cause = readable_status held C.folder.files file (HasRisen C.folder.faults C.folder.new_faults) e wanted told is cause

      by : (read : List (List ℕ)) (file : List ℕ) → IsNext (scenario ∷ record_ ∷ []) read file → AreHeld C.folder.files (scenario ∷ record_ ∷ []) read → IsReadOn (IsStudy (map name_of C.outside.kinds)) read
          → IsUnreadable C.folder.files file (HasRisen C.folder.faults C.folder.new_faults) e → IsStatusOr wanted (status_of e)
      by [] file next h on cause = readable file (subst (IsThere held) next (record { bytes = bytes; is = there; short = short })) cause
      by (b ∷ []) file next h on cause = elim second [
        | inl not ↦ absurd (not (subst (IsStudy (map name_of C.outside.kinds)) (these scenario b bytes there h.0) on))
        | inr is ↦ readable file (subst (IsThere held) next is) cause
      ]
      by (b ∷ r ∷ more) file next h on cause = absurd next

  by_run : length bytes ≤ file_limit → (IsStudy (map name_of C.outside.kinds) bytes → ⊥) ⊎ IsThere held record_ → (wanted : ℕ) → ((r : Result (Unit {0}) Ending) → WasResumed r → IsStatusOr wanted (status r)) → (r : Result (Unit {0}) Ending) → EndedAs C r → IsStatusOr wanted (status r)
  by_run short second wanted of_run (Ok done) performed = by_performed wanted of_run (Ok done) performed
  by_run short second wanted of_run (Err e) (inl misused) = unasked_not C.words e misused.cause wanted (Resume scenario record_ saved) asked
  by_run short second wanted of_run (Err e) (inr (inl stuck)) = stuck_status short second stuck.request e wanted (this_one stuck.request stuck.asked) stuck.stuck
  by_run short second wanted of_run (Err e) (inr (inr performed)) = by_performed wanted of_run (Err e) performed

  module _ (short : length bytes ≤ file_limit) (r : Result (Unit {0}) Ending) (done : EndedAs C r) where
    of_scenario : (e : Ending) → IsUnchecked (map name_of C.outside.kinds) bytes e → (e ≡ Mem → ⊥) → IsStatusOr 3 (status r)
    of_scenario e un not = by_run short (inl (refused_not (map name_of C.outside.kinds) bytes e un not)) 3 (λ s w. refused C saved bytes w.some w.text w.kept s w.answered w.came_so e un not) r done

    module _ (old : List ℕ) (is : held record_ ≡ Some old) (fits : length old ≤ file_limit) where
      second : (IsStudy (map name_of C.outside.kinds) bytes → ⊥) ⊎ IsThere held record_
      second = inr (record { bytes = old; is = is; short = fits })

      of_record : (e : Ending) → IsUnread (mended old) e → (e ≡ Mem → ⊥) → IsStatusOr 3 (status r)
      of_record e un not = by_run short second 3 (λ s w. unread C saved bytes old w.text w.kept s w.answered (w.came_of old is) e un not) r done

      of_faultless : HandshakesComplete → IsFaultlessResume C.outside bytes old → IsStatusOr 0 (status r)
      of_faultless law fine = by_run short second 0 (λ s w. faultless C saved bytes old w.text w.kept s w.answered law fine (w.came_of old is)) r done

-- so it is of a status that is the answer's
abbrev EndsAt : Around → Files → ℕ → Type 0
EndsAt C held n = (scenario recorded : List ℕ) (saved : Option (List ℕ)) (bytes : List ℕ) → IsAsked C.words (Resume scenario recorded saved) → held scenario ≡ Some bytes → length bytes ≤ file_limit
    → ((e : Ending) → IsUnchecked (map name_of C.outside.kinds) bytes e → (e ≡ Mem → ⊥) → IsStatusOr 3 n)
    × ((old : List ℕ) → held recorded ≡ Some old → length old ≤ file_limit → (IsFaultlessResume C.outside bytes old → IsStatusOr 0 n) × ((e : Ending) → IsUnread (mended old) e → (e ≡ Mem → ⊥) → IsStatusOr 3 n))

-- where the folder tells, and where it doesn't
pub ends_resume : HandshakesComplete → (C : Around) (files : Option Files) (r : Result (Unit {0}) Ending) (n : ℕ) → C.folder.files ≡ files → n ≡ status r → EndedAs C r → IfSome files (λ held. EndsAt C held n)
ends_resume law C None r n told is done = tt
ends_resume law C (Some held) r n told is done = subst (EndsAt C held) (sym is) (λ scenario recorded saved bytes asked there short. (
  of_scenario C held told scenario recorded saved asked bytes there short r done,
  λ old second fits. (of_faultless C held told scenario recorded saved asked bytes there short r done old second fits law, of_record C held told scenario recorded saved asked bytes there short r done old second fits),
))
