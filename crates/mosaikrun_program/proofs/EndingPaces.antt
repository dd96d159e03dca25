-- A run by a clock in which nothing goes wrong comes to its end, or, where a bound was given, to a
-- Step that is too late; and one of a scenario that is refused has the status 3.
use Rattle.std.proofs.Common.{◌≡◌, ℕ, ◌≤◌, ◌⊎◌, inl, inr, refl, sym, ap, ◌∙◌, subst, List, [], ◌∷◌, length, map, Option, None, Some, Result, Ok, Err}
use Rattle.std.specs.Prelude.{IfSome, is_some}
use Rattle.mk_outside.specs.Counts.{HasRisen}
use Rattle.mk_outside.specs.Folders.{Files, file_limit}
use Rattle.mk_scenario.specs.declared.parts.Scenario.{Scenario}
use Rattle.mk_scenario.specs.Scenarios.{scenario_of}
use Rattle.mk_launch.specs.Ready.{IsPrepared}
use Rattle.mosaikrun_run.specs.Outcomes.{attempt_in, exchange_in}
use Rattle.mk_local.specs.Kinds.{name_of}
use Rattle.mk_run_crew.specs.Completing.{HandshakesComplete, IsFaultlessHandshake}
use Rattle.mk_plan.specs.declared.Plan.{Plan}
use Rattle.mk_plan.specs.declared.Entry.{Entry}
use Rattle.mk_plan.specs.Journals.{sent}
use Rattle.mk_plan.specs.Report.{report}
use Rattle.mk_run.specs.declared.outcome.Outcome.TheVariants as outcome
use Rattle.mk_pace_laws.specs.declared.end.Moment.{Moment}
use Rattle.mk_pace_laws.specs.declared.end.PaceEnd.{PaceEnd}
use Rattle.mk_pace_laws.specs.declared.end.PaceEnd.TheVariants as pace
use Rattle.mk_pace_laws.specs.Laws.{EndsLate, IsFaultlessPace}
use Rattle.mk_pace_laws.specs.Paced.{HasPaced}
use Rattle.mosaikrun_sayings.specs.Sayings.{id_in, ids_of}
use Rattle.mosaikrun_words.specs.declared.request.Request.{Request}
use Rattle.mk_pace_laws.proofs.Completing.{completes as pace_completes}
use Rattle.mosaikrun_words.specs.declared.request.Request.TheVariants.{Files as Reads, Paced}
use Rattle.mosaikrun_endings.specs.declared.ending.Ending.{Ending}
use Rattle.mosaikrun_endings.specs.declared.ending.Ending.TheVariants.{Late, Mem}
use Rattle.mosaikrun_endings.specs.Endings.{status_of}
use Rattle.mosaikrun_check.specs.Checks.{IsUnchecked}
use Rattle.mosaikrun_check.specs.Runnable.{AreRanks}
use Rattle.mosaikrun_check.proofs.OneRanking.{fault_status, runnable_or_not}
use Rattle.mosaikrun_run.specs.Sayings.{halt_ending}
use Rattle.mosaikrun_run.proofs.Telling.{one_scenario}
use Rattle.mosaikrun_paced.specs.Outcomes.{IsPacedOutcome, IsPacedScenario}
use Rattle.mosaikrun_paced.specs.Sayings.{pace_saying}
use Rattle.mosaikrun_program.specs.Around.{Around}
use Rattle.mosaikrun_program.specs.Commands.{IsAccepted, IsAsked, HasBytes, IsNext, IsStuckBy, files_of}
use Rattle.mosaikrun_program.specs.Complete.{IsFaultlessPacedStudy, IsPacedStatus}
use Rattle.mosaikrun_program.specs.Program.{EndedAs, HasPerformed, IsStatusOr, status}
use Rattle.mosaikrun_program.specs.Running.{IsDoneOver, RunAnswer}
use Rattle.mosaikrun_program.proofs.Answering.{one_request, unasked_not}
use Rattle.mosaikrun_program.proofs.Deciding.{readable_status}
use Rattle.mosaikrun_program.proofs.EndingRuns.{not_both, runnable_not, status_of_none, status_of_text}
use Rattle.mosaikrun_program.proofs.Rows.{IsThere}
use Rattle.mosaikrun_program.proofs.Playing.{WasPaced, was_paced}
use Rattle.mk_pace_laws.specs.Moments.{timing}

-- the status of a Step that was too late, by the bound that was given
too_late : (strict : Option ℕ) (allowed n : ℕ) → strict ≡ Some allowed → IsStatusOr 5 n → IsPacedStatus strict n
too_late strict allowed n bound (inl late) = inr (ap (λ (o : Option ℕ). is_some o) bound, late)
too_late strict allowed n bound (inr other) = inl (inr other)

module _ (C : Around) (factor : ℕ) (strict : Option ℕ) (name : Option (List ℕ)) (bytes : List ℕ) (text : Result (List ℕ) Ending) (kept : Option (List ℕ)) (r : Result (Unit {0}) Ending) (said : RunAnswer C.folder C.output name text kept r) where
  -- what a faultless study says of each paced run of this scenario
  abbrev ShowsFaultless : Scenario → Type 0
  ShowsFaultless S = (any : List ℕ) (P : Plan) (J : List Entry) (moments : List Moment) (end : PaceEnd) → AreRanks S any → HasPaced (attempt_in C.outside S any) factor strict P J moments C.outside.faults C.outside.new_faults end
      → IsFaultlessPace (exchange_in C.outside S) P J C.outside.faults C.outside.new_faults

  -- where nothing goes wrong, but that a Step may be too late
  ended : HandshakesComplete → IsPacedOutcome C.outside factor strict (is_some name) bytes text kept → IsFaultlessPacedStudy C.outside factor strict bytes → IsPacedStatus strict (status r)
  ended law (inl none) f = elim none.cause [
    | inl mem ↦ inl (status_of_none C name text kept r said none.ending none.is 0 (inl mem))
    | inr fault ↦ absurd (not_both f.scenario fault.0 (scenario_of bytes) f.read fault.2)
  ]
  ended law (inr has) f = go has.outcome
    where
      same : f.scenario ≡ has.scenario
      same = one_scenario bytes f.scenario has.scenario f.read has.read

      go : IsPacedScenario C.outside factor strict (is_some name) has.scenario text kept → IsPacedStatus strict (status r)
      go (inl unready) = inl (status_of_none C name text kept r said unready.ending unready.is 0
          (inl (runnable_or_not (map name_of C.outside.kinds) has.scenario f.ranks unready.ending (subst (λ (X : Scenario). AreRanks X f.ranks) same f.ranked) (subst (λ (X : Scenario). IsPrepared X (map name_of C.outside.kinds)) same f.prepared) unready.cause)))
      go (inr (inl unpaced)) =
          let u = unpaced.unrun in
          let fine = subst (λ (X : Scenario). (any : List ℕ) → AreRanks X any → IsFaultlessHandshake (attempt_in C.outside X any) (HasRisen C.outside.faults C.outside.new_faults)) same f.handshake u.ranks u.runnable.ranked in
          let mem = law (attempt_in C.outside has.scenario u.ranks) C.outside.faults C.outside.new_faults u.halt u.halted fine in
          inl (status_of_none C name text kept r said Mem (elim u.said [ inl is ↦ is ∙ ap (λ h. Err (halt_ending (ids_of has.scenario) h)) mem | inr is ↦ is ]) 0 (inl refl))
      go (inr (inr p)) =
          let fine = subst ShowsFaultless same f.run p.ranks p.plan p.journal p.moments p.end p.runnable.ranked p.run in
          by_end (pace_completes (exchange_in C.outside has.scenario) p.plan p.journal (timing (record { origin = p.run.origin; factor = factor }) strict p.moments) C.outside.faults C.outside.new_faults p.end p.run.run fine)
        where
          by_end : (p.end ≡ pace.Outcome outcome.Done) ⊎ ((p.end ≡ pace.Outcome outcome.Mem) ⊎ EndsLate (timing (record { origin = p.run.origin; factor = factor }) strict p.moments) p.end) → IsPacedStatus strict (status r)
          by_end (inl done) = inl (elim p.said [
            | inl is ↦ status_of_text C name text kept r said (report p.plan (sent p.journal)) (is ∙ ap (pace_saying (ids_of has.scenario) p.plan p.journal) done)
            | inr is ↦ status_of_none C name text kept r said Mem is 0 (inl refl)
          ])
          by_end (inr (inl mem)) = inl (elim p.said [
            | inl is ↦ status_of_none C name text kept r said Mem (is ∙ ap (pace_saying (ids_of has.scenario) p.plan p.journal) mem) 0 (inl refl)
            | inr is ↦ status_of_none C name text kept r said Mem is 0 (inl refl)
          ])
          by_end (inr (inr late)) = too_late strict late.allowed (status r) late.bound (elim p.said [
            | inl is ↦ status_of_none C name text kept r said (Late (id_in (ids_of has.scenario) late.sim) late.time late.late late.allowed) (is ∙ ap (pace_saying (ids_of has.scenario) p.plan p.journal) late.is) 5 (inr refl)
            | inr is ↦ status_of_none C name text kept r said Mem is 5 (inl refl)
          ])

  -- where the scenario is refused
  refused : IsPacedOutcome C.outside factor strict (is_some name) bytes text kept → (e : Ending) → IsUnchecked (map name_of C.outside.kinds) bytes e → (e ≡ Mem → ⊥) → IsStatusOr 3 (status r)
  refused (inl none) e un not = status_of_none C name text kept r said none.ending none.is 3 (fault_status (map name_of C.outside.kinds) bytes none.ending (inl none.cause))
  refused (inr has) e un not = go has.outcome
    where
      go : IsPacedScenario C.outside factor strict (is_some name) has.scenario text kept → IsStatusOr 3 (status r)
      go (inl unready) = status_of_none C name text kept r said unready.ending unready.is 3
          (fault_status (map name_of C.outside.kinds) bytes unready.ending (inr (record { scenario = has.scenario; read = has.read; cause = unready.cause })))
      go (inr (inl u)) = absurd (not (runnable_not (map name_of C.outside.kinds) bytes has.scenario u.unrun.ranks has.read u.unrun.runnable.ranked u.unrun.runnable.prepared e un))
      go (inr (inr p)) = absurd (not (runnable_not (map name_of C.outside.kinds) bytes has.scenario p.ranks has.read p.runnable.ranked p.runnable.prepared e un))

-- the run that is asked for, where the folder tells
module _ (C : Around) (held : Files) (told : C.folder.files ≡ Some held) (scenario : List ℕ) (factor : ℕ) (strict : Option ℕ) (saved : Option (List ℕ)) (asked : IsAsked C.words (Paced scenario factor strict saved)) (bytes : List ℕ) (there : held scenario ≡ Some bytes) (short : length bytes ≤ file_limit) where
  -- nothing else is asked for
  this_run : (Q : Request) → IsAsked C.words Q → Q ≡ Paced scenario factor strict saved
  this_run Q other = one_request C.words Q (Paced scenario factor strict saved) other asked

  -- the run is of these bytes
  these : (r : Result (Unit {0}) Ending) → (ran : WasPaced C scenario factor strict saved r) → ran.bytes ≡ bytes
  these r ran =
      let seen = subst (λ (files : Option Files). HasBytes files scenario ran.bytes) told ran.held in
      let both : Some ran.bytes ≡ Some bytes = sym seen.0 ∙ there in
      cc

  only_next : (n : List ℕ) (b : List (List ℕ)) (name : List ℕ) → IsNext (n ∷ []) b name → n ≡ name
  only_next n [] name is = is
  only_next n (x ∷ more) name is = absurd is

  unread_run : (Q : Request) (e : Ending) (wanted : ℕ) → IsAsked C.words Q → IsStuckBy (IsAccepted (map name_of C.outside.kinds) Q) C.folder.files (files_of Q) (HasRisen C.folder.faults C.folder.new_faults) e → IsStatusOr wanted (status_of e)
  unread_run Q e wanted other stuck =
      let here = subst (λ (X : Request). IsStuckBy (IsAccepted (map name_of C.outside.kinds) X) C.folder.files (files_of X) (HasRisen C.folder.faults C.folder.new_faults) e) (this_run Q other) stuck in
      let is : scenario ≡ here.name = only_next scenario here.read here.name here.next in
      readable_status held C.folder.files here.name (HasRisen C.folder.faults C.folder.new_faults) e wanted told (subst (IsThere held) is (record { bytes = bytes; is = there; short = short })) here.cause

  -- what the status of the run is, and the words ask for nothing else
  by_performed : (Holds : ℕ → Type 0) → ((r : Result (Unit {0}) Ending) → WasPaced C scenario factor strict saved r → Holds (status r)) → (r : Result (Unit {0}) Ending) → HasPerformed C r → Holds (status r)
  by_performed Holds of_run r (inl made) = let wrong = this_run (Reads made.command) made.asked in absurd cc
  by_performed Holds of_run r (inr ran) = of_run r (was_paced C scenario factor strict saved r (subst (λ (Q : Request). IsDoneOver C Q r) (this_run ran.request ran.asked) ran.run))

  by_run : (Holds : ℕ → Type 0) (wanted : ℕ) → ((n : ℕ) → IsStatusOr wanted n → Holds n) → ((r : Result (Unit {0}) Ending) → WasPaced C scenario factor strict saved r → Holds (status r)) → (r : Result (Unit {0}) Ending) → EndedAs C r → Holds (status r)
  by_run Holds wanted wide of_run (Ok done) performed = by_performed Holds of_run (Ok done) performed
  by_run Holds wanted wide of_run (Err e) (inl misused) = wide (status_of e) (unasked_not C.words e misused.cause wanted (Paced scenario factor strict saved) asked)
  by_run Holds wanted wide of_run (Err e) (inr (inl unread)) = wide (status_of e) (unread_run unread.request e wanted unread.asked unread.stuck)
  by_run Holds wanted wide of_run (Err e) (inr (inr performed)) = by_performed Holds of_run (Err e) performed

  both : HandshakesComplete → (r : Result (Unit {0}) Ending) → EndedAs C r → (IsFaultlessPacedStudy C.outside factor strict bytes → IsPacedStatus strict (status r)) × ((e : Ending) → IsUnchecked (map name_of C.outside.kinds) bytes e → (e ≡ Mem → ⊥) → IsStatusOr 3 (status r))
  both law r done = (
    (λ fine. by_run (IsPacedStatus strict) 0 (λ n is. inl is) (λ s ran. ended C factor strict saved bytes ran.text ran.kept s ran.ended law (subst (λ (b : List ℕ). IsPacedOutcome C.outside factor strict (is_some saved) b ran.text ran.kept) (these s ran) ran.outcome) fine) r done),
    (λ e un not. by_run (IsStatusOr 3) 3 (λ n is. is) (λ s ran. refused C factor strict saved bytes ran.text ran.kept s ran.ended (subst (λ (b : List ℕ). IsPacedOutcome C.outside factor strict (is_some saved) b ran.text ran.kept) (these s ran) ran.outcome) e un not) r done),
  )

-- the same where the folder may not tell
pub ends_paced : HandshakesComplete → (C : Around) (files : Option Files) (r : Result (Unit {0}) Ending) (n : ℕ) → C.folder.files ≡ files → n ≡ status r → EndedAs C r
    → IfSome files (λ held. (scenario : List ℕ) (factor : ℕ) (strict : Option ℕ) (saved : Option (List ℕ)) (bytes : List ℕ) → IsAsked C.words (Paced scenario factor strict saved) → held scenario ≡ Some bytes → length bytes ≤ file_limit
    → (IsFaultlessPacedStudy C.outside factor strict bytes → IsPacedStatus strict n) × ((e : Ending) → IsUnchecked (map name_of C.outside.kinds) bytes e → (e ≡ Mem → ⊥) → IsStatusOr 3 n))
ends_paced law C None r n told is done = tt
ends_paced law C (Some held) r n told is done = λ scenario factor strict saved bytes asked there short.
    subst (λ (m : ℕ). (IsFaultlessPacedStudy C.outside factor strict bytes → IsPacedStatus strict m) × ((e : Ending) → IsUnchecked (map name_of C.outside.kinds) bytes e → (e ≡ Mem → ⊥) → IsStatusOr 3 m)) (sym is) (both C held told scenario factor strict saved asked bytes there short law r done)
