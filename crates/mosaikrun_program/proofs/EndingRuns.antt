-- A run in which nothing goes wrong comes to its end, and one of a scenario that is refused has the
-- status 3.
use Rattle.std.proofs.Common.{◌≡◌, ℕ, ◌≤◌, ◌⊎◌, inl, inr, refl, sym, ap, ◌∙◌, subst, List, [], ◌∷◌, length, map, Option, None, Some, Result, Ok, Err}
use Rattle.std.specs.Prelude.{IfSome, is_some}
use Rattle.mk_outside.specs.Counts.{HasRisen}
use Rattle.mk_outside.specs.Folders.{Files, file_limit}
use Rattle.mk_scenario.specs.declared.parts.Scenario.{Scenario}
use Rattle.mk_scenario.specs.Scenarios.{scenario_of}
use Rattle.mk_scenario_keys.specs.declared.fault.ScenarioFault.{ScenarioFault}
use Rattle.mk_launch.specs.Ready.{IsPrepared}
use Rattle.mk_local.specs.Kinds.{name_of}
use Rattle.mk_run_crew.specs.Completing.{HandshakesComplete, IsFaultlessHandshake}
use Rattle.mk_run.specs.declared.outcome.Outcome.{Outcome}
use Rattle.mk_run.specs.Ends.{IsFaultless}
use Rattle.mk_run.specs.Ran.{HasRun}
use Rattle.mk_plan.specs.declared.Plan.{Plan}
use Rattle.mk_plan.specs.declared.Entry.{Entry}
use Rattle.mk_plan.specs.Journals.{sent}
use Rattle.mosaikrun_sayings.specs.Sayings.{ids_of}
use Rattle.mosaikrun_words.specs.declared.request.Request.{Request}
use Rattle.mk_run.proofs.Completing.{completes as run_completes}
use Rattle.mosaikrun_words.specs.declared.request.Request.TheVariants.{Files as Reads, Run}
use Rattle.mosaikrun_endings.specs.declared.ending.Ending.{Ending}
use Rattle.mosaikrun_endings.specs.declared.ending.Ending.TheVariants.{Mem}
use Rattle.mosaikrun_endings.specs.Endings.{status_of}
use Rattle.mosaikrun_check.specs.Checks.{IsUnchecked}
use Rattle.mosaikrun_check.specs.Runnable.{AreRanks}
use Rattle.mosaikrun_check.proofs.OneRanking.{fault_status, runnable_or_not}
use Rattle.mosaikrun_run.specs.declared.sayings.Form.TheVariants.{Report}
use Rattle.mosaikrun_run.specs.Outcomes.{IsRunOutcome, IsScenarioOutcome, attempt_in, exchange_in}
use Rattle.mosaikrun_run.specs.Sayings.{halt_ending, saying_of, text_of}
use Rattle.mosaikrun_run.proofs.Telling.{one_scenario}
use Rattle.mosaikrun_program.specs.Around.{Around}
use Rattle.mosaikrun_program.specs.Commands.{IsAccepted, IsAsked, HasBytes, IsNext, IsStuckBy, files_of}
use Rattle.mosaikrun_program.specs.Complete.{IsFaultlessStudy}
use Rattle.mosaikrun_program.specs.Program.{EndedAs, HasPerformed, IsStatusOr, status}
use Rattle.mosaikrun_program.specs.Running.{IsDoneOver, RunAnswer}
use Rattle.mosaikrun_program.proofs.Answering.{cut_status, memory, one_request, unasked_not}
use Rattle.mosaikrun_program.proofs.Deciding.{readable_status}
use Rattle.mosaikrun_program.proofs.Rows.{IsThere}
use Rattle.mosaikrun_program.proofs.Playing.{WasRun, was_run}

-- the status of a run that has a text
pub status_of_text : (C : Around) (name : Option (List ℕ)) (text : Result (List ℕ) Ending) (kept : Option (List ℕ)) (r : Result (Unit {0}) Ending) → RunAnswer C.folder C.output name text kept r → (t : List ℕ) → text ≡ Ok t → IsStatusOr 0 (status r)
status_of_text C name (Ok x) kept (Ok done) said t is = inl refl
status_of_text C name (Ok x) kept (Err e) (inl unsaved) t is = elim unsaved.2 [ inl folder ↦ inr (inl (ap status_of folder)) | inr mem ↦ memory 0 e mem ]
status_of_text C name (Ok x) kept (Err e) (inr cut) t is = cut_status C.output 0 e cut.2
status_of_text C name (Err why) kept r said t is = cc

-- the status of a run that has none
pub status_of_none : (C : Around) (name : Option (List ℕ)) (text : Result (List ℕ) Ending) (kept : Option (List ℕ)) (r : Result (Unit {0}) Ending) → RunAnswer C.folder C.output name text kept r → (e : Ending) → text ≡ Err e → (wanted : ℕ) → (e ≡ Mem) ⊎ (status_of e ≡ wanted) → IsStatusOr wanted (status r)
status_of_none C name (Ok x) kept r said e is wanted why = cc
status_of_none C name (Err f) kept (Ok done) said e is wanted why = absurd said
status_of_none C name (Err f) kept (Err g) said e is wanted why =
    let same : f ≡ e = cc in
    elim said.1 [
      | inl told ↦ elim why [ inl mem ↦ memory wanted g (told ∙ same ∙ mem) | inr status ↦ inl (ap status_of (told ∙ same) ∙ status) ]
      | inr mem ↦ memory wanted g mem
    ]

-- a file's fault and the scenario that it is exclude one another
pub not_both : (S : Scenario) (fault : ScenarioFault) (verdict : Result Scenario ScenarioFault) → verdict ≡ Ok S → verdict ≡ Err fault → ⊥
not_both S fault verdict a b = let same = sym a ∙ b in cc

-- a scenario that can be run isn't refused
pub runnable_not : (kinds : List (List ℕ)) (bytes : List ℕ) (S : Scenario) (ranks : List ℕ) → scenario_of bytes ≡ Ok S → AreRanks S ranks → IsPrepared S kinds → (e : Ending) → IsUnchecked kinds bytes e → e ≡ Mem
runnable_not kinds bytes S ranks read ranked prepared e (inl (inl mem)) = mem
runnable_not kinds bytes S ranks read ranked prepared e (inl (inr fault)) = absurd (not_both S fault.0 (scenario_of bytes) read fault.2)
runnable_not kinds bytes S ranks read ranked prepared e (inr stuck) =
    let same : S ≡ stuck.scenario = one_scenario bytes S stuck.scenario read stuck.read in
    runnable_or_not kinds stuck.scenario ranks e (subst (λ (X : Scenario). AreRanks X ranks) same ranked) (subst (λ (X : Scenario). IsPrepared X kinds) same prepared) stuck.cause

module _ (C : Around) (name : Option (List ℕ)) (bytes : List ℕ) (text : Result (List ℕ) Ending) (kept : Option (List ℕ)) (r : Result (Unit {0}) Ending) (said : RunAnswer C.folder C.output name text kept r) where
  -- where nothing goes wrong
  ended : HandshakesComplete → IsRunOutcome C.outside (is_some name) bytes text kept → IsFaultlessStudy C.outside bytes → IsStatusOr 0 (status r)
  ended law (inl none) f = elim none.cause [
    | inl mem ↦ status_of_none C name text kept r said none.ending none.is 0 (inl mem)
    | inr fault ↦ absurd (not_both f.scenario fault.0 (scenario_of bytes) f.read fault.2)
  ]
  ended law (inr has) f = go has.outcome
    where
      same : f.scenario ≡ has.scenario
      same = one_scenario bytes f.scenario has.scenario f.read has.read

      go : IsScenarioOutcome C.outside Report (is_some name) has.scenario text kept → IsStatusOr 0 (status r)
      go (inl unready) = status_of_none C name text kept r said unready.ending unready.is 0
          (inl (runnable_or_not (map name_of C.outside.kinds) has.scenario f.ranks unready.ending (subst (λ (X : Scenario). AreRanks X f.ranks) same f.ranked) (subst (λ (X : Scenario). IsPrepared X (map name_of C.outside.kinds)) same f.prepared) unready.cause))
      go (inr (inl u)) =
          let fine = subst (λ (X : Scenario). (any : List ℕ) → AreRanks X any → IsFaultlessHandshake (attempt_in C.outside X any) (HasRisen C.outside.faults C.outside.new_faults)) same f.handshake u.ranks u.runnable.ranked in
          let mem = law (attempt_in C.outside has.scenario u.ranks) C.outside.faults C.outside.new_faults u.halt u.halted fine in
          status_of_none C name text kept r said Mem (elim u.said [ inl is ↦ is ∙ ap (λ h. Err (halt_ending (ids_of has.scenario) h)) mem | inr is ↦ is ]) 0 (inl refl)
      go (inr (inr p)) =
          let fine = subst (λ (X : Scenario). (any : List ℕ) (P : Plan) (J : List Entry) (end : Outcome) → AreRanks X any → HasRun (attempt_in C.outside X any) P J C.outside.faults C.outside.new_faults end → IsFaultless (exchange_in C.outside X) P J C.outside.faults C.outside.new_faults) same f.run p.ranks p.plan p.journal p.outcome p.runnable.ranked p.run in
          elim (run_completes (exchange_in C.outside has.scenario) p.plan p.journal C.outside.faults C.outside.new_faults p.outcome p.run.run fine) [
            | inl done ↦ elim p.said [
              | inl is ↦ status_of_text C name text kept r said (text_of Report p.plan (sent p.journal)) (is ∙ ap (saying_of Report (ids_of has.scenario) p.plan p.journal) done)
              | inr is ↦ status_of_none C name text kept r said Mem is 0 (inl refl)
            ]
            | inr mem ↦ elim p.said [
              | inl is ↦ status_of_none C name text kept r said Mem (is ∙ ap (saying_of Report (ids_of has.scenario) p.plan p.journal) mem) 0 (inl refl)
              | inr is ↦ status_of_none C name text kept r said Mem is 0 (inl refl)
            ]
          ]

  -- where the scenario is refused
  refused : IsRunOutcome C.outside (is_some name) bytes text kept → (e : Ending) → IsUnchecked (map name_of C.outside.kinds) bytes e → (e ≡ Mem → ⊥) → IsStatusOr 3 (status r)
  refused (inl none) e un not = status_of_none C name text kept r said none.ending none.is 3 (fault_status (map name_of C.outside.kinds) bytes none.ending (inl none.cause))
  refused (inr has) e un not = go has.outcome
    where
      go : IsScenarioOutcome C.outside Report (is_some name) has.scenario text kept → IsStatusOr 3 (status r)
      go (inl unready) = status_of_none C name text kept r said unready.ending unready.is 3
          (fault_status (map name_of C.outside.kinds) bytes unready.ending (inr (record { scenario = has.scenario; read = has.read; cause = unready.cause })))
      go (inr (inl u)) = absurd (not (runnable_not (map name_of C.outside.kinds) bytes has.scenario u.ranks has.read u.runnable.ranked u.runnable.prepared e un))
      go (inr (inr p)) = absurd (not (runnable_not (map name_of C.outside.kinds) bytes has.scenario p.ranks has.read p.runnable.ranked p.runnable.prepared e un))

-- the run that is asked for, where the folder tells
module _ (C : Around) (held : Files) (told : C.folder.files ≡ Some held) (scenario : List ℕ) (saved : Option (List ℕ)) (asked : IsAsked C.words (Run scenario saved)) (bytes : List ℕ) (there : held scenario ≡ Some bytes) (short : length bytes ≤ file_limit) where
  -- nothing else is asked for
  this_run : (Q : Request) → IsAsked C.words Q → Q ≡ Run scenario saved
  this_run Q other = one_request C.words Q (Run scenario saved) other asked

  -- the run is of these bytes
  these : (r : Result (Unit {0}) Ending) → (ran : WasRun C scenario saved r) → ran.bytes ≡ bytes
  these r ran =
      let seen = subst (λ (files : Option Files). HasBytes files scenario ran.bytes) told ran.held in
      let both : Some ran.bytes ≡ Some bytes = sym seen.0 ∙ there in
      cc

  only_next : (n : List ℕ) (b : List (List ℕ)) (name : List ℕ) → IsNext (n ∷ []) b name → n ≡ name
  only_next n [] name is = is
  only_next n (x ∷ more) name is = absurd is

  unread_run : (Q : Request) (e : Ending) (wanted : ℕ) → IsAsked C.words Q → IsStuckBy (IsAccepted (map name_of C.outside.kinds) Q) C.folder.files (files_of Q) (HasRisen C.folder.faults C.folder.new_faults) e → IsStatusOr wanted (status_of e)
  unread_run Q e wanted other stuck =
      let here = subst (λ (X : Request). IsStuckBy (IsAccepted (map name_of C.outside.kinds) X) C.folder.files (files_of X) (HasRisen C.folder.faults C.folder.new_faults) e) (this_run Q other) stuck in
      let is : scenario ≡ here.name = only_next scenario here.read here.name here.next in
      readable_status held C.folder.files here.name (HasRisen C.folder.faults C.folder.new_faults) e wanted told (subst (IsThere held) is (record { bytes = bytes; is = there; short = short })) here.cause

  -- what the status of the run is, and the words ask for nothing else
  by_performed : (wanted : ℕ) → ((r : Result (Unit {0}) Ending) → WasRun C scenario saved r → IsStatusOr wanted (status r)) → (r : Result (Unit {0}) Ending) → HasPerformed C r → IsStatusOr wanted (status r)
  by_performed wanted of_run r (inl made) = let wrong = this_run (Reads made.command) made.asked in absurd cc
  by_performed wanted of_run r (inr ran) = of_run r (was_run C scenario saved r (subst (λ (Q : Request). IsDoneOver C Q r) (this_run ran.request ran.asked) ran.run))

  by_run : (wanted : ℕ) → ((r : Result (Unit {0}) Ending) → WasRun C scenario saved r → IsStatusOr wanted (status r)) → (r : Result (Unit {0}) Ending) → EndedAs C r → IsStatusOr wanted (status r)
  by_run wanted of_run (Ok done) performed = by_performed wanted of_run (Ok done) performed
  by_run wanted of_run (Err e) (inl misused) = unasked_not C.words e misused.cause wanted (Run scenario saved) asked
  by_run wanted of_run (Err e) (inr (inl unread)) = unread_run unread.request e wanted unread.asked unread.stuck
  by_run wanted of_run (Err e) (inr (inr performed)) = by_performed wanted of_run (Err e) performed

  both : HandshakesComplete → (r : Result (Unit {0}) Ending) → EndedAs C r → (IsFaultlessStudy C.outside bytes → IsStatusOr 0 (status r)) × ((e : Ending) → IsUnchecked (map name_of C.outside.kinds) bytes e → (e ≡ Mem → ⊥) → IsStatusOr 3 (status r))
  both law r done = (
    (λ fine. by_run 0 (λ s ran. ended C saved bytes ran.text ran.kept s ran.ended law (subst (λ (b : List ℕ). IsRunOutcome C.outside (is_some saved) b ran.text ran.kept) (these s ran) ran.outcome) fine) r done),
    (λ e un not. by_run 3 (λ s ran. refused C saved bytes ran.text ran.kept s ran.ended (subst (λ (b : List ℕ). IsRunOutcome C.outside (is_some saved) b ran.text ran.kept) (these s ran) ran.outcome) e un not) r done),
  )

-- the same where the folder may not tell
pub ends_run : HandshakesComplete → (C : Around) (files : Option Files) (r : Result (Unit {0}) Ending) (n : ℕ) → C.folder.files ≡ files → n ≡ status r → EndedAs C r
    → IfSome files (λ held. (scenario : List ℕ) (saved : Option (List ℕ)) (bytes : List ℕ) → IsAsked C.words (Run scenario saved) → held scenario ≡ Some bytes → length bytes ≤ file_limit
    → (IsFaultlessStudy C.outside bytes → IsStatusOr 0 n) × ((e : Ending) → IsUnchecked (map name_of C.outside.kinds) bytes e → (e ≡ Mem → ⊥) → IsStatusOr 3 n))
ends_run law C None r n told is done = tt
ends_run law C (Some held) r n told is done = λ scenario saved bytes asked there short.
    subst (λ (m : ℕ). (IsFaultlessStudy C.outside bytes → IsStatusOr 0 m) × ((e : Ending) → IsUnchecked (map name_of C.outside.kinds) bytes e → (e ≡ Mem → ⊥) → IsStatusOr 3 m)) (sym is) (both C held told scenario saved asked bytes there short law r done)
