-- No simulator of the demo scenario has a link.
use Rattle.std.proofs.Common.{◌≡◌, inl, inr, ℕ, zero, suc, List, map, Some, None, Result, Err, refl, sym, ◌∙◌, subst}
use Rattle.mk_base.specs.declared.LinkNo.{LinkNo}
use Rattle.mk_plan.specs.declared.Plan.{Plan}
use Rattle.mk_plan.specs.declared.Entry.{Entry}
use Rattle.mk_outside.specs.declared.fleet.LogEntry.{LogEntry}
use Rattle.mk_scenario.specs.declared.parts.Scenario.{Scenario}
use Rattle.mk_run_laws.specs.Kinds.{Replies}
use Rattle.mk_run_laws.specs.Exchanges.{exchange}
use Rattle.mk_run_crew.specs.Attempts.{attempt}
use Rattle.mk_local.specs.declared.turn.Turn.{Turn}
use Rattle.mk_local.specs.Kinds.{name_of}
use Rattle.mk_run_laws.specs.Handshake.{Request, sim_link}
use Rattle.mk_sched.specs.declared.faults.CoreFault.{CoreFault}
use Rattle.mk_sched.specs.declared.faults.CoreFault.TheVariants as core
use Rattle.mk_setup.specs.declared.fault.SetupFault.{SetupFault}
use Rattle.mk_setup.specs.declared.fault.SetupFault.TheVariants as fault
use Rattle.mk_run_crew.specs.declared.halt.Halt.{Halt}
use Rattle.mk_run_crew.specs.declared.halt.Halt.TheVariants as halt
use Rattle.mk_run_crew.specs.Halted.{ShowsCause}
use Rattle.mk_run.specs.declared.outcome.Outcome.{Outcome}
use Rattle.mk_run.specs.declared.outcome.Outcome.TheVariants as outcome
use Rattle.mk_run.specs.Ends.{ShownBy}
use Rattle.mosaikrun_endings.specs.declared.links.LinkFault.{LinkFault}
use Rattle.mosaikrun_endings.specs.declared.ending.Ending.{Ending}
use Rattle.mosaikrun_endings.specs.declared.ending.Ending.TheVariants.{Link}
use Rattle.mosaikrun_sayings.specs.Sayings.{ids_of, setup_ending}
use Rattle.mosaikrun_sayings.specs.Stops.{stop_of}
use Rattle.mosaikrun_check.specs.Runnable.{IsUnrunnable}
use Rattle.mk_scenario_demo.specs.Demo.{demo_scenario}
use Rattle.mosaikrun_run.specs.declared.sayings.Form.{Form}
use Rattle.mosaikrun_run.specs.declared.sayings.Form.TheVariants.{Summary}
use Rattle.mosaikrun_run.specs.Sayings.{halt_ending, saying_of}
use Rattle.mosaikrun_run.specs.Outcomes.{IsSaid, Outside, exchange_in}
use Rattle.mosaikrun_demo.specs.Outcomes.{IsDemoOutcome}

no_link : (started size i : ℕ) → sim_link started (demo_scenario size) i ≡ None
no_link started size zero = refl
no_link started size (suc zero) = refl
no_link started size (suc (suc zero)) = refl
no_link started size (suc (suc (suc zero))) = refl
no_link started size (suc (suc (suc (suc zero)))) = refl
no_link started size (suc (suc (suc (suc (suc zero))))) = refl
no_link started size (suc (suc (suc (suc (suc (suc i)))))) = refl

not_linked : (started size i : ℕ) (l : LinkNo) → sim_link started (demo_scenario size) i ≡ Some l → ⊥
not_linked started size i l is = let wrong : None ≡ Some l = sym (no_link started size i) ∙ is in cc

-- none of these is the ending of a link
module _ (sim : List ℕ) (why : LinkFault) where
  abbrev link : Ending
  link = Link sim why

  unrunnable_not : (kinds : List (List ℕ)) (S : Scenario) → IsUnrunnable kinds S link → ⊥
  unrunnable_not kinds S (inl mem) = cc
  unrunnable_not kinds S (inr (inl circle)) = let is = circle.is in cc
  unrunnable_not kinds S (inr (inr unprepared)) = let is = unprepared.unbegun.is in cc

  setup_not : (ids : List (List ℕ)) (e : SetupFault) → setup_ending ids e ≡ link → ⊥
  setup_not ids (fault.Meta s e) wrong = cc
  setup_not ids (fault.Create s e) wrong = cc
  setup_not ids (fault.Connect e) wrong = cc
  setup_not ids (fault.Unasked s) wrong = cc
  setup_not ids (fault.Failed s text) wrong = cc
  setup_not ids fault.Mem wrong = cc

  stop_not : (P : Plan) (J : List Entry) (e : CoreFault) → stop_of P J e ≡ link → ⊥
  stop_not P J (core.Wrong s place cause) wrong = cc
  stop_not P J (core.Failed s place) wrong = cc
  stop_not P J (core.LoopLimit s time) wrong = cc
  stop_not P J (core.TooLong count) wrong = cc

  halt_not : (started size : ℕ) (ranks : List ℕ) (rows : List Turn) (log : List LogEntry) (risen : Type 0) (queued later : List Request) (ids : List (List ℕ)) (h : Halt)
      → ShowsCause (attempt started (demo_scenario size) ranks rows log) risen queued later h → halt_ending ids h ≡ link → ⊥
  halt_not started size ranks rows log risen queued later ids (halt.Setup e) cause wrong = setup_not ids e wrong
  halt_not started size ranks rows log risen queued later ids halt.Fleet cause wrong = cc
  halt_not started size ranks rows log risen queued later ids (halt.Gone s) cause wrong = not_linked started size s.0 cause.0 cause.1
  halt_not started size ranks rows log risen queued later ids (halt.Garbled s test) cause wrong = not_linked started size s.0 cause.0 cause.1
  halt_not started size ranks rows log risen queued later ids (halt.LongFrame s n) cause wrong = not_linked started size s.0 cause.0 cause.1
  halt_not started size ranks rows log risen queued later ids (halt.LongItem s n) cause wrong = cc
  halt_not started size ranks rows log risen queued later ids halt.Mem cause wrong = cc

  saying_not : (started size : ℕ) (reply : Replies) (form : Form) (ids : List (List ℕ)) (P : Plan) (J : List Entry) (log : List LogEntry) (faults new_faults : ℕ) (o : Outcome)
      → ShownBy (exchange started (demo_scenario size) reply log) P J faults new_faults o → saying_of form ids P J o ≡ Err link → ⊥
  saying_not started size reply form ids P J log faults new_faults outcome.Done shown wrong = cc
  saying_not started size reply form ids P J log faults new_faults (outcome.Setup e) shown wrong = shown
  saying_not started size reply form ids P J log faults new_faults (outcome.Core e) shown wrong = stop_not P J e cc
  saying_not started size reply form ids P J log faults new_faults outcome.Fleet shown wrong = cc
  saying_not started size reply form ids P J log faults new_faults (outcome.Gone s) shown wrong = not_linked started size s.0 shown.0 shown.1.linked
  saying_not started size reply form ids P J log faults new_faults (outcome.Garbled s test) shown wrong = not_linked started size s.0 shown.0 shown.1.linked
  saying_not started size reply form ids P J log faults new_faults (outcome.LongFrame s n) shown wrong = not_linked started size s.0 shown.0 shown.1.linked
  saying_not started size reply form ids P J log faults new_faults (outcome.LongItem s n) shown wrong = cc
  saying_not started size reply form ids P J log faults new_faults outcome.Mem shown wrong = cc

  said_not : (wanted : Result (List ℕ) Ending) → IsSaid wanted (Err link) → (wanted ≡ Err link → ⊥) → ⊥
  said_not wanted (inl same) not = not (sym same)
  said_not wanted (inr mem) not = cc

  err_is : (e : Ending) (given : Result (List ℕ) Ending) → given ≡ Err e → given ≡ Err link → e ≡ link
  err_is e given one two = let both : Err e ≡ Err link = sym one ∙ two in cc

  pub outcome_not : (O : Outside) (size : ℕ) → IsDemoOutcome O size (Err link) → ⊥
  outcome_not O size (inl unready) =
      unrunnable_not _ _ (subst (λ (e : Ending). IsUnrunnable (map name_of O.kinds) (demo_scenario size) e) (err_is unready.ending (Err link) unready.is refl) unready.cause)
  outcome_not O size (inr (inl unrun)) = said_not _ unrun.said (λ w. halt_not O.started size unrun.ranks O.kinds O.log _ unrun.halted.queued unrun.halted.later (ids_of (demo_scenario size)) unrun.halt unrun.halted.cause (err_is _ (Err (halt_ending (ids_of (demo_scenario size)) unrun.halt)) refl w))
  outcome_not O size (inr (inr played)) = said_not _ played.said (saying_not O.started size (exchange_in O (demo_scenario size)).reply Summary (ids_of (demo_scenario size)) played.plan played.journal O.log O.faults O.new_faults played.outcome played.run.run.shown)
