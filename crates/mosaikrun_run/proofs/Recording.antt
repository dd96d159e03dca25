-- Where the record of a run is there.
use Rattle.std.proofs.Common.{◌≡◌, ◌⊎◌, inl, inr, ℕ, ◌+◌, true, List, [], ◌∷◌, ◌++◌, take, map, append_assoc, Option, None, Result, Err, refl, sym, ap, ◌∙◌, subst}
use Rattle.std.specs.Prelude.{IfSome}
use Rattle.mk_base.specs.Lists.{Each}
use Rattle.mk_base.proofs.Lists.{append_nil}
use Rattle.mk_frame.specs.Frames.{frames_of}
use Rattle.mk_message.specs.Written.{call_text, item_text}
use Rattle.mk_outside.specs.Counts.{HasRisen}
use Rattle.mk_outside.specs.declared.fleet.LogEntry.{LogEntry}
use Rattle.mk_outside.specs.Logs.{said_on}
use Rattle.mk_plan.specs.declared.Call.{Call}
use Rattle.mk_plan.specs.declared.Call.TheVariants.{Stop}
use Rattle.mk_plan.specs.declared.Item.TheVariants.{Step}
use Rattle.mk_plan.specs.Sequential.{id_after}
use Rattle.mk_scenario.specs.declared.parts.Scenario.{Scenario}
use Rattle.mk_run_crew.specs.Attempts.{attempt}
use Rattle.mk_local.specs.declared.turn.Turn.{Turn}
use Rattle.mk_local.specs.Kinds.{name_of}
use Rattle.mk_run_laws.specs.Handshake.{call_payloads, calls_to, setup_payloads}
use Rattle.mk_run_laws.specs.Payloads.{link_payloads}
use Rattle.mk_run_local.specs.Made.{kind_reply_of}
use Rattle.mk_setup.specs.declared.fault.SetupFault.TheVariants as fault
use Rattle.mk_run_crew.specs.declared.halt.Halt.{Halt}
use Rattle.mk_run_crew.specs.declared.halt.Halt.TheVariants as halt
use Rattle.mk_run_crew.specs.Halted.{HasHalted, count_to}
use Rattle.mosaikrun_check.specs.Runnable.{IsUnrunnable}
use Rattle.mosaikrun_endings.specs.declared.ending.Ending.{Ending}
use Rattle.mosaikrun_endings.specs.declared.ending.Ending.TheVariants as ends
use Rattle.mosaikrun_sayings.specs.Sayings.{ids_of}
use Rattle.mosaikrun_run.specs.declared.sayings.Form.{Form}
use Rattle.mosaikrun_run.specs.Laws.{RecordsAreThere}
use Rattle.mosaikrun_run.specs.Outcomes.{IsReadAgain, IsScenarioOutcome, IsUnrunnableScenario, IsUnrun, Outside}
use Rattle.mosaikrun_run.specs.Records.{HasRecord, IsRunFault, EndsOfItself, IsStepSaid}
use Rattle.mosaikrun_run.specs.Sayings.{halt_ending}
use Rattle.mosaikrun_run.proofs.StepFrames.{IsCallText, frames_there, step_unsaid}

-- ---- no Step was said before a run

calls_are : (k : ℕ) (calls : List Call) → Each IsCallText (call_payloads k calls)
calls_are k [] = tt
calls_are k (call ∷ calls) = ((k, call, refl), calls_are (k + 1) calls)

-- nothing was said at all
pub nothing_said : (started : ℕ) (S : Scenario) (log : List LogEntry) → log ≡ [] → IsStepSaid started S log → ⊥
nothing_said started S log quiet h =
    let s = h.step in
    frames_there (take s.requests (setup_payloads S h.sim)) (item_text s.id (Step s.at s.inputs s.advance)) s.said.0 (sym s.said.1 ∙ ap (said_on h.link) quiet)

-- or what a handshake says that ended early
halted_said : (started : ℕ) (S : Scenario) (ranks : List ℕ) (rows : List Turn) (log : List LogEntry) (risen : Type 0) (h : Halt) → HasHalted (attempt started S ranks rows log) risen h → IsStepSaid started S log → ⊥
halted_said started S ranks rows log risen h halted said =
    let s = said.step in
    let n = count_to said.sim halted.queued in
    let right = halted.says (kind_reply_of rows S) said.sim said.link said.linked in
    let front = frames_of (take s.requests (setup_payloads S said.sim) ++ item_text s.id (Step s.at s.inputs s.advance) ∷ []) in
    let same : front ++ (s.said.0 ++ right.said.0) ≡ frames_of (link_payloads S said.sim n [] true) =
    sym (append_assoc front s.said.0 right.said.0) ∙ ap (λ (t : List ℕ). t ++ right.said.0) (sym s.said.1) ∙ sym right.said.1 in
    let none = ap (λ (l : List (List ℕ)). frames_of (l ++ call_text (id_after n []) Stop ∷ [])) (append_nil (take n (setup_payloads S said.sim))) in
    step_unsaid s.id s.at s.inputs s.advance (setup_payloads S said.sim) (calls_are 0 (calls_to S said.sim)) s.requests n (id_after n []) (s.said.0 ++ right.said.0) (same ∙ none)

-- ---- what has no journal has no fault of a run

unrunnable_not : (kinds : List (List ℕ)) (S : Scenario) (e : Ending) → IsUnrunnable kinds S e → IsRunFault e → ⊥
unrunnable_not kinds S e (inl mem) of_itself = subst IsRunFault mem of_itself
unrunnable_not kinds S e (inr (inl circle)) of_itself = subst IsRunFault circle.is of_itself
unrunnable_not kinds S e (inr (inr unprepared)) of_itself = subst IsRunFault unprepared.unbegun.is of_itself

halt_not : (ids : List (List ℕ)) (h : Halt) → IsRunFault (halt_ending ids h) → ⊥
halt_not ids (halt.Setup (fault.Meta sim e)) of_itself = of_itself
halt_not ids (halt.Setup (fault.Create sim e)) of_itself = of_itself
halt_not ids (halt.Setup (fault.Connect e)) of_itself = of_itself
halt_not ids (halt.Setup (fault.Unasked sim)) of_itself = of_itself
halt_not ids (halt.Setup (fault.Failed sim text)) of_itself = of_itself
halt_not ids (halt.Setup fault.Mem) of_itself = of_itself
halt_not ids halt.Fleet of_itself = of_itself
halt_not ids (halt.Gone sim) of_itself = of_itself
halt_not ids (halt.Garbled sim test) of_itself = of_itself
halt_not ids (halt.LongFrame sim n) of_itself = of_itself
halt_not ids (halt.LongItem sim n) of_itself = of_itself
halt_not ids halt.Mem of_itself = of_itself

module _ (O : Outside) (form : Form) (S : Scenario) (text : Result (List ℕ) Ending) (kept : Option (List ℕ)) where
  pub unready_not : IsUnrunnableScenario O S text kept → EndsOfItself text ⊎ IsStepSaid O.started S O.log → ⊥
  unready_not u (inl of_itself) = unrunnable_not (map name_of O.kinds) S u.ending u.cause (subst (λ (t : Result (List ℕ) Ending). EndsOfItself t) u.is of_itself)
  unready_not u (inr said) = nothing_said O.started S O.log u.idle.quiet said

  pub unrun_not : IsUnrun O S text kept → (text ≡ Err ends.Mem → ⊥) → EndsOfItself text ⊎ IsStepSaid O.started S O.log → ⊥
  unrun_not u not (inl of_itself) = elim u.said [ inl same ↦ halt_not (ids_of S) u.halt (subst (λ (t : Result (List ℕ) Ending). EndsOfItself t) same of_itself) | inr mem ↦ not mem ]
  unrun_not u not (inr said) = halted_said O.started S u.ranks O.kinds O.log (HasRisen O.faults O.new_faults) u.halt u.halted said

  -- of each run there is a record, but for want of memory
  there : IsScenarioOutcome O form true S text kept → (text ≡ Err ends.Mem → ⊥) → EndsOfItself text ⊎ IsStepSaid O.started S O.log → HasRecord O form S text kept
  there (inl unready) not due = absurd (unready_not unready due)
  there (inr (inl unrun)) not due = absurd (unrun_not unrun not due)
  there (inr (inr p)) not due = elim p.recorded [
    | inl is ↦ record { ranks = p.ranks; runnable = p.runnable; plan = p.plan; journal = p.journal; outcome = p.outcome; run = p.run; said = p.said; is = is; again = subst (λ (k : Option (List ℕ)). IfSome k (IsReadAgain p.plan p.journal)) is p.again }
    | inr none ↦ absurd (not none.1)
  ]

  only : IsScenarioOutcome O form true S text kept → (kept ≡ None) ⊎ HasRecord O form S text kept
  only (inl unready) = inl unready.idle.unrecorded
  only (inr (inl unrun)) = inl unrun.unrecorded
  only (inr (inr p)) = elim p.recorded [
    | inl is ↦ inr (record { ranks = p.ranks; runnable = p.runnable; plan = p.plan; journal = p.journal; outcome = p.outcome; run = p.run; said = p.said; is = is; again = subst (λ (k : Option (List ℕ)). IfSome k (IsReadAgain p.plan p.journal)) is p.again })
    | inr none ↦ inl none.0
  ]

pub records_there : RecordsAreThere
records_there = record { there = there; only = only }
