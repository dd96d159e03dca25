-- No command says that the words are none.
use Rattle.std.proofs.Common.{◌≡◌, ℕ, Bool, inl, inr, refl, sym, ap, ◌∙◌, subst, arith, List, map, Option, Result, Err}
use Rattle.mk_plan.specs.declared.Plan.{Plan}
use Rattle.mk_plan.specs.declared.Entry.{Entry}
use Rattle.mk_scenario.specs.declared.parts.Scenario.{Scenario}
use Rattle.mk_record_read.specs.declared.saved.Saved.{Saved}
use Rattle.mk_local.specs.Kinds.{name_of}
use Rattle.mk_sched.specs.declared.faults.CoreFault.{CoreFault}
use Rattle.mk_sched.specs.declared.faults.CoreFault.TheVariants as core
use Rattle.mk_setup.specs.declared.fault.SetupFault.{SetupFault}
use Rattle.mk_setup.specs.declared.fault.SetupFault.TheVariants as fault
use Rattle.mk_run_crew.specs.declared.halt.Halt.{Halt}
use Rattle.mk_run_crew.specs.declared.halt.Halt.TheVariants as halt
use Rattle.mk_run.specs.declared.outcome.Outcome.{Outcome}
use Rattle.mk_run.specs.declared.outcome.Outcome.TheVariants as outcome
use Rattle.mosaikrun_endings.specs.declared.ending.Ending.{Ending}
use Rattle.mosaikrun_endings.specs.declared.ending.Ending.TheVariants.{Usage, Mem}
use Rattle.mosaikrun_endings.specs.Endings.{status_of}
use Rattle.mosaikrun_sayings.specs.Sayings.{ids_of, setup_ending}
use Rattle.mosaikrun_sayings.specs.Stops.{stop_of}
use Rattle.mosaikrun_check.specs.Checks.{IsUnchecked}
use Rattle.mosaikrun_check.specs.Runnable.{IsUnrunnable}
use Rattle.mosaikrun_check.proofs.OneRanking.{fault_status}
use Rattle.mosaikrun_run.specs.declared.sayings.Form.{Form}
use Rattle.mosaikrun_run.specs.declared.sayings.Form.TheVariants.{Report}
use Rattle.mosaikrun_run.specs.Sayings.{halt_ending, saying_of}
use Rattle.mosaikrun_run.specs.Outcomes.{Outside, IsRunOutcome, IsSaid, IsScenarioOutcome}
use Rattle.mk_record.specs.ReplayEnd.{ReplayEnd}
use Rattle.mk_record.specs.ReplayEnd.TheVariants as replay_end
use Rattle.mosaikrun_records.specs.Saved.{EndsEarly, IsSaidOf, IsUnread}
use Rattle.mk_resume_loop.specs.declared.ending.ResumeEnd.{ResumeEnd}
use Rattle.mk_resume_loop.specs.declared.ending.ResumeEnd.TheVariants as resume_end
use Rattle.mosaikrun_resume.specs.Outcomes.{IsResumeOutcome, IsSavedOutcome, IsStudyOutcome}
use Rattle.mosaikrun_resume.specs.Sayings.{resume_saying}
use Rattle.mk_pace_laws.specs.declared.end.PaceEnd.{PaceEnd}
use Rattle.mk_pace_laws.specs.declared.end.PaceEnd.TheVariants as pace_end
use Rattle.mosaikrun_paced.specs.Outcomes.{IsPacedOutcome, IsPacedScenario}
use Rattle.mosaikrun_paced.specs.Sayings.{pace_saying}
use Rattle.mosaikrun_program.specs.Around.{IsSaidAs}

-- neither does a check
pub unchecked_not_usage : (kinds : List (List ℕ)) (bytes : List ℕ) (e : Ending) → IsUnchecked kinds bytes e → e ≡ Usage → ⊥
unchecked_not_usage kinds bytes e h usage = elim (fault_status kinds bytes e h) [ inl mem ↦ (let wrong : Mem ≡ Usage = sym mem ∙ usage in cc) | inr three ↦ (let two : status_of e ≡ 2 = ap status_of usage in omega (arith, three, two)) ]

unrunnable_not_usage : (kinds : List (List ℕ)) (S : Scenario) (e : Ending) → IsUnrunnable kinds S e → e ≡ Usage → ⊥
unrunnable_not_usage kinds S e (inl mem) usage = let wrong : Mem ≡ Usage = sym mem ∙ usage in cc
unrunnable_not_usage kinds S e (inr (inl circle)) usage = let is = circle.is in cc
unrunnable_not_usage kinds S e (inr (inr unprepared)) usage = let is = unprepared.unbegun.is in cc

-- nor does a run
setup_not_usage : (ids : List (List ℕ)) (e : SetupFault) → setup_ending ids e ≡ Usage → ⊥
setup_not_usage ids (fault.Meta sim e) wrong = cc
setup_not_usage ids (fault.Create sim e) wrong = cc
setup_not_usage ids (fault.Connect e) wrong = cc
setup_not_usage ids (fault.Unasked sim) wrong = cc
setup_not_usage ids (fault.Failed sim text) wrong = cc
setup_not_usage ids fault.Mem wrong = cc

halt_not_usage : (ids : List (List ℕ)) (h : Halt) → halt_ending ids h ≡ Usage → ⊥
halt_not_usage ids (halt.Setup e) wrong = setup_not_usage ids e wrong
halt_not_usage ids halt.Fleet wrong = cc
halt_not_usage ids (halt.Gone sim) wrong = cc
halt_not_usage ids (halt.Garbled sim test) wrong = cc
halt_not_usage ids (halt.LongFrame sim n) wrong = cc
halt_not_usage ids (halt.LongItem sim n) wrong = cc
halt_not_usage ids halt.Mem wrong = cc

stop_not_usage : (P : Plan) (J : List Entry) (e : CoreFault) → stop_of P J e ≡ Usage → ⊥
stop_not_usage P J (core.Wrong s place cause) wrong = cc
stop_not_usage P J (core.Failed s place) wrong = cc
stop_not_usage P J (core.LoopLimit s time) wrong = cc
stop_not_usage P J (core.TooLong count) wrong = cc

-- nor does a command on records
pub stopped_not_usage : (bytes : List ℕ) (order : Option ℕ) → EndsEarly bytes order Usage → ⊥
stopped_not_usage bytes order s = by s.end s.said
  where
    by : (end : ReplayEnd) → IsSaidOf s.plan s.journal end Usage → ⊥
    by replay_end.Done said = said
    by (replay_end.Short n) said = cc
    by (replay_end.Other n) said = cc
    by (replay_end.Core fault) said = stop_not_usage s.plan s.journal fault (sym said)

pub unread_not_usage : (bytes : List ℕ) → IsUnread bytes Usage → ⊥
unread_not_usage bytes (inl mem) = cc
unread_not_usage bytes (inr fault) = let is = fault.2 in cc

saying_not_usage : (form : Form) (ids : List (List ℕ)) (P : Plan) (J : List Entry) (o : Outcome) → saying_of form ids P J o ≡ Err Usage → ⊥
saying_not_usage form ids P J outcome.Done wrong = cc
saying_not_usage form ids P J (outcome.Setup e) wrong = setup_not_usage ids e cc
saying_not_usage form ids P J (outcome.Core e) wrong = stop_not_usage P J e cc
saying_not_usage form ids P J outcome.Fleet wrong = cc
saying_not_usage form ids P J (outcome.Gone sim) wrong = cc
saying_not_usage form ids P J (outcome.Garbled sim test) wrong = cc
saying_not_usage form ids P J (outcome.LongFrame sim n) wrong = cc
saying_not_usage form ids P J (outcome.LongItem sim n) wrong = cc
saying_not_usage form ids P J outcome.Mem wrong = cc

ending_of : (e f : Ending) (wanted given : Result (List ℕ) Ending) → wanted ≡ Err e → given ≡ Err f → wanted ≡ given → e ≡ f
ending_of e f wanted given one two same = cc

pub as_not_usage : (wanted e : Ending) → IsSaidAs wanted e → (wanted ≡ Usage → ⊥) → e ≡ Usage → ⊥
as_not_usage wanted e (inl same) not usage = not (sym same ∙ usage)
as_not_usage wanted e (inr mem) not usage = let wrong : Mem ≡ Usage = sym mem ∙ usage in cc

said_not_usage : (wanted text : Result (List ℕ) Ending) → IsSaid wanted text → (wanted ≡ Err Usage → ⊥) → text ≡ Err Usage → ⊥
said_not_usage wanted text (inl same) not usage = not (sym same ∙ usage)
said_not_usage wanted text (inr mem) not usage = let wrong : Err Mem ≡ Err Usage = sym mem ∙ usage in cc

same_ending : (text : Result (List ℕ) Ending) (e : Ending) → text ≡ Err e → text ≡ Err Usage → e ≡ Usage
same_ending text e is usage = let both : Err e ≡ Err Usage = sym is ∙ usage in cc

pub scenario_not_usage : (O : Outside) (form : Form) (wanted : Bool) (S : Scenario) (text : Result (List ℕ) Ending) (kept : Option (List ℕ)) → IsScenarioOutcome O form wanted S text kept → text ≡ Err Usage → ⊥
scenario_not_usage O form wanted S text kept (inl unready) usage = unrunnable_not_usage (map name_of O.kinds) S unready.ending unready.cause (same_ending text unready.ending unready.is usage)
scenario_not_usage O form wanted S text kept (inr (inl unrun)) usage = said_not_usage _ text unrun.said (λ w. halt_not_usage (ids_of S) unrun.halt (ending_of (halt_ending (ids_of S) unrun.halt) Usage _ _ refl refl w)) usage
scenario_not_usage O form wanted S text kept (inr (inr played)) usage = said_not_usage _ text played.said (λ w. saying_not_usage form (ids_of S) played.plan played.journal played.outcome w) usage

pub outcome_not_usage : (O : Outside) (wanted : Bool) (bytes : List ℕ) (text : Result (List ℕ) Ending) (kept : Option (List ℕ)) → IsRunOutcome O wanted bytes text kept → text ≡ Err Usage → ⊥
outcome_not_usage O wanted bytes text kept (inl none) usage = unchecked_not_usage (map name_of O.kinds) bytes none.ending (inl none.cause) (same_ending text none.ending none.is usage)
outcome_not_usage O wanted bytes text kept (inr read) usage = scenario_not_usage O _ wanted read.scenario text kept read.outcome usage

-- nor does a run that goes on
resume_saying_not : (ids : List (List ℕ)) (P : Plan) (J : List Entry) (end : ResumeEnd) → resume_saying ids P J end ≡ Err Usage → ⊥
resume_saying_not ids P J (resume_end.Outcome o) wrong = saying_not_usage Report ids P J o wrong
resume_saying_not ids P J (resume_end.OtherPlan n) wrong = cc
resume_saying_not ids P J (resume_end.OtherEntry n) wrong = cc
resume_saying_not ids P J (resume_end.Differs sim place kept heard) wrong = cc

saved_not_usage : (O : Outside) (wanted : Bool) (S : Scenario) (ranks : List ℕ) (old : Saved) (text : Result (List ℕ) Ending) (kept : Option (List ℕ)) → IsSavedOutcome O wanted S ranks old text kept → text ≡ Err Usage → ⊥
saved_not_usage O wanted S ranks old text kept (inl unrun) usage = said_not_usage _ text unrun.said (λ w. halt_not_usage (ids_of S) unrun.halt (ending_of (halt_ending (ids_of S) unrun.halt) Usage _ _ refl refl w)) usage
saved_not_usage O wanted S ranks old text kept (inr (inl rest)) usage = said_not_usage _ text rest.said (λ w. resume_saying_not (ids_of S) rest.plan rest.journal rest.end w) usage
saved_not_usage O wanted S ranks old text kept (inr (inr gone)) usage = said_not_usage _ text gone.said (λ w. resume_saying_not (ids_of S) gone.plan gone.journal gone.end w) usage

study_not_usage : (O : Outside) (wanted : Bool) (S : Scenario) (ranks recorded : List ℕ) (text : Result (List ℕ) Ending) (kept : Option (List ℕ)) → IsStudyOutcome O wanted S ranks recorded text kept → text ≡ Err Usage → ⊥
study_not_usage O wanted S ranks recorded text kept (inl none) usage = unread_not_usage recorded (subst (IsUnread recorded) (same_ending text none.ending none.is usage) none.cause)
study_not_usage O wanted S ranks recorded text kept (inr has) usage = saved_not_usage O wanted S ranks has.saved text kept has.outcome usage

pub resume_not_usage : (O : Outside) (wanted : Bool) (bytes recorded : List ℕ) (text : Result (List ℕ) Ending) (kept : Option (List ℕ)) → IsResumeOutcome O wanted bytes recorded text kept → text ≡ Err Usage → ⊥
resume_not_usage O wanted bytes recorded text kept (inl none) usage = unchecked_not_usage (map name_of O.kinds) bytes none.ending none.cause (same_ending text none.ending none.is usage)
resume_not_usage O wanted bytes recorded text kept (inr has) usage = study_not_usage O wanted has.study.scenario has.study.ranks recorded text kept has.outcome usage

-- nor does a run by a clock
pace_saying_not : (ids : List (List ℕ)) (P : Plan) (J : List Entry) (end : PaceEnd) → pace_saying ids P J end ≡ Err Usage → ⊥
pace_saying_not ids P J (pace_end.Outcome o) wrong = saying_not_usage Report ids P J o wrong
pace_saying_not ids P J (pace_end.Late sim time late allowed) wrong = cc

paced_scenario_not : (O : Outside) (factor : ℕ) (strict : Option ℕ) (wanted : Bool) (S : Scenario) (text : Result (List ℕ) Ending) (kept : Option (List ℕ)) → IsPacedScenario O factor strict wanted S text kept → text ≡ Err Usage → ⊥
paced_scenario_not O factor strict wanted S text kept (inl unready) usage = unrunnable_not_usage (map name_of O.kinds) S unready.ending unready.cause (same_ending text unready.ending unready.is usage)
paced_scenario_not O factor strict wanted S text kept (inr (inl unpaced)) usage = said_not_usage _ text unpaced.unrun.said (λ w. halt_not_usage (ids_of S) unpaced.unrun.halt (ending_of (halt_ending (ids_of S) unpaced.unrun.halt) Usage _ _ refl refl w)) usage
paced_scenario_not O factor strict wanted S text kept (inr (inr p)) usage = said_not_usage _ text p.said (λ w. pace_saying_not (ids_of S) p.plan p.journal p.end w) usage

pub paced_not_usage : (O : Outside) (factor : ℕ) (strict : Option ℕ) (wanted : Bool) (bytes : List ℕ) (text : Result (List ℕ) Ending) (kept : Option (List ℕ)) → IsPacedOutcome O factor strict wanted bytes text kept → text ≡ Err Usage → ⊥
paced_not_usage O factor strict wanted bytes text kept (inl none) usage = unchecked_not_usage (map name_of O.kinds) bytes none.ending (inl none.cause) (same_ending text none.ending none.is usage)
paced_not_usage O factor strict wanted bytes text kept (inr has) usage = paced_scenario_not O factor strict wanted has.scenario text kept has.outcome usage
