-- What the answers of a setup mean, by its state before and after.
use Rattle.std.specs.Prelude.{◌≡◌, ℕ, ◌<◌, ◌^◌, ◌⊎◌, true, false, length, Some, None, Ok, Err}
use Rattle.mk_base.specs.declared.SimNo.{SimNo}
use Rattle.mk_plan.specs.declared.Plan.{Plan}
use Rattle.mk_plan.specs.declared.Call.{Call}
use Rattle.mk_plan.specs.Journals.{Arrival}
use Rattle.mk_plan.specs.Plans.{IsValidPlan, first_id, sim_count}
use Rattle.mk_message.specs.Written.{is_call_in_range}
use Rattle.mk_run_laws.specs.Handshake.{setup_requests, setup_count}
use Rattle.mk_setup.specs.declared.answers.SetupNext.{SetupNext}
use Rattle.mk_setup.specs.declared.answers.SetupNext.TheVariants.{Request, Wait, Ready}
use Rattle.mk_setup.specs.declared.fault.SetupFault.{SetupFault}
use Rattle.mk_setup.specs.declared.fault.SetupFault.TheVariants.{Mem}
use Rattle.mk_setup.specs.Asking.{fault_before, plan_of, test_before}
use Rattle.mk_setup.specs.Replies.{after_reply}
use Rattle.mk_setup.specs.Requests.{id_before, request_of}
use Rattle.mk_setup.specs.Seen.{SetupState}

-- the next request, which passes its test, is made: it is this call of this simulator, and its id,
-- below 2^32, is how many went there before
pub record IsRequested (U : SetupState) (sim : SimNo) (call : Call) (id : ℕ)
    (V : SetupState) : Type 0 where
  pub going : U.fault ≡ None
  pub resting : U.asked ≡ false
  pub request : request_of U ≡ Some (record { sim = sim.0; call = call })
  pub there : sim.0 < length U.scenario.sims
  pub in_range : is_call_in_range call ≡ true
  pub tested : test_before U (request_of U) ≡ None
  pub numbered : id ≡ id_before U.scenario U.answered sim.0
  pub few : id < 2 ^ 32
  pub asked : V ≡ record U { asked = true }

-- a request is outstanding, and nothing has changed
pub record IsAwaitingReply (U V : SetupState) : Type 0 where
  pub going : U.fault ≡ None
  pub asked : U.asked ≡ true
  pub same : V ≡ U

-- all requests were answered, and this is the plan, which is valid: it has the scenario's simulators,
-- each one's first id is how many requests it got, and nothing has changed
pub record IsReady (U : SetupState) (P : Plan) (V : SetupState) : Type 0 where
  pub going : U.fault ≡ None
  pub resting : U.asked ≡ false
  pub all : U.answered ≡ length (setup_requests U.scenario)
  pub plan : plan_of U ≡ Ok P
  pub valid : IsValidPlan P
  pub sims : sim_count P ≡ length U.scenario.sims
  pub first : (i : ℕ) → i < length U.scenario.sims → first_id P i ≡ setup_count U.scenario i
  pub same : V ≡ U

-- what an answer to `next` means
abbrev pub NextOf : SetupState → SetupNext → SetupState → Type 0
NextOf U (Request sim call id) V = IsRequested U sim call id V
NextOf U Wait V = IsAwaitingReply U V
NextOf U (Ready P) V = IsReady U P V

-- want of memory, after which nothing has changed
abbrev pub IsUnchanged : SetupState → SetupFault → SetupState → Type 0
IsUnchanged U e V = (e ≡ Mem) × (V ≡ U)

-- the fault that stands in the way, no request being outstanding, or that was met before; it is
-- answered from now on
pub record IsBarred (U : SetupState) (e : SetupFault) (V : SetupState) : Type 0 where
  pub resting : U.fault ≡ None → U.asked ≡ false
  pub fault : fault_before U ≡ Some e
  pub lasts : V ≡ record U { fault = Some e }

-- why `next` gives nothing
abbrev pub GivesNoRequest : SetupState → SetupFault → SetupState → Type 0
GivesNoRequest U e V = IsUnchanged U e V ⊎ IsBarred U e V

-- the fault that the message makes, or that was met before; it is answered from now on
pub record IsFaulty (U : SetupState) (a : Arrival) (e : SetupFault) (V : SetupState) : Type 0 where
  pub fault : after_reply U a ≡ Err e
  pub lasts : V ≡ record U { fault = Some e }

-- why a message isn't taken
abbrev pub IsRefused : SetupState → Arrival → SetupFault → SetupState → Type 0
IsRefused U a e V = IsUnchanged U e V ⊎ IsFaulty U a e V
