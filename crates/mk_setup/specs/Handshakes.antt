-- What replies make of a scenario, each of them after its request.
use Rattle.std.specs.Prelude.{◌≡◌, ◌⊎◌, ℕ, false, List, [], length, fold, Option, Some, None, option_map, unwrap_or, Result, Ok, Err}
use Rattle.mk_base.specs.Verdicts.{passed}
use Rattle.mk_plan.specs.declared.Plan.{Plan}
use Rattle.mk_plan.specs.declared.Message.{Message}
use Rattle.mk_plan.specs.Journals.{Arrival}
use Rattle.mk_scenario.specs.declared.parts.Scenario.{Scenario}
use Rattle.mk_run_laws.specs.Handshake.{Request, setup_requests}
use Rattle.mk_setup.specs.declared.fault.SetupFault.{SetupFault}
use Rattle.mk_setup.specs.Asking.{after_asking, plan_of}
use Rattle.mk_setup.specs.Replies.{after_reply}
use Rattle.mk_setup.specs.Requests.{request_of}
use Rattle.mk_setup.specs.Seen.{SetupState}

-- before any request
abbrev pub begun : Scenario → List ℕ → SetupState
begun S ranks = record {
  scenario = S;
  ranks = ranks;
  metas = [];
  entities = [];
  answered = 0;
  asked = false;
  fault = None;
}

-- the simulator that the next request goes to; 0 where there is none, and any message is a fault
abbrev pub next_sim : SetupState → ℕ
next_sim U = unwrap_or (option_map (λ (r : Request). r.sim) (request_of U)) 0

-- the state after this message of that simulator, or the fault that it makes
abbrev pub after_answer : Message → SetupState → Result SetupState SetupFault
after_answer message U = after_reply U (record { sim = next_sim U; message = message })

-- one more request is made, and this is the reply
abbrev pub answering : Result SetupState SetupFault → Message → Result SetupState SetupFault
answering verdict message = passed (passed verdict after_asking) (after_answer message)

-- the state after the first requests, these being the replies to them, or the first fault
abbrev pub reached : Scenario → List ℕ → List Message → Result SetupState SetupFault
reached S ranks answers = fold answering (Ok (begun S ranks)) answers

-- the same, and the request after them made
abbrev pub asked_after : Scenario → List ℕ → List Message → Result SetupState SetupFault
asked_after S ranks answers = passed (reached S ranks answers) after_asking

-- the replies lead to this state, or so does the request that is made after them
abbrev pub IsReached : Scenario → List ℕ → List Message → SetupState → Type 0
IsReached S ranks answers U = (reached S ranks answers ≡ Ok U)
    ⊎ (asked_after S ranks answers ≡ Ok U)

-- these are the replies to all requests, and this is the plan of what they leave
pub record IsMade (S : Scenario) (ranks : List ℕ) (answers : List Message) (P : Plan) : Type 0 where
  pub all : length answers ≡ length (setup_requests S)
  pub state : SetupState
  pub reached : reached S ranks answers ≡ Ok state
  pub plan : plan_of state ≡ Ok P

-- after these replies the next request can't be made, or no plan
pub record IsStuckAfter (S : Scenario) (ranks : List ℕ) (answers : List Message)
    (fault : SetupFault) : Type 0 where
  pub state : SetupState
  pub reached : reached S ranks answers ≡ Ok state
  pub why : after_asking state ≡ Err fault

-- after these replies the next request was made, and the message that came makes the fault
pub record IsRefusedAfter (S : Scenario) (ranks : List ℕ) (answers : List Message) (a : Arrival)
    (fault : SetupFault) : Type 0 where
  pub state : SetupState
  pub asked : asked_after S ranks answers ≡ Ok state
  pub why : after_reply state a ≡ Err fault

-- why no plan is made: by the replies so far alone, or by the message that came after them
abbrev pub IsFaultyAfter : Scenario → List ℕ → List Message → Option Arrival → SetupFault → Type 0
IsFaultyAfter S ranks answers None fault = IsStuckAfter S ranks answers fault
IsFaultyAfter S ranks answers (Some a) fault = IsRefusedAfter S ranks answers a fault
