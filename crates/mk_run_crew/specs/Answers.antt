-- The answers to the requests of a handshake, and what was heard of them.
use Rattle.std.specs.Prelude.{◌≡◌, ℕ, ◌==◌, true, false, List, [], ◌∷◌, ◌++◌, length, take, map, filter_map, fold, Option, Some, IfSome, slice_get, option_map, option_to_list, if◌then◌else◌}
use Rattle.mk_base.specs.declared.LinkNo.{LinkNo}
use Rattle.mk_base.specs.Lists.{BeginsWith}
use Rattle.mk_outside.specs.declared.fleet.LogEntry.{LogEntry}
use Rattle.mk_outside.specs.Logs.{heard_on}
use Rattle.mk_plan.specs.declared.Message.{Message}
use Rattle.mk_plan.specs.Journals.{Arrival}
use Rattle.mk_scenario.specs.declared.parts.Scenario.{Scenario}
use Rattle.mk_local.specs.declared.turn.Turn.{Turn}
use Rattle.mk_local.specs.Calls.{after_call, call_reply}
use Rattle.mk_local.specs.Simulators.{Simulator}
use Rattle.mk_run_laws.specs.Crews.{kept_of}
use Rattle.mk_run_laws.specs.Handshake.{Request, setup_requests, call_to, sim_link, is_within}
use Rattle.mk_run_laws.specs.Hearing.{messages_heard}
use Rattle.mk_setup.specs.Requests.{id_before}
use Rattle.mk_run_local.specs.Made.{first_at}

-- of the answers to these requests, one after another, those of simulator i
abbrev pub answers_to : ℕ → List Request → List Message → List Message
answers_to i [] answers = []
answers_to i (r ∷ requests) [] = []
answers_to i (r ∷ requests) (m ∷ answers) = if r.sim == i then m ∷ answers_to i requests answers
    else answers_to i requests answers

-- simulator i after those of the first k requests that go to it, if it is within the program
abbrev pub sim_after : List Turn → Scenario → ℕ → ℕ → Option Simulator
sim_after rows S k i = option_map
    (λ (L : Simulator). fold after_call L (filter_map (call_to i) (take k (setup_requests S))))
    (first_at rows S i)

-- the message is the reply of the request's simulator, within the program, to request number k
pub record IsKindAnswer (rows : List Turn) (S : Scenario) (k : ℕ) (r : Request)
    (m : Message) : Type 0 where
  pub sim : Simulator
  pub before : sim_after rows S k r.sim ≡ Some sim
  pub reply : call_reply sim (id_before S k r.sim) r.call ≡ Some m

-- each answer of a simulator within the program is its kind's
abbrev pub AreKindAnswers : List Turn → Scenario → List Message → Type 0
AreKindAnswers rows S answers = (k : ℕ) (r : Request) (m : Message)
    → slice_get (setup_requests S) k ≡ Some r → slice_get answers k ≡ Some m
    → is_within S r.sim ≡ true → IsKindAnswer rows S k r m

-- while request number k awaits its reply, this message may come: one of its own simulator, where that
-- is within the program, and else one of a simulator with a link
pub record ComesAt (started : ℕ) (S : Scenario) (k : ℕ) (a : Arrival) : Type 0 where
  pub request : Request
  pub awaiting : slice_get (setup_requests S) k ≡ Some request
  pub within : is_within S request.sim ≡ true → a.sim ≡ request.sim
  pub on_link : is_within S request.sim ≡ false
      → (l : LinkNo) × (sim_link started S a.sim ≡ Some l)

-- the answers to the first requests, and the message that came last if it was none, are the first
-- that were heard on each link, and those of kinds; that message came while the request behind the
-- answered ones awaited its reply
pub record AreHeard (started : ℕ) (S : Scenario) (rows : List Turn) (log : List LogEntry)
    (answers : List Message) (last : Option Arrival) : Type 0 where
  pub links : (i : ℕ) (l : LinkNo) → sim_link started S i ≡ Some l
      → BeginsWith (messages_heard (heard_on l log)) (answers_to i (setup_requests S) answers
      ++ kept_of i (option_to_list last))
  pub kinds : AreKindAnswers rows S (answers
      ++ map (λ (a : Arrival). a.message) (option_to_list last))
  pub came : IfSome last (ComesAt started S (length answers))
