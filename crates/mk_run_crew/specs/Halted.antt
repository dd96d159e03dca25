-- What is left where a crew doesn't begin, and why it doesn't.
use Rattle.std.specs.Prelude.{◌≡◌, ℕ, suc, ◌<◌, ◌≤◌, List, [], ◌∷◌, ◌++◌, length, take, filter_map, Option, Some, None, ⊤, true}
use Rattle.mk_base.specs.declared.LinkNo.{LinkNo}
use Rattle.mk_base.specs.Lists.{BeginsWith, IsIn}
use Rattle.mk_frame.specs.Frames.{IsTooLong, frames_of, limit}
use Rattle.mk_message.specs.Written.{call_text}
use Rattle.mk_outside.specs.declared.fleet.LogEntry.{LogEntry}
use Rattle.mk_outside.specs.declared.fleet.LogEntry.TheVariants.{Ended, Rest}
use Rattle.mk_outside.specs.Logs.{heard_on, said_on}
use Rattle.mk_run_crew.specs.Attempts.{Attempt}
use Rattle.mk_plan.specs.declared.Message.{Message}
use Rattle.mk_plan.specs.Journals.{Arrival}
use Rattle.mk_scenario.specs.declared.parts.Scenario.{Scenario}
use Rattle.mk_session.specs.Fronts.{BeginsGarbled}
use Rattle.mk_run_laws.specs.Exchanges.{exchange}
use Rattle.mk_run_laws.specs.Handshake.{Request, setup_requests, call_payloads, call_to, sim_link}
use Rattle.mk_run_laws.specs.Hearing.{rest_heard}
use Rattle.mk_run_laws.specs.Kinds.{Replies}
use Rattle.mk_run_laws.specs.Rests.{AllSetUp, IsWellInSetup}
use Rattle.mk_run_laws.specs.Runs.{SaysRight, SaidWhole}
use Rattle.mk_run_links.specs.Entries.{AreOnOrOfClock, IsRunLink}
use Rattle.mk_setup.specs.declared.fault.SetupFault.{SetupFault}
use Rattle.mk_setup.specs.Handshakes.{IsFaultyAfter}
use Rattle.mk_run_crew.specs.declared.halt.Halt.{Halt}
use Rattle.mk_run_crew.specs.declared.halt.Halt.TheVariants as halt
use Rattle.mk_run_crew.specs.Answers.{AreHeard}

-- how many of these requests go to simulator i
abbrev pub count_to : ℕ → List Request → ℕ
count_to i requests = length (filter_map (call_to i) requests)

-- of the first k requests, and of no later one, was said what there is on each link
abbrev pub IsAskedUpTo : ℕ → Scenario → List LogEntry → ℕ → Type 0
IsAskedUpTo started S log k = (i : ℕ) (l : LinkNo) → sim_link started S i ≡ Some l
    → BeginsWith (frames_of (call_payloads 0
    (filter_map (call_to i) (take k (setup_requests S))))) (said_on l log)

-- how many requests were made, these being the answers: one more where a message came that is none
abbrev pub made_by : List Message → Option Arrival → ℕ
made_by answers None = length answers
made_by answers (Some a) = suc (length answers)

-- what was heard makes this fault of the handshake; when that was heard, no request was said behind
-- the one that awaited its reply
pub record IsSetupFault (A : Attempt) (fault : SetupFault) : Type 0 where
  pub answers : List Message
  pub last : Option Arrival
  pub faulty : IsFaultyAfter A.scenario A.ranks answers last fault
  pub before : List LogEntry
  pub after : List LogEntry
  pub parts : A.log ≡ before ++ after
  pub heard : AreHeard A.started A.scenario A.rows before answers last
  pub asked : IsAskedUpTo A.started A.scenario before (made_by answers last)

-- what was heard makes this fault of the handshake, and no request was queued but those that were
-- made by then
abbrev pub IsFoundAtOnce : Attempt → List Request → SetupFault → Type 0
IsFoundAtOnce A queued fault = (s : IsSetupFault A fault)
    × (queued ≡ take (made_by s.answers s.last) (setup_requests A.scenario))

-- the payload of the first of the requests that are left, to simulator s with a link, has n bytes,
-- which is more than a frame may have
pub record IsLongRequest (started : ℕ) (S : Scenario) (queued later : List Request)
    (s n : ℕ) : Type 0 where
  pub now : Request
  pub more : List Request
  pub first : later ≡ now ∷ more
  pub sim : now.sim ≡ s
  pub link : LinkNo
  pub linked : sim_link started S s ≡ Some link
  pub bytes : n ≡ length (call_text (count_to s queued) now.call)
  pub beyond : limit < n

-- why there is no crew: the handshake has a fault, after which nothing more was asked; the count of
-- faults rose; a link ended, or what came on it behind its messages begins with something else; a
-- request was too long; or memory was wanting
abbrev pub ShowsCause : Attempt → Type 0 → List Request → List Request → Halt → Type 0
ShowsCause A risen queued later (halt.Setup fault) = IsFoundAtOnce A queued fault
ShowsCause A risen queued later halt.Fleet = risen
ShowsCause A risen queued later (halt.Gone sim) = (l : LinkNo)
    × (sim_link A.started A.scenario sim.0 ≡ Some l) × IsIn (Ended l) A.log
ShowsCause A risen queued later (halt.Garbled sim test) = (l : LinkNo)
    × (sim_link A.started A.scenario sim.0 ≡ Some l)
    × BeginsGarbled (rest_heard (heard_on l A.log)) test
ShowsCause A risen queued later (halt.LongFrame sim n) = (l : LinkNo)
    × (sim_link A.started A.scenario sim.0 ≡ Some l) × IsTooLong n (rest_heard (heard_on l A.log))
ShowsCause A risen queued later (halt.LongItem sim n) = IsLongRequest A.started A.scenario queued
    later sim.0 n
ShowsCause A risen queued later halt.Mem = ⊤

-- where the fleet rested, what was asked by then had been said, and not all had set up
abbrev pub RestRight : ℕ → Scenario → List LogEntry → Type 0
RestRight started S log = (before after : List LogEntry) → log ≡ before ++ Rest ∷ after
    → IsWellInSetup started S before × (AllSetUp started S before → ⊥)

-- of the requests that were queued all but one at most have answers, which were heard in their order
pub record AreAnsweredButOne (A : Attempt) (queued : List Request) : Type 0 where
  pub answers : List Message
  pub heard : AreHeard A.started A.scenario A.rows A.log answers None
  pub but_one : length queued ≤ suc (length answers)

-- the handshake ended early: on each link a beginning of the frames of the first requests and of a
-- stop was said, none with a payload longer than a frame's may be, and all of it, unless a write
-- took nothing or the count of faults rose, or memory was wanting before anything was said or heard
-- on any link; where the fleet rested, what was asked by then had been said, and not all had set
-- up; no link but the run's was read or written; the halt shows its cause; and at most one request
-- was queued to which no answer was heard
pub record HasHalted (A : Attempt) (risen : Type 0) (h : Halt) : Type 0 where
  pub queued : List Request
  pub later : List Request
  pub parts : setup_requests A.scenario ≡ queued ++ later
  pub says : (reply : Replies) (i : ℕ) (l : LinkNo) → sim_link A.started A.scenario i ≡ Some l
      → SaysRight (exchange A.started A.scenario reply A.log) None i l (count_to i queued) [] true
  pub whole : ((h ≡ halt.Mem) × (A.log ≡ []) → ⊥) → (i : ℕ) (l : LinkNo)
      → sim_link A.started A.scenario i ≡ Some l
      → SaidWhole A.scenario A.log risen i l (count_to i queued) []
  pub rests : RestRight A.started A.scenario A.log
  pub cause : ShowsCause A risen queued later h
  pub answered : AreAnsweredButOne A queued
  pub on_links : AreOnOrOfClock (IsRunLink A.started A.scenario) A.log
