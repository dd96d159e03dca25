-- For proofs alone. What one request of a handshake comes to, and a handshake so far.
use Rattle.std.specs.Prelude.{◌≡◌, ℕ, ◌+◌, ◌<◌, ◌⊎◌, true, false, List, [], ◌++◌, length, take, drop, filter_map, map, Option, Some, None, Ok}
use Rattle.mk_base.specs.declared.LinkNo.{LinkNo}
use Rattle.mk_base.specs.declared.SimNo.{SimNo}
use Rattle.mk_base.specs.Lists.{IsIn}
use Rattle.mk_frame.specs.Frames.{limit}
use Rattle.mk_message.specs.Written.{call_text}
use Rattle.mk_outside.specs.declared.fleet.LogEntry.{LogEntry}
use Rattle.mk_plan.specs.declared.Call.{Call}
use Rattle.mk_plan.specs.declared.Message.{Message}
use Rattle.mk_plan.specs.Sequential.{Messages}
use Rattle.mk_scenario.specs.declared.parts.Scenario.{Scenario}
use Rattle.mk_launch.specs.Ready.{IsPrepared}
use Rattle.mk_launch.specs.Starts.{places}
use Rattle.mk_run_crew.specs.Attempts.{Attempt}
use Rattle.mk_local.specs.declared.turn.Turn.{Turn}
use Rattle.mk_local.specs.Kinds.{name_of}
use Rattle.mk_run_laws.specs.Channels.{Channel, IsChannelAt, queued}
use Rattle.mk_run_laws.specs.Crews.{IsHeard, IsUnheard}
use Rattle.mk_run_laws.specs.Handshake.{Request, setup_requests, call_to, call_payloads, sim_link}
use Rattle.mk_run_laws.specs.Payloads.{IsFramed}
use Rattle.mk_run_laws.specs.inner.Running.{IsBetween}
use Rattle.mk_setup.specs.declared.fault.SetupFault.{SetupFault}
use Rattle.mk_setup.specs.declared.fault.SetupFault.TheVariants as fault
use Rattle.mk_setup.specs.Answers.{IsReady, IsRefused, IsRequested, GivesNoRequest}
use Rattle.mk_setup.specs.Handshakes.{IsReached}
use Rattle.mk_setup.specs.Replies.{after_reply, arrival}
use Rattle.mk_setup.specs.Seen.{SetupState}
use Rattle.mk_run_links.specs.declared.answers.LinkHalt.{LinkHalt}
use Rattle.mk_run_links.specs.Entries.{AreOn, IsRunLink}
use Rattle.mk_run_links.specs.Halts.{ShowsHalt}
use Rattle.mk_run_links.specs.Places.{IsChannelLink, IsSet, Channels, at, crew, new_channels}
use Rattle.mk_run_local.specs.Calls.{IsCalled}
use Rattle.mk_run_local.specs.Seen.{AreOf, new_within, sim_at}
use Rattle.mk_run_crew.specs.declared.asking.Stage.{Stage}
use Rattle.mk_run_crew.specs.declared.asking.Stage.TheVariants as stages
use Rattle.mk_run_crew.specs.declared.halt.Halt.{Halt}
use Rattle.mk_run_crew.specs.declared.halt.Halt.TheVariants as halt
use Rattle.mk_run_crew.specs.Answers.{answers_to, sim_after, AreKindAnswers}
use Rattle.mk_run_crew.specs.Begun.{HasBegun}
use Rattle.mk_run_crew.specs.Calls.{halt_of}
use Rattle.mk_run_crew.specs.Halted.{AreAnsweredButOne, RestRight, ShowsCause, count_to}
use Rattle.mk_run_crew.specs.Seen.{CrewSeen, within_of, is_here}

-- simulator i, within the program, answered at once
pub record AsksWithin (i : ℕ) (call : Call) (id from : ℕ) (m : Message) (entries : List LogEntry)
    (old new : CrewSeen) : Type 0 where
  pub here : is_here old i ≡ true
  pub same_sim : from ≡ i
  pub quiet : entries ≡ []
  pub called : IsCalled (within_of old) i id call m (within_of new)
  pub known : (rows : List Turn) → AreOf rows (within_of old) → AreOf rows (within_of new)
  pub channels : new.channels ≡ old.channels
  pub halt : new.halt ≡ old.halt

-- the request, whose payload a frame may have, was queued on the channel of simulator i, and this
-- message was heard of a link
pub record AsksOnLink (i : ℕ) (call : Call) (id from : ℕ) (m : Message) (entries : List LogEntry)
    (old new : CrewSeen) : Type 0 where
  pub away : is_here old i ≡ false
  pub mid : Channels
  pub channel : Channel
  pub set : IsSet i channel (queued (call_text id call) (id + 1) channel) old.channels mid
  pub framed : IsFramed (call_text id call)
  pub heard : IsHeard entries from m (crew mid) (crew new.channels)
  pub sims : new.sims ≡ old.sims
  pub kept : new.kept ≡ old.kept
  pub halt : new.halt ≡ None
  pub on_links : AreOn (IsChannelLink mid) entries

-- the answer to a request, or another message in its place
abbrev pub Asks : ℕ → Call → ℕ → ℕ → Message → List LogEntry → CrewSeen → CrewSeen → Type 0
Asks i call id from m entries old new = AsksWithin i call id from m entries old new
    ⊎ AsksOnLink i call id from m entries old new

-- the halt has the simulator of the request, and how many bytes its payload has, more than a frame may
pub record IsLongCall (h : Halt) (i : ℕ) (call : Call) (id : ℕ) : Type 0 where
  pub sim : SimNo
  pub bytes : ℕ
  pub is : h ≡ halt.LongItem sim bytes
  pub same_sim : sim.0 ≡ i
  pub length_is : bytes ≡ length (call_text id call)
  pub beyond : limit < bytes

-- why a link didn't take the request: its payload is longer than a frame may be, or memory was
-- wanting
abbrev pub IsUnqueued : Halt → ℕ → Call → ℕ → Type 0
IsUnqueued h i call id = (h ≡ halt.Mem) ⊎ IsLongCall h i call id

-- the request wasn't made
pub record AsksNot (h : Halt) (i : ℕ) (call : Call) (id : ℕ) (entries : List LogEntry)
    (old new : CrewSeen) : Type 0 where
  pub quiet : entries ≡ []
  pub same : new ≡ old
  pub cause : (h ≡ halt.Mem) ⊎ ((is_here old i ≡ false) × IsLongCall h i call id)

-- the request, whose payload a frame may have, was queued, and nothing was heard
pub record AsksInVain (h : Halt) (i : ℕ) (call : Call) (id : ℕ) (entries : List LogEntry)
    (old new : CrewSeen) : Type 0 where
  pub away : is_here old i ≡ false
  pub mid : Channels
  pub channel : Channel
  pub set : IsSet i channel (queued (call_text id call) (id + 1) channel) old.channels mid
  pub framed : IsFramed (call_text id call)
  pub why : LinkHalt
  pub is : h ≡ halt_of why
  pub unheard : IsUnheard entries (crew mid) (crew new.channels)
  pub shown : ShowsHalt why entries new.channels
  pub on_links : AreOn (IsChannelLink mid) entries

-- why no message was heard of a request: it wasn't made, or it was in vain
abbrev pub AsksFail : Halt → ℕ → Call → ℕ → List LogEntry → CrewSeen → CrewSeen → Type 0
AsksFail h i call id entries old new = AsksNot h i call id entries old new
    ⊎ AsksInVain h i call id entries old new

-- the halt that a fault of the handshake is
abbrev pub setup_halt : SetupFault → Halt
setup_halt (fault.Meta sim f) = halt.Setup (fault.Meta sim f)
setup_halt (fault.Create sim f) = halt.Setup (fault.Create sim f)
setup_halt (fault.Connect f) = halt.Setup (fault.Connect f)
setup_halt (fault.Unasked sim) = halt.Setup (fault.Unasked sim)
setup_halt (fault.Failed sim text) = halt.Setup (fault.Failed sim text)
setup_halt fault.Mem = halt.Mem

-- a request was made, and the setup took what came
pub record Answers (i : ℕ) (call : Call) (id : ℕ) (entries : List LogEntry) (old new : CrewSeen)
    (U V : SetupState) : Type 0 where
  pub from : SimNo
  pub message : Message
  pub asks : Asks i call id from.0 message entries old new
  pub taken : after_reply U (arrival from message) ≡ Ok V

-- the setup didn't take a message
pub record IsUntaken (h : Halt) (from : SimNo) (m : Message) (U : SetupState) : Type 0 where
  pub fault : SetupFault
  pub is : h ≡ setup_halt fault
  pub state : SetupState
  pub refused : IsRefused U (arrival from m) fault state

-- a request was made, and the setup didn't take what came
pub record IsNotTaken (h : Halt) (i : ℕ) (call : Call) (id : ℕ) (entries : List LogEntry)
    (old new : CrewSeen) (U : SetupState) : Type 0 where
  pub from : SimNo
  pub message : Message
  pub asks : Asks i call id from.0 message entries old new
  pub untaken : IsUntaken h from message U

-- or nothing came
abbrev pub AnswersNot : Type 0 → Halt → ℕ → Call → ℕ → List LogEntry → CrewSeen → CrewSeen
    → SetupState → Type 0
AnswersNot risen h i call id entries old new U = (AsksFail h i call id entries old new
    × (h ≡ halt.Fleet → risen)) ⊎ IsNotTaken h i call id entries old new U

-- the next request was made to a simulator within the program, and the setup took the reply
pub record IsStepped (old new : CrewSeen) (U V : SetupState) : Type 0 where
  pub sim : SimNo
  pub call : Call
  pub id : ℕ
  pub state : SetupState
  pub requested : IsRequested U sim call id state
  pub answers : Answers sim.0 call id [] old new state V

-- or it is to be made to one that isn't; or all were made, and this is the plan
abbrev pub StepsTo : Option Stage → CrewSeen → CrewSeen → SetupState → SetupState → Type 0
StepsTo None old new U V = IsStepped old new U V
StepsTo (Some (stages.Linked sim call id)) old new U V = (new ≡ old) × IsRequested U sim call id V
    × (is_here new sim.0 ≡ false)
StepsTo (Some (stages.Planned P)) old new U V = (new ≡ old) × IsReady U P V

-- the next request was made to a simulator within the program, in vain
pub record IsStuck (h : Halt) (old new : CrewSeen) (U : SetupState) : Type 0 where
  pub sim : SimNo
  pub call : Call
  pub id : ℕ
  pub state : SetupState
  pub requested : IsRequested U sim call id state
  pub failed : AnswersNot ⊥ h sim.0 call id [] old new state

-- or it can't be made
pub record IsUnmade (h : Halt) (old new : CrewSeen) (U : SetupState) : Type 0 where
  pub fault : SetupFault
  pub is : h ≡ setup_halt fault
  pub same : new ≡ old
  pub state : SetupState
  pub unready : GivesNoRequest U fault state

-- why a step came to nothing
abbrev pub StepsNot : Halt → CrewSeen → CrewSeen → SetupState → Type 0
StepsNot h old new U = IsStuck h old new U ⊎ IsUnmade h old new U

-- a crew before its first request: the links, so many having been started before, are open, and
-- their channels are new; and no simulator within the program has been asked
pub record IsNewCrew (started : ℕ) (rows : List Turn) (S : Scenario) (open_links : List LinkNo)
    (C : CrewSeen) : Type 0 where
  pub places : C.places ≡ places started S.sims
  pub channels : C.channels ≡ new_channels C.places
  pub within : within_of C ≡ new_within rows S
  pub known : AreOf rows (within_of C)
  pub halt : C.halt ≡ None
  pub are_open : (i : ℕ) (l : LinkNo) → sim_link started S i ≡ Some l → IsIn l open_links

-- the crew after these answers: what was heard, asked and kept is theirs, and there is no halt
pub record IsAnswered (started : ℕ) (S : Scenario) (rows : List Turn) (log : List LogEntry)
    (answers : List Message) (C : CrewSeen) : Type 0 where
  pub replies : Messages
  pub between : IsBetween started S replies log (crew C.channels)
      (take (length answers) (setup_requests S)) (drop (length answers) (setup_requests S))
  pub told : (i : ℕ) (l : LinkNo) → sim_link started S i ≡ Some l
      → replies i ≡ answers_to i (setup_requests S) answers
  pub kinds : AreKindAnswers rows S answers
  pub sims : (i : ℕ) → sim_at (within_of C) i ≡ sim_after rows S (length answers) i
  pub known : AreOf rows (within_of C)
  pub back : (i : ℕ) (w : Channel) → at C.channels i ≡ Some w → (l : LinkNo)
      × (sim_link started S i ≡ Some l)
  pub kept : C.kept ≡ []
  pub halt : C.halt ≡ None
  pub places : C.places ≡ places started S.sims
  pub on_links : AreOn (IsRunLink started S) log

-- the handshake of the attempt so far: over its log the setup and the crew have come about together
-- by the answers
pub record GoesSoFar (A : Attempt) (C : CrewSeen) (U : SetupState) : Type 0 where
  pub prepared : IsPrepared A.scenario (map name_of A.rows)
  pub answers : List Message
  pub reached : IsReached A.scenario A.ranks answers U
  pub resting : U.asked ≡ false
  pub answered : IsAnswered A.started A.scenario A.rows A.log answers C

-- it has come so far, and the next request was made, to a simulator that isn't within the program,
-- and has a channel
pub record IsLinkNext (A : Attempt) (sim : SimNo) (call : Call) (id : ℕ) (C : CrewSeen)
    (V : SetupState) : Type 0 where
  pub state : SetupState
  pub so_far : GoesSoFar A C state
  pub requested : IsRequested state sim call id V
  pub away : is_here C sim.0 ≡ false
  pub channel : (w : Channel) × (at C.channels sim.0 ≡ Some w)

-- how far it comes without a link
abbrev pub ComesTo : Attempt → Stage → CrewSeen → SetupState → Type 0
ComesTo A (stages.Linked sim call id) C V = IsLinkNext A sim call id C V
ComesTo A (stages.Planned P) C V = HasBegun A C P

-- the channel of each link has come so far, these requests having been queued
abbrev pub AreAt : ℕ → Scenario → List LogEntry → List Request → Channels → Type 0
AreAt started S log queued L = (i : ℕ) (l : LinkNo) → sim_link started S i ≡ Some l
    → (ms : List Message) × (w : Channel) × (at L i ≡ Some w) × (w.link ≡ l)
    × IsChannelAt log ms (call_payloads 0 (filter_map (call_to i) queued)) (count_to i queued) w

-- the handshake has ended early, and the crew is still to be stopped
pub record IsHalting (A : Attempt) (risen : Type 0) (h : Halt) (C : CrewSeen) : Type 0 where
  pub queued : List Request
  pub later : List Request
  pub parts : setup_requests A.scenario ≡ queued ++ later
  pub channels : AreAt A.started A.scenario A.log queued C.channels
  pub back : (i : ℕ) (w : Channel) → at C.channels i ≡ Some w → (l : LinkNo)
      × (sim_link A.started A.scenario i ≡ Some l)
  pub rests : RestRight A.started A.scenario A.log
  pub cause : ShowsCause A risen queued later h
  pub answered : AreAnsweredButOne A queued
  pub on_links : AreOn (IsRunLink A.started A.scenario) A.log
