-- For proofs alone. What stands of a run from the end of its handshake on, and when it has ended.
use Rattle.std.specs.Prelude.{◌≡◌, ◌==◌, ℕ, ◌<◌, ◌⊎◌, if◌then◌else◌, true, false, List, [], ◌∷◌, ◌++◌, length, Option, Some, None, option_and_then, slice_get}
use Rattle.mk_base.specs.declared.LinkNo.{LinkNo}
use Rattle.mk_base.specs.declared.SimNo.{SimNo}
use Rattle.mk_base.specs.Lists.{BeginsWith}
use Rattle.mk_plan.specs.declared.Plan.{Plan}
use Rattle.mk_plan.specs.declared.Item.{Item}
use Rattle.mk_plan.specs.declared.Message.{Message}
use Rattle.mk_plan.specs.declared.Entry.{Entry}
use Rattle.mk_plan.specs.declared.Entry.TheVariants.{Got}
use Rattle.mk_plan.specs.Plans.{sim_count, first_id}
use Rattle.mk_plan.specs.Journals.{Arrival, view, sent, got}
use Rattle.mk_plan.specs.Ready.{IsDone}
use Rattle.mk_plan.specs.Sequential.{Messages}
use Rattle.mk_scenario.specs.declared.parts.Scenario.{Scenario}
use Rattle.mk_outside.specs.declared.fleet.LogEntry.{LogEntry}
use Rattle.mk_sched.specs.Cores.{Stands}
use Rattle.mk_sched.specs.Answers.{SomeOpen, SomeReady}
use Rattle.mk_sched.specs.inner.Patient.{IsPatient}
use Rattle.mk_local.specs.declared.turn.Turn.{Turn}
use Rattle.mk_local.specs.Simulators.{Simulator}
use Rattle.mk_run_laws.specs.Hearing.{first_message}
use Rattle.mk_run_laws.specs.Handshake.{setup_count, sim_link, is_within}
use Rattle.mk_run_laws.specs.Channels.{Channel}
use Rattle.mk_run_laws.specs.Kinds.{Replies, KeepsToKinds}
use Rattle.mk_run_laws.specs.Crews.{CrewState, channel_at, IsHeard}
use Rattle.mk_run_laws.specs.Running.{RestsEnd}
use Rattle.mk_run_laws.specs.inner.Running.{HasChannel, IsRunning}
use Rattle.mk_run_links.specs.Entries.{AreOn, IsRunLink}
use Rattle.mk_run_local.specs.Calls.{IsFitSuccess}
use Rattle.mk_run_local.specs.Laws.{HasCome}
use Rattle.mk_run_local.specs.Made.{kind_reply_of}
use Rattle.mk_run.specs.declared.outcome.Outcome.{Outcome}
use Rattle.mk_onlooker.specs.Showings.{AreInRange}
use Rattle.mk_run.specs.Ends.{QueuedAll, IsAwaiting, IsBrokenOff, IsOpenWithin, IsFull, IsLongItem, SetupRestsWell, fault_named}
use Rattle.mk_run.specs.inner.Shown.{EndsAs}
use Rattle.mk_run_laws.specs.Exchanges.{Exchange, exchange}

-- how many links were started before the run, its scenario, the kinds at hand, the replies of each
-- simulator to its handshake, and the plan that these make
pub record Setting : Type 0 where
  pub started : ℕ
  pub scenario : Scenario
  pub rows : List Turn
  pub replies : Messages
  pub plan : Plan

-- what the kinds reply
abbrev pub reply_in : Setting → Replies
reply_in T = kind_reply_of T.rows T.scenario

-- what passes between the run and the simulators, by the log
abbrev pub exchange_at : Setting → List LogEntry → Exchange
exchange_at T log = exchange T.started T.scenario (reply_in T) log

-- the plan is that of the setting: it has the scenario's simulators, and each one's run begins
-- behind its handshake
pub record Suits (T : Setting) (P : Plan) : Type 0 where
  pub same : P ≡ T.plan
  pub sims : sim_count P ≡ length T.scenario.sims
  pub first : (i : ℕ) → i < sim_count P → first_id P i ≡ setup_count T.scenario i
  pub counts : (i : ℕ) (l : LinkNo) → sim_link T.started T.scenario i ≡ Some l
      → length (T.replies i) ≡ setup_count T.scenario i

-- each channel is that of a simulator with a link
abbrev pub HasNoOther : Setting → CrewState → Type 0
HasNoOther T C = (i : ℕ) (w : Channel) → channel_at C i ≡ Some w → (l : LinkNo)
    × (sim_link T.started T.scenario i ≡ Some l)

-- simulator i, if it is within the program
abbrev pub local_at : List (Option Simulator) → ℕ → Option Simulator
local_at sims i = option_and_then (λ (o : Option Simulator). o) (slice_get sims i)

-- each simulator within the program has come on by these items
abbrev pub HaveComeBy : Setting → (ℕ → List Item) → List (Option Simulator) → Type 0
HaveComeBy T items sims = (i : ℕ) → is_within T.scenario i ≡ true → (L : Simulator)
    × (local_at sims i ≡ Some L) × HasCome T.rows T.scenario i (items i) L

-- no simulator with a link is within the program
abbrev pub IsOnlyWithin : Setting → List (Option Simulator) → Type 0
IsOnlyWithin T sims = (i : ℕ) → is_within T.scenario i ≡ false → local_at sims i ≡ None

-- one simulator has this, the others have what they had
abbrev pub put : {X : Type 0} → (ℕ → X) → ℕ → X → ℕ → X
put f s x i = if i == s then x else f i

-- each simulator within the program has come on by the items that the journal sent it
abbrev pub HaveCome : Setting → List Entry → List (Option Simulator) → Type 0
HaveCome T J = HaveComeBy T (sent J)

-- over this log each rest of the handshake is right, and no link but the run's was read or written
pub record IsLogRight (T : Setting) (log : List LogEntry) : Type 0 where
  pub setup_rests : SetupRestsWell T.started T.scenario log
  pub on_links : AreOn (IsRunLink T.started T.scenario) log

-- the journal, the log and the crew have come about together, and there is no fault
pub record IsUnderway (T : Setting) (P : Plan) (J : List Entry) (log : List LogEntry)
    (C : CrewState) (sims : List (Option Simulator)) : Type 0 where
  pub suits : Suits T P
  pub stands : Stands P J
  pub patient : IsPatient P J
  pub in_range : AreInRange J
  pub no_fault : (view P J).fault ≡ None
  pub running : IsRunning T.started T.scenario T.replies (reply_in T) P J log C
  pub no_other : HasNoOther T C
  pub come : HaveCome T J sims
  pub only_within : (i : ℕ) → is_within T.scenario i ≡ false → local_at sims i ≡ None
  pub log_right : IsLogRight T log

-- some request was open, nobody was ready, and a message was heard that the core hasn't taken: the
-- oldest reply that was kept, which is a success, or a message of a link
pub record HasHeard (T : Setting) (P : Plan) (J : List Entry) (log : List LogEntry) (s : ℕ)
    (m : Message) (D : CrewState) (sims : List (Option Simulator)) : Type 0 where
  pub before : List LogEntry
  pub entries : List LogEntry
  pub parts : log ≡ before ++ entries
  pub crew : CrewState
  pub underway : IsUnderway T P J before crew sims
  pub opened : SomeOpen P J
  pub nobody : SomeReady P J → ⊥
  pub heard : IsHeard entries s m crew D
  pub fit : (k : Arrival) (more : List Arrival) → crew.kept ≡ k ∷ more → IsFitSuccess m
  pub on_links : AreOn (IsRunLink T.started T.scenario) entries

-- a channel at the end: the messages that it gave go on from those of the journal, and the items
-- queued on it are the first of the journal's
pub record IsLastChannel (T : Setting) (J : List Entry) (log : List LogEntry) (C : CrewState)
    (end : Outcome) (i : ℕ) (l : LinkNo) : Type 0 where
  pub messages : List Message
  pub items : List Item
  pub channel : HasChannel T.scenario T.replies log i l messages items C
  pub given : BeginsWith messages (got J i)
  pub queued : BeginsWith (sent J i) items
  pub queued_all : QueuedAll end (sent J i) items

-- the channel of simulator i gave all messages that the journal got, and holds no further one
pub record HasGiven (T : Setting) (J : List Entry) (log : List LogEntry) (C : CrewState) (i : ℕ)
    (l : LinkNo) : Type 0 where
  pub linked : sim_link T.started T.scenario i ≡ Some l
  pub channel : HasChannel T.scenario T.replies log i l (got J i) (sent J i) C
  pub none_held : first_message channel.channel.held ≡ None

-- a message was heard on a link that the journal hasn't got: the channel gave it behind those that
-- the journal got
pub record IsAhead (T : Setting) (J : List Entry) (log : List LogEntry)
    (C : CrewState) : Type 0 where
  pub sim : SimNo
  pub message : Message
  pub link : LinkNo
  pub linked : sim_link T.started T.scenario sim.0 ≡ Some link
  pub channel : HasChannel T.scenario T.replies log sim.0 link
      (got (J ++ Got sim message ∷ []) sim.0)
      (sent (J ++ Got sim message ∷ []) sim.0) C

-- what the outcome shows before the run is stopped
abbrev pub EndsBy : Type 0 → Setting → Plan → List Entry → List LogEntry → CrewState → Outcome
    → Type 0
EndsBy risen T P J log C = EndsAs risen (IsDone P (view P J))
    (λ f. IsFull P J f (IsAhead T J log C ⊎ IsOpenWithin T.scenario P J)) (HasGiven T J log C)
    (λ i l g. g.channel.channel.held) (IsLongItem T.started T.scenario P J) P J log

-- the run has come to its outcome, and its crew is still to be stopped
pub record HasEnded (risen : Type 0) (T : Setting) (P : Plan) (J : List Entry) (log : List LogEntry)
    (C : CrewState) (end : Outcome) : Type 0 where
  pub suits : Suits T P
  pub stands : Stands P J
  pub patient : IsPatient P J
  pub in_range : AreInRange J
  pub kinds : KeepsToKinds (reply_in T) (is_within T.scenario) P J
  pub channels : (i : ℕ) (l : LinkNo) → sim_link T.started T.scenario i ≡ Some l
      → IsLastChannel T J log C end i l
  pub no_other : HasNoOther T C
  pub rests : RestsEnd T.started T.scenario T.replies P J log
  pub log_right : IsLogRight T log
  pub ends : EndsBy risen T P J log C end
  pub fault : (view P J).fault ≡ fault_named end
  pub unfinished : IsBrokenOff end → IsAwaiting P J
