-- For proofs alone. Beside `Running`, which has what a reader needs.
use Rattle.std.specs.Prelude.{◌≡◌, ℕ, true, ◌&&◌, List, [], ◌∷◌, ◌++◌, length, map, filter_map, Some, None, is_some, if◌then◌else◌}
use Rattle.mk_base.specs.declared.LinkNo.{LinkNo}
use Rattle.mk_base.specs.declared.tier.Tier.{Tier}
use Rattle.mk_plan.specs.declared.Plan.{Plan}
use Rattle.mk_plan.specs.declared.Item.{Item}
use Rattle.mk_plan.specs.declared.Message.{Message}
use Rattle.mk_plan.specs.declared.Entry.{Entry}
use Rattle.mk_plan.specs.Journals.{view, sent, got, bare}
use Rattle.mk_plan.specs.Ready.{IsReady}
use Rattle.mk_plan.specs.Sequential.{Messages}
use Rattle.mk_scenario.specs.declared.parts.Scenario.{Scenario}
use Rattle.mk_outside.specs.declared.fleet.LogEntry.{LogEntry}
use Rattle.mk_outside.specs.declared.fleet.LogEntry.TheVariants.{Rest}
use Rattle.mk_run_laws.specs.Handshake.{Request, setup_requests, call_to, call_payloads, sim_link, is_within}
use Rattle.mk_run_laws.specs.Channels.{Channel, IsChannelAt}
use Rattle.mk_run_laws.specs.Kinds.{Replies, KeepsToKinds}
use Rattle.mk_run_laws.specs.Rests.{AllSetUp, IsWellInSetup}
use Rattle.mk_run_laws.specs.Crews.{CrewState, channel_at, kept_of}
use Rattle.mk_run_laws.specs.Running.{IsInStep, IsRestOf, BeginsOnLink}

-- the channel is there, and has given what the journal got and was sent
pub record HasChannel (S : Scenario) (replies : Messages) (log : List LogEntry) (i : ℕ)
    (l : LinkNo) (messages : List Message) (items : List Item) (C : CrewState) : Type 0 where
  pub channel : Channel
  pub there : channel_at C i ≡ Some channel
  pub link : channel.link ≡ l
  pub in_step : IsInStep S replies log i messages items channel

-- the reply that is awaited of simulator i, if it runs within the program and a request is open at
-- it
abbrev pub awaited : Scenario → Replies → Plan → List Entry → ℕ → List Message
awaited S reply P J i = if is_within S i && is_some ((view P J).open_at i)
    then reply i (map bare (sent J i)) ∷ [] else []

-- each rest at which all had set up is one of the journal, and after it a message of a link came
abbrev pub RestsOver : ℕ → Scenario → Messages → Plan → List Entry → List LogEntry → Type 0
RestsOver started S replies P J log = (before after : List LogEntry) → log ≡ before ++ Rest ∷ after
    → AllSetUp started S before
    → (r : IsRestOf started S replies P J before) × BeginsOnLink started S r.more

-- the crew and the journal J have come about together over the log, and these replies are kept
pub record IsRunningWith (awaits : ℕ
    → List Message) (started : ℕ) (S : Scenario) (replies : Messages) (reply : Replies)
    (P : Plan) (J : List Entry) (log : List LogEntry) (C : CrewState) : Type 0 where
  pub channels : (i : ℕ) (l : LinkNo) → sim_link started S i ≡ Some l
      → HasChannel S replies log i l (got J i) (sent J i) C
  pub no_channel : (i : ℕ) → is_within S i ≡ true → channel_at C i ≡ None
  pub kept : (i : ℕ) → kept_of i C.kept ≡ awaits i
  pub kinds : KeepsToKinds reply (is_within S) P J
  pub rests : RestsOver started S replies P J log

-- and these are the replies that are awaited
abbrev pub IsRunning : ℕ → Scenario → Messages → Replies → Plan → List Entry → List LogEntry
    → CrewState → Type 0
IsRunning started S replies reply P J = IsRunningWith
    (awaited S reply P J) started S replies reply P J

-- nobody is ready after these entries
abbrev pub IsUnready : Plan → List Entry → Type 0
IsUnready P J = (i : ℕ) (x : Tier) → IsReady P (view P J) i x → ⊥

-- while the handshake goes on: these requests were queued, whose replies have come, and then one
-- whose reply is awaited; others come later
pub record IsSettingUp (started : ℕ) (S : Scenario) (replies : Messages) (log : List LogEntry)
    (C : CrewState) (done : List Request) (now : Request) (later : List Request) : Type 0 where
  pub parts : setup_requests S ≡ done ++ now ∷ later
  pub linked : (l : LinkNo) × (sim_link started S now.sim ≡ Some l)
  pub counts : (i : ℕ) (l : LinkNo) → sim_link started S i ≡ Some l
      → length (replies i) ≡ length (filter_map (call_to i) done)
  pub channels : (i : ℕ) (l : LinkNo) → sim_link started S i ≡ Some l
      → (w : Channel) × (channel_at C i ≡ Some w) × (w.link ≡ l)
      × IsChannelAt log (replies i) (call_payloads 0 (filter_map (call_to i) (done ++ now ∷ [])))
      (length (filter_map (call_to i) (done ++ now ∷ []))) w

-- between two requests of the handshake: these were queued and answered, and at each rest so far
-- the handshake's clause stood and not all had replied
pub record IsBetween (started : ℕ) (S : Scenario) (replies : Messages) (log : List LogEntry)
    (C : CrewState) (done later : List Request) : Type 0 where
  pub parts : setup_requests S ≡ done ++ later
  pub counts : (i : ℕ) (l : LinkNo) → sim_link started S i ≡ Some l
      → length (replies i) ≡ length (filter_map (call_to i) done)
  pub channels : (i : ℕ) (l : LinkNo) → sim_link started S i ≡ Some l
      → (w : Channel) × (channel_at C i ≡ Some w) × (w.link ≡ l)
      × IsChannelAt log (replies i) (call_payloads 0 (filter_map (call_to i) done))
      (length (filter_map (call_to i) done)) w
  pub rests : (before after : List LogEntry) → log ≡ before ++ Rest ∷ after
      → IsWellInSetup started S before × (AllSetUp started S before → ⊥)
