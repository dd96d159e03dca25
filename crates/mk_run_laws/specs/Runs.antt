-- What the log of a whole run means: what is said on each link, what is heard, and what both have
-- to do with its journal.
use Rattle.std.specs.Prelude.{◌≡◌, ◌==◌, ◌&&◌, ℕ, ◌<◌, ◌≤◌, ◌⊎◌, Bool, true, not, List, [], map, take, Option, Some, IsSome}
use Rattle.mk_base.specs.declared.LinkNo.{LinkNo}
use Rattle.mk_base.specs.Lists.{BeginsWith}
use Rattle.mk_plan.specs.declared.Plan.{Plan}
use Rattle.mk_plan.specs.declared.Item.{Item}
use Rattle.mk_plan.specs.declared.Entry.{Entry}
use Rattle.mk_plan.specs.Sequential.{Messages, run_items}
use Rattle.mk_plan.specs.Plans.{sim_count}
use Rattle.mk_plan.specs.Journals.{sent, got, bare}
use Rattle.mk_frame.specs.Frames.{frames_of}
use Rattle.mk_scenario.specs.declared.parts.Scenario.{Scenario}
use Rattle.mk_outside.specs.declared.fleet.LogEntry.{LogEntry}
use Rattle.mk_outside.specs.declared.fleet.LogEntry.TheVariants.{NotSaid}
use Rattle.mk_outside.specs.Logs.{heard_on, said_on, last_write}
use Rattle.mk_run_laws.specs.Exchanges.{Exchange}
use Rattle.mk_run_laws.specs.Hearing.{messages_heard}
use Rattle.mk_run_laws.specs.Handshake.{setup_count, sim_link, is_within}
use Rattle.mk_run_laws.specs.Payloads.{AreFramed, link_payloads}
use Rattle.mk_run_laws.specs.Kinds.{AnswersByKind}
use Rattle.mk_run_laws.specs.Rests.{run_messages}

-- messages that may come: on each link those that were heard, and whatever goes on; of the
-- simulators within the program what their kinds answer
pub record IsPossible (X : Exchange) (P : Plan) (R : Messages) : Type 0 where
  pub by_kind : AnswersByKind X.reply (is_within X.scenario) P R
  pub links : (i : ℕ) (l : LinkNo) → sim_link X.started X.scenario i ≡ Some l
      → BeginsWith (R i) (run_messages X.scenario X.log i l)

-- simulator i is within the program, and isn't s
abbrev pub is_other_within : Scenario → ℕ → ℕ → Bool
is_other_within S s i = is_within S i && not (i == s)

-- the same, but that simulator s sends no more than its messages in J: its last turn is cut
pub record IsPossibleUpTo (X : Exchange) (P : Plan) (J : List Entry) (s : ℕ)
    (R : Messages) : Type 0 where
  pub by_kind : AnswersByKind X.reply (is_other_within X.scenario s) P R
  pub links : (i : ℕ) (l : LinkNo) → sim_link X.started X.scenario i ≡ Some l → (i ≡ s → ⊥)
      → BeginsWith (R i) (run_messages X.scenario X.log i l)
  pub ends : R s ≡ got J s

-- the frames of a handshake, of these items and of a stop
abbrev pub run_frames : Scenario → ℕ → List Item → List ℕ
run_frames S i items = frames_of (link_payloads S i (setup_count S i) items true)

-- the link of a run with the journal J: its first messages are the setup replies, those got are the
-- first of the others; what was said is a beginning of the frames of the handshake, of these first
-- items of the journal, and of a stop, each of them one that is allowed, and all of it but where a write
-- took nothing or the count of faults rose
pub record IsLinkOfRun (S : Scenario) (replies : Messages) (J : List Entry)
    (log : List LogEntry) (risen : Type 0) (i : ℕ) (l : LinkNo) (items : List Item) : Type 0 where
  pub replied : take (setup_count S i) (messages_heard (heard_on l log)) ≡ replies i
  pub got : BeginsWith (run_messages S log i l) (got J i)
  pub items_sent : BeginsWith (sent J i) items
  pub said : BeginsWith (run_frames S i items) (said_on l log)
  pub framed : AreFramed (link_payloads S i (setup_count S i) items true)
  pub whole : (said_on l log ≡ run_frames S i items)
      ⊎ ((last_write l log ≡ Some (NotSaid l)) ⊎ risen)

-- the clause of a run on what is said to simulator i on its link, for every end of the call: a
-- beginning of the frames of the first requests of its handshake, of items, and of a stop, no
-- payload being longer than a frame's may be; items only behind the whole handshake and where the
-- plan is there, and these begin what sequential execution sends it
pub record SaysRight (X : Exchange) (plan : Option Plan) (i : ℕ) (l : LinkNo) (asked : ℕ)
    (items : List Item) (stopped : Bool) : Type 0 where
  pub handshake : asked ≤ setup_count X.scenario i
  pub behind : (items ≡ []) ⊎ ((asked ≡ setup_count X.scenario i) × IsSome plan)
  pub said : BeginsWith (frames_of (link_payloads X.scenario i asked items stopped))
      (said_on l X.log)
  pub framed : AreFramed (link_payloads X.scenario i asked items stopped)
  pub as_executed : (P : Plan) → plan ≡ Some P → (R : Messages) → IsPossible X P R
      → i < sim_count P → BeginsWith (run_items P R i) (map bare items)

-- all of it was said, a stop too, but where a write took nothing or the count of faults rose
abbrev pub SaidWhole : Scenario → List LogEntry → Type 0 → ℕ → LinkNo → ℕ → List Item → Type 0
SaidWhole S log risen i l asked items = (said_on l log
    ≡ frames_of (link_payloads S i asked items true))
    ⊎ ((last_write l log ≡ Some (NotSaid l)) ⊎ risen)
