-- What holds where a fleet waits.
use Rattle.std.specs.Prelude.{◌≡◌, ℕ, zero, suc, ◌==◌, ◌≤◌, ◌⊎◌, true, List, [], ◌∷◌, ◌++◌, length, drop, filter_map, Option, Some, None, option_map, if◌then◌else◌}
use Rattle.mk_base.specs.declared.LinkNo.{LinkNo}
use Rattle.mk_base.specs.declared.tier.Tier.{Tier}
use Rattle.mk_plan.specs.declared.Plan.{Plan}
use Rattle.mk_plan.specs.declared.Item.{Item}
use Rattle.mk_plan.specs.declared.Message.{Message}
use Rattle.mk_plan.specs.declared.Entry.{Entry}
use Rattle.mk_plan.specs.declared.Entry.TheVariants.{Sent, Got}
use Rattle.mk_plan.specs.Journals.{view, sent, got}
use Rattle.mk_plan.specs.Ready.{IsReady}
use Rattle.mk_frame.specs.Frames.{frames_of, IsProperPrefix}
use Rattle.mk_scenario.specs.declared.parts.Scenario.{Scenario}
use Rattle.mk_outside.specs.declared.fleet.LogEntry.{LogEntry}
use Rattle.mk_outside.specs.declared.fleet.LogEntry.TheVariants.{NotHeard, NotSaid, Rest}
use Rattle.mk_outside.specs.Logs.{heard_on, said_on, last_read, last_write}
use Rattle.mk_run_laws.specs.Hearing.{messages_heard}
use Rattle.mk_run_laws.specs.Handshake.{Request, setup_requests, call_to, call_payloads, setup_count, setup_payloads, sim_link, is_within}
use Rattle.mk_run_laws.specs.Payloads.{item_payloads}

-- the numbers, with that of s as given
abbrev pub with_number : ℕ → Option ℕ → (ℕ → Option ℕ) → ℕ → Option ℕ
with_number s n left i = if i == s then n else left i

-- the longest beginning of a journal in which no simulator has more messages than these; None sets
-- no bound
abbrev pub within : (ℕ → Option ℕ) → List Entry → List Entry
within left [] = []
within left (Sent s item ∷ J) = Sent s item ∷ within left J
within left (Got s m ∷ J) = elim (left s.0) [
  | None ↦ Got s m ∷ within left J
  | Some n ↦ elim n [ zero ↦ [] | suc k ↦ Got s m ∷ within (with_number s.0 (Some k) left) J ]
]

-- the messages of the run that were heard of simulator i on its link
abbrev pub run_messages : Scenario → List LogEntry → ℕ → LinkNo → List Message
run_messages S log i l = drop (setup_count S i) (messages_heard (heard_on l log))

-- how many they are, where it has a link
abbrev pub heard_counts : ℕ → Scenario → List LogEntry → ℕ → Option ℕ
heard_counts started S log i = option_map (λ (l : LinkNo). length (run_messages S log i l))
    (sim_link started S i)

-- of a run's journal, what was there at the rest behind these entries
abbrev pub at_rest : ℕ → Scenario → List LogEntry → List Entry → List Entry
at_rest started S before J = within (heard_counts started S before) J

-- the links' simulators have all replied to their handshake
abbrev pub AllSetUp : ℕ → Scenario → List LogEntry → Type 0
AllSetUp started S log = (i : ℕ) (l : LinkNo) → sim_link started S i ≡ Some l
    → setup_count S i ≤ length (messages_heard (heard_on l log))

-- the frames of all that simulator i was sent with these items
abbrev pub all_frames : Scenario → ℕ → List Item → List ℕ
all_frames S i items = frames_of (setup_payloads S i ++ item_payloads (setup_count S i) items)

-- the bytes said are these, or a proper prefix of them after which a write took nothing
abbrev pub SaysAll : LinkNo → List LogEntry → List ℕ → Type 0
SaysAll l log bytes = (said_on l log ≡ bytes)
    ⊎ (IsProperPrefix (said_on l log) bytes × (last_write l log ≡ Some (NotSaid l)))

-- where a run rests, J being its journal: what was there by then has all messages heard by then, and
-- all replies of simulators within the program; nobody is ready in it, all of its items were said, and
-- nothing more had come
pub record IsWellAtRest (started : ℕ) (S : Scenario) (P : Plan) (J : List Entry)
    (before : List LogEntry) : Type 0 where
  pub has_all : (i : ℕ) (l : LinkNo) → sim_link started S i ≡ Some l
      → got (at_rest started S before J) i ≡ run_messages S before i l
  pub replied : (i : ℕ) → is_within S i ≡ true
      → (view P (at_rest started S before J)).open_at i ≡ None
  pub nobody : (i : ℕ) (x : Tier) → IsReady P (view P (at_rest started S before J)) i x → ⊥
  pub said : (i : ℕ) (l : LinkNo) → sim_link started S i ≡ Some l
      → SaysAll l before (all_frames S i (sent (at_rest started S before J) i))
  pub heard_all : (i : ℕ) (l : LinkNo) → sim_link started S i ≡ Some l
      → last_read l before ≡ Some (NotHeard l)

-- these requests up to the first whose reply isn't among so many messages, that one included
abbrev pub asked : (ℕ → Option ℕ) → List Request → List Request
asked heard [] = []
asked heard (r ∷ rs) = elim (heard r.sim) [
  | None ↦ asked heard rs
  | Some n ↦ elim n [ zero ↦ r ∷ [] | suc k ↦ r ∷ asked (with_number r.sim (Some k) heard) rs ]
]

-- how many messages were heard of simulator i, where it has a link
abbrev pub all_counts : ℕ → Scenario → List LogEntry → ℕ → Option ℕ
all_counts started S log i = option_map (λ (l : LinkNo). length (messages_heard (heard_on l log)))
    (sim_link started S i)

-- where the handshake rests: each request was said up to the first whose reply hadn't come, and
-- nothing more had come
pub record IsWellInSetup (started : ℕ) (S : Scenario) (before : List LogEntry) : Type 0 where
  pub said : (i : ℕ) (l : LinkNo) → sim_link started S i ≡ Some l
      → SaysAll l before (frames_of
      (call_payloads 0 (filter_map (call_to i)
      (asked (all_counts started S before) (setup_requests S)))))
  pub heard_all : (i : ℕ) (l : LinkNo) → sim_link started S i ≡ Some l
      → last_read l before ≡ Some (NotHeard l)

-- at each rest of a run's whole log at which all had set up: the run's clause
abbrev pub RestsWell : ℕ → Scenario → Plan → List Entry → List LogEntry → Type 0
RestsWell started S P J log = (before after : List LogEntry) → log ≡ before ++ Rest ∷ after
    → AllSetUp started S before → IsWellAtRest started S P J before
