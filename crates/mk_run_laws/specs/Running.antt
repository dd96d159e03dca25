-- What stands of a run whenever it is about to ask whoever is ready.
use Rattle.std.specs.Prelude.{◌≡◌, ℕ, ◌⊎◌, true, List, [], ◌∷◌, ◌++◌, Some, None}
use Rattle.mk_base.specs.declared.LinkNo.{LinkNo}
use Rattle.mk_base.specs.declared.SimNo.{SimNo}
use Rattle.mk_base.specs.declared.tier.Tier.{Tier}
use Rattle.mk_plan.specs.declared.Plan.{Plan}
use Rattle.mk_plan.specs.declared.Item.{Item}
use Rattle.mk_plan.specs.declared.Message.{Message}
use Rattle.mk_plan.specs.declared.Entry.{Entry}
use Rattle.mk_plan.specs.declared.Entry.TheVariants.{Got}
use Rattle.mk_plan.specs.Journals.{view, sent, got}
use Rattle.mk_plan.specs.Ready.{IsReady}
use Rattle.mk_plan.specs.Sequential.{Messages, id_after}
use Rattle.mk_scenario.specs.declared.parts.Scenario.{Scenario}
use Rattle.mk_outside.specs.declared.fleet.LogEntry.{LogEntry}
use Rattle.mk_outside.specs.declared.fleet.LogEntry.TheVariants.{Rest}
use Rattle.mk_run_laws.specs.Handshake.{setup_payloads, setup_count, sim_link, is_within}
use Rattle.mk_run_laws.specs.Payloads.{item_payloads}
use Rattle.mk_run_laws.specs.Channels.{Channel, IsChannelAt}
use Rattle.mk_run_laws.specs.Rests.{AllSetUp}
use Rattle.mk_run_laws.specs.Crews.{CrewState, channel_at}

-- over the log the channel of simulator i gave its setup replies and these messages, and these
-- items were queued on it
abbrev pub IsInStep : Scenario → Messages → List LogEntry → ℕ → List Message → List Item
    → Channel
    → Type 0
IsInStep S replies log i messages items w = IsChannelAt log (replies i
    ++ messages) (setup_payloads S i
    ++ item_payloads (setup_count S i) items) (id_after (setup_count S i) items) w

-- when the fleet rested behind these entries, the journal was a beginning of J, nobody was ready,
-- no request was open within the program, and each channel was parked, in step with that journal
pub record IsRestOf (started : ℕ) (S : Scenario) (replies : Messages) (P : Plan)
    (J : List Entry) (before : List LogEntry) : Type 0 where
  pub at : List Entry
  pub more : List Entry
  pub parts : J ≡ at ++ more
  pub nobody : (i : ℕ) (x : Tier) → IsReady P (view P at) i x → ⊥
  pub replied : (i : ℕ) → is_within S i ≡ true → (view P at).open_at i ≡ None
  pub channel : (i : ℕ) (l : LinkNo) → sim_link started S i ≡ Some l → (w : Channel) × (w.link ≡ l)
      × (w.parked ≡ true) × IsInStep S replies before i (got at i) (sent at i) w

-- these entries begin with a message of a link
abbrev pub BeginsOnLink : ℕ → Scenario → List Entry → Type 0
BeginsOnLink started S more = (s : SimNo) × (m : Message) × (later : List Entry) × (l : LinkNo)
    × (more ≡ Got s m ∷ later) × (sim_link started S s.0 ≡ Some l)

-- each rest at which all had set up is one of the journal (`IsRestOf`), and after it a message of a
-- link came, if anything did
abbrev pub RestsEnd : ℕ → Scenario → Messages → Plan → List Entry → List LogEntry → Type 0
RestsEnd started S replies P J log = (before after : List LogEntry) → log ≡ before ++ Rest ∷ after
    → AllSetUp started S before
    → (r : IsRestOf started S replies P J before) × ((r.more ≡ []) ⊎ BeginsOnLink started S r.more)

-- when the handshake is over: each channel gave its setup replies, only its handshake was queued on
-- it, nothing is kept, and at no rest had all replied
pub record IsBegun (started : ℕ) (S : Scenario) (replies : Messages) (log : List LogEntry)
    (C : CrewState) : Type 0 where
  pub channels : (i : ℕ) (l : LinkNo) → sim_link started S i ≡ Some l → (w : Channel)
      × (channel_at C i ≡ Some w) × (w.link ≡ l)
      × IsChannelAt log (replies i) (setup_payloads S i) (setup_count S i) w
  pub no_channel : (i : ℕ) → is_within S i ≡ true → channel_at C i ≡ None
  pub none_kept : C.kept ≡ []
  pub setting_up : (before after : List LogEntry) → log ≡ before ++ Rest ∷ after
      → AllSetUp started S before → ⊥
