-- What holds where a paced run sleeps.
use Rattle.std.specs.Prelude.{◌≡◌, ℕ, ◌<◌, ◌⊎◌, ℤ, true, List, [], ◌∷◌, ◌++◌, Some}
use Rattle.mk_base.specs.declared.LinkNo.{LinkNo}
use Rattle.mk_base.specs.declared.tier.Tier.{Tier}
use Rattle.mk_base.specs.Lists.{BeginsWith}
use Rattle.mk_outside.specs.declared.fleet.LogEntry.{LogEntry}
use Rattle.mk_outside.specs.declared.fleet.LogEntry.TheVariants.{NotHeard, Nap}
use Rattle.mk_outside.specs.Logs.{last_read, said_on}
use Rattle.mk_plan.specs.declared.Entry.{Entry}
use Rattle.mk_plan.specs.declared.Input.{Input}
use Rattle.mk_plan.specs.declared.Item.{Item}
use Rattle.mk_plan.specs.declared.Item.TheVariants.{Step}
use Rattle.mk_plan.specs.declared.Plan.{Plan}
use Rattle.mk_plan.specs.Journals.{sent, got, view}
use Rattle.mk_plan.specs.Ready.{IsReady}
use Rattle.mk_plan.specs.Sequential.{Messages}
use Rattle.mk_scenario.specs.declared.parts.Scenario.{Scenario}
use Rattle.mk_run_laws.specs.Handshake.{sim_link, is_within}
use Rattle.mk_run_laws.specs.Channels.{Channel}
use Rattle.mk_run_laws.specs.Rests.{SaysAll, all_frames, at_rest, run_messages}
use Rattle.mk_run_laws.specs.Running.{BeginsOnLink, IsInStep}
use Rattle.mk_pace_laws.specs.Clocks.{HasTold, last_told}
use Rattle.mk_pace_laws.specs.Moments.{Tempo, moment_at, not_early}

-- no simulator is within the program
abbrev pub AreAllLinked : Scenario → Type 0
AreAllLinked S = (i : ℕ) → is_within S i ≡ true → ⊥

-- where a run sleeps, J being its journal: what was there by then has all messages heard by then,
-- nobody is ready in it, all of its items were said before the first early Step of each simulator,
-- and nothing behind these, or a beginning of them after which a write took nothing, and the last
-- read of each link found nothing
pub record IsWellAtNap (started : ℕ) (S : Scenario) (P : Plan) (T : Tempo) (J : List Entry)
    (before : List LogEntry) : Type 0 where
  pub has_all : (i : ℕ) (l : LinkNo) → sim_link started S i ≡ Some l
      → got (at_rest started S before J) i ≡ run_messages S before i l
  pub nobody : (i : ℕ) (x : Tier) → IsReady P (view P (at_rest started S before J)) i x → ⊥
  pub said : (i : ℕ) (l : LinkNo) → sim_link started S i ≡ Some l
      → SaysAll l before (all_frames S i
      (not_early T (last_told before) (sent (at_rest started S before J) i)))
  pub heard_all : (i : ℕ) (l : LinkNo) → sim_link started S i ≡ Some l
      → last_read l before ≡ Some (NotHeard l)

-- at each sleep
abbrev pub NapsWell : ℕ → Scenario → Plan → Tempo → List Entry → List LogEntry → Type 0
NapsWell started S P T J log = (before after : List LogEntry) → log ≡ before ++ Nap ∷ after
    → IsWellAtNap started S P T J before

-- at each sleep the last read of each link had found nothing
abbrev pub NapsLook : ℕ → Scenario → List LogEntry → Type 0
NapsLook started S log = (before after : List LogEntry) → log ≡ before ++ Nap ∷ after
    → (i : ℕ) (l : LinkNo) → sim_link started S i ≡ Some l → last_read l before ≡ Some (NotHeard l)

-- on a link on which these items were queued the first byte of a Step was said only after its
-- moment was told
abbrev pub IsTimely : Tempo → Scenario → ℕ → LinkNo → List Item → List LogEntry → Type 0
IsTimely T S i l items log = (before after : List LogEntry) → log ≡ before ++ after
    → (first later : List Item) (x : Tier) (inputs : List Input) (advance : ℤ)
    → items ≡ first ++ Step x inputs advance ∷ later
    → (HasTold (moment_at T x.time) before → ⊥)
    → BeginsWith (all_frames S i first) (said_on l before)

-- nothing waits, or a Step whose moment is later than now, and what stands behind it
abbrev pub IsEarly : Tempo → ℕ → List Item → Type 0
IsEarly T now items = (items ≡ [])
    ⊎ ((x : Tier) × (inputs : List Input) × (advance : ℤ) × (more : List Item)
    × (items ≡ Step x inputs advance ∷ more) × (now < moment_at T x.time))

-- the moment of each Step of these items was told
abbrev pub AreTold : Tempo → List LogEntry → List Item → Type 0
AreTold T log items = (first later : List Item) (x : Tier) (inputs : List Input) (advance : ℤ)
    → items ≡ first ++ Step x inputs advance ∷ later → HasTold (moment_at T x.time) log

-- of the journal's items to simulator i these were queued on its link, which was parked, the moment
-- of each Step among them having been told, and what waits was early
pub record IsChannelAtNap (S : Scenario) (replies : Messages) (T : Tempo) (at : List Entry)
    (before : List LogEntry) (i : ℕ) (l : LinkNo) : Type 0 where
  pub channel : Channel
  pub link : channel.link ≡ l
  pub parked : channel.parked ≡ true
  pub queued : List Item
  pub waiting : List Item
  pub items : sent at i ≡ queued ++ waiting
  pub in_step : IsInStep S replies before i (got at i) queued channel
  pub due : AreTold T before queued
  pub early : IsEarly T (last_told before) waiting

-- when the fleet slept behind these entries, the journal was a beginning of J, nobody was ready,
-- each channel was parked, in step with that journal but for what waits, and the journal got a
-- message of a link next, if anything
pub record IsNapOf (started : ℕ) (S : Scenario) (replies : Messages) (P : Plan) (T : Tempo)
    (J : List Entry) (before : List LogEntry) : Type 0 where
  pub at : List Entry
  pub more : List Entry
  pub parts : J ≡ at ++ more
  pub nobody : (i : ℕ) (x : Tier) → IsReady P (view P at) i x → ⊥
  pub channels : (i : ℕ) (l : LinkNo) → sim_link started S i ≡ Some l
      → IsChannelAtNap S replies T at before i l
  pub next : (more ≡ []) ⊎ BeginsOnLink started S more

-- at each sleep
abbrev pub AreNaps : ℕ → Scenario → Messages → Plan → Tempo → List Entry → List LogEntry
    → Type 0
AreNaps started S replies P T J log = (before after : List LogEntry) → log ≡ before ++ Nap ∷ after
    → IsNapOf started S replies P T J before
