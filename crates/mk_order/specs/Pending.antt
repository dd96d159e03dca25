-- What is pending at simulators, and when queues of times, tables of starts and marks tell it.
use Rattle.std.specs.Prelude.{◌≡◌, ℕ, Bool, true, List, Option, is_some}
use Rattle.mk_base.specs.declared.tier.Tier.{Tier}
use Rattle.mk_base.specs.Lists.{IsIn}
use Rattle.mk_base.specs.Tiers.{IsUpTo}
use Rattle.mk_plan.specs.declared.Plan.{Plan}
use Rattle.mk_plan.specs.Deliveries.{supply, triggers}
use Rattle.mk_plan.specs.Due.{is_due}
use Rattle.mk_plan.specs.Inputs.{is_since}
use Rattle.mk_plan.specs.Journals.{View}
use Rattle.mk_plan.specs.Ready.{start, last_step}
use Rattle.mk_plan.specs.Walks.{Reach, nobody}

module _ {X : Type 0} (time : X → Tier) (flag : X → Bool) where
  -- an item at y
  pub record HasAt (q : List X) (y : Tier) : Type 0 where
    pub item : X
    pub there : IsIn item q
    pub at : time item ≡ y

  -- an item at y that is flagged
  pub record HasFlagged (q : List X) (y : Tier) : Type 0 where
    pub item : X
    pub there : IsIn item q
    pub at : time item ≡ y
    pub on : flag item ≡ true

  -- q has items at the times of D and at no others, and one is flagged where its time is of T
  pub record Holds (D T : Tier → Type 0) (q : List X) : Type 0 where
    pub only : (y : Tier) → HasAt q y → D y
    pub all : (y : Tier) → D y → HasAt q y
    pub flags : (y : Tier) → HasFlagged q y → T y
    pub flagged : (y : Tier) → D y → T y → HasFlagged q y

module _ (P : Plan) where
  -- i is due at y, and has not been stepped then or later
  pub record IsPendingAt (V : View) (i : ℕ) (y : Tier) : Type 0 where
    pub due : is_due P V.acts i y ≡ true
    pub since : is_since (last_step V i) y ≡ true

  -- something that came triggers i at y
  pub record IsTriggeredAt (V : View) (i : ℕ) (y : Tier) : Type 0 where
    pub by : IsIn y (triggers P (supply P V.acts) i)

  module _ {X : Type 0} (time : X → Tier) (flag : X → Bool) where
    -- the queue holds what is pending at i, and flags what is triggered of it
    abbrev pub Pends : View → ℕ → List X → Type 0
    Pends V i q = Holds time flag (IsPendingAt V i) (IsTriggeredAt V i) q

-- the tables say from when on each simulator may step, and which ones have an open turn
pub record StartsOf (P : Plan) (V : View) (starts : ℕ → Option Tier)
    (busy : ℕ → Bool) : Type 0 where
  pub at : (i : ℕ) → starts i ≡ start P V i
  pub opened : (i : ℕ) → busy i ≡ is_some (V.open_at i)

-- a time that no end of a walk to s comes before
pub record IsMarkOf (P : Plan) (V : View) (s : ℕ) (m : Tier) : Type 0 where
  pub low : (y : Tier) → Reach P (start P V) nobody s y → IsUpTo m y
