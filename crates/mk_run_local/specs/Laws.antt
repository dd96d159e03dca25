-- The laws of the kinds' replies in a run.
use Rattle.std.specs.Prelude.{◌≡◌, ◌≢◌, ℕ, true, List, [], ◌∷◌, ◌++◌, map, Some, codes}
use Rattle.mk_base.specs.Lists.{Each}
use Rattle.mk_plan.specs.declared.Plan.{Plan}
use Rattle.mk_plan.specs.declared.Item.{Item}
use Rattle.mk_plan.specs.declared.Message.{Message}
use Rattle.mk_plan.specs.declared.Want.{Want}
use Rattle.mk_plan.specs.Plans.{kind_of, first_id}
use Rattle.mk_plan.specs.Turns.{wanted}
use Rattle.mk_plan.specs.Journals.{bare}
use Rattle.mk_plan.specs.Sequential.{id_after}
use Rattle.mk_scenario.specs.declared.parts.Scenario.{Scenario}
use Rattle.mk_run_laws.specs.Handshake.{setup_count, is_within}
use Rattle.mk_run_laws.specs.Kinds.{RepliesAreRight}
use Rattle.mk_local.specs.declared.turn.Turn.{Turn}
use Rattle.mk_local.specs.Kinds.{type_of}
use Rattle.mk_local.specs.Replies.{after_item, after_items, item_reply}
use Rattle.mk_local.specs.Rows.{IsStepTime}
use Rattle.mk_local.specs.Simulators.{Simulator}
use Rattle.mk_run_local.specs.Made.{made, kind_reply_of}

-- simulator i has come to L: it was sent these items after its setup
pub record HasCome (rows : List Turn) (S : Scenario) (i : ℕ) (items : List Item)
    (L : Simulator) : Type 0 where
  pub first : Simulator
  pub begun : made rows S i ≡ Some first
  pub sent : L ≡ after_items first (map bare items)

-- the reply to an item that has the next id is the kind's to all items so far, and the simulator
-- has come on by that item
abbrev pub RepliesAreKinds : Type 0
RepliesAreKinds = (rows : List Turn) (S : Scenario) (i : ℕ) (items : List Item) (L : Simulator)
    → HasCome rows S i items L → (item : Item) (m : Message)
    → item_reply L (id_after (setup_count S i) items) item ≡ Some m
    → (m ≡ kind_reply_of rows S i (map bare (items ++ item ∷ [])))
    × HasCome rows S i (items ++ item ∷ []) (after_item L item)

-- the plan fits the kinds: each simulator within the program was made by its setup and is of its
-- kind's type there, nothing of an entity called `time` is wanted of it, and its ids begin behind
-- its setup; a step may have each time up to the run's end
pub record FitsKinds (rows : List Turn) (S : Scenario) (P : Plan) : Type 0 where
  pub there : (i : ℕ) → is_within S i ≡ true → (L : Simulator) × (made rows S i ≡ Some L)
      × (kind_of P i ≡ type_of L.kind)
  pub wants : (i : ℕ) → is_within S i ≡ true
      → Each (λ (w : Want). w.eid ≢ codes "time") (wanted P i)
  pub first : (i : ℕ) → is_within S i ≡ true → first_id P i ≡ setup_count S i
  pub end : IsStepTime P.until

-- in a plan that fits the kinds, no reply of theirs is wrong
abbrev pub KindsAreRight : Type 0
KindsAreRight = (rows : List Turn) (S : Scenario) (P : Plan) → FitsKinds rows S P
    → RepliesAreRight (kind_reply_of rows S) (is_within S) P
