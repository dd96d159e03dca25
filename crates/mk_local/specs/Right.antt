-- What makes the replies right at their places.
use Rattle.std.specs.Prelude.{◌≡◌, ◌≢◌, ℕ, ◌+◌, List, [], ◌∷◌, ◌++◌, map, codes, Some, None, ℤ, FitsSigned}
use Rattle.std.specs.Int.{w64}
use Rattle.mk_base.specs.declared.json.Json as tree
use Rattle.mk_base.specs.Texts.{text_of}
use Rattle.mk_base.specs.declared.tier.Tier.{Tier}
use Rattle.mk_base.specs.Lists.{Each, last_of}
use Rattle.mk_plan.specs.declared.Plan.{Plan}
use Rattle.mk_plan.specs.declared.Input.{Input}
use Rattle.mk_plan.specs.declared.Want.{Want}
use Rattle.mk_plan.specs.declared.Item.{Item}
use Rattle.mk_plan.specs.declared.Item.TheVariants.{Step, GetData}
use Rattle.mk_plan.specs.declared.Message.{Message}
use Rattle.mk_plan.specs.declared.Message.TheVariants.{Success}
use Rattle.mk_plan.specs.declared.Place.{Place}
use Rattle.mk_plan.specs.declared.Place.TheVariants.{Stepping, Fetching}
use Rattle.mk_plan.specs.Plans.{kind_of}
use Rattle.mk_plan.specs.Journals.{bare}
use Rattle.mk_plan.specs.Turns.{wanted, wrong}
use Rattle.mk_plan.specs.Sequential.{id_after}
use Rattle.mk_local.specs.Inputs.{number_in}
use Rattle.mk_local.specs.Kinds.{type_of}
use Rattle.mk_local.specs.Replies.{after_item, item_reply, replies}
use Rattle.mk_local.specs.Rows.{IsStepOf, IsStepTime}
use Rattle.mk_local.specs.Simulators.{Simulator}

-- the plan's simulator i fits the simulator L: it has the type of L's kind, nothing of an entity called
-- `time` is wanted of it, and L's step is one that the kind may have
pub record Fits (P : Plan) (i : ℕ) (L : Simulator) : Type 0 where
  pub kind : kind_of P i ≡ type_of L.kind
  pub wants : Each (λ (w : Want). w.eid ≢ codes "time") (wanted P i)
  pub step : IsStepOf L.kind L.step

-- the reply to each Step is right there
abbrev pub AreStepRepliesRight : Type 0
AreStepRepliesRight = (P : Plan) (i : ℕ) (L : Simulator) → Fits P i L → (x : Tier)
    → IsStepTime x.time → (inputs : List Input) (advance : _) (id asks : ℕ) (m : Message)
    → item_reply L id (Step x inputs advance) ≡ Some m → wrong P i (Stepping x id asks) m ≡ None

-- the reply to each GetData that follows a Step is right there
abbrev pub AreDataRepliesRight : Type 0
AreDataRepliesRight = (P : Plan) (i : ℕ) (L : Simulator) → Fits P i L → (x : Tier)
    → IsStepTime x.time → (inputs : List Input) (advance : _) (asked : List Want) (id : ℕ)
    (m : Message)
    → item_reply (after_item L (Step x inputs advance)) id (GetData asked) ≡ Some m
    → wrong P i (Fetching x id) m ≡ None

-- what the simulator sent last after these items, of which the first that is replied to has the id
-- `first`, is a success with this id, and right at this place
pub record EndsRight (P : Plan) (i : ℕ) (L : Simulator) (first : ℕ) (items : List Item) (id : ℕ)
    (place : Place) : Type 0 where
  pub content : tree.Json
  pub sent : last_of (replies L first items) ≡ Some (Success id content)
  pub right : wrong P i place (Success id content) ≡ None

-- whatever the simulator was sent before, its reply to a Step is right, and so is its reply to the
-- GetData behind that
abbrev pub AreRightInOrder : Type 0
AreRightInOrder = (P : Plan) (i : ℕ) (L : Simulator) → Fits P i L
    → (first : ℕ) (before : List Item) (x : Tier) → IsStepTime x.time
    → (inputs : List Input) (advance : ℤ) (asked : List Want)
    → (let id = id_after first before in
    EndsRight P i L first (before ++ Step x inputs advance ∷ []) id (Stepping x id 0)
    × EndsRight P i L first ((before ++ Step x inputs advance ∷ [])
    ++ GetData asked ∷ []) (id + 1) (Fetching x (id + 1)))

-- max_advance makes no difference to what a simulator sends
abbrev pub AreBareRepliesSame : Type 0
AreBareRepliesSame = (L : Simulator) (first : ℕ) (items : List Item)
    → replies L first (map bare items) ≡ replies L first items

-- the text of a whole number within 64 bits is read as that number
abbrev pub AreNumbersRead : Type 0
AreNumbersRead = (z : ℤ) → FitsSigned w64 z → number_in (text_of (tree.Whole z)) ≡ z
