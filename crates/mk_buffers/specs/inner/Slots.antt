-- For proofs alone. Beside `Slots`, which has what a reader needs.
use Rattle.std.specs.Prelude.{◌≡◌, ℕ, true, false, List, [], ◌∷◌, ◌++◌, flat_map, Option, option_map, option_to_list, get_or, slice_set}
use Rattle.std.specs.List.{insert}
use Rattle.std.specs.declared.cmp.Ordering.{Ordering}
use Rattle.mk_base.specs.declared.tier.Tier.{Tier}
use Rattle.mk_plan.specs.declared.Input.{Input}
use Rattle.mk_plan.specs.Deliveries.{Timed}
use Rattle.mk_plan.specs.Inputs.{input_order}
use Rattle.mk_buffers.specs.declared.sets.Slot.{Slot}
use Rattle.mk_buffers.specs.Slots.{input_in, last_within, SameLast, same_key, held_for}

-- by the entity's name, then the attribute's, then the source's
abbrev pub slot_order : Slot → Slot → Ordering
slot_order a b = input_order (input_in a []) (input_in b [])

-- the input that a slot gives a step at x after a step at p
abbrev pub set_input : Option Tier → Tier → Slot → Option Input
set_input p x i = option_map (λ t. input_in i t.value) (last_within p x i.values)

-- the inputs that slots give it, in their order
abbrev pub set_inputs : List Slot → Option Tier → Tier → List Input
set_inputs slots p x = flat_map (λ i. option_to_list (set_input p x i)) slots

-- one list of values answers as the other with one more value
abbrev pub TakesLast : Tier → Timed → List Timed → List Timed → Type 0
TakesLast m t old new = (hs : List Timed) → SameLast m old hs → SameLast m new (hs ++ t ∷ [])

-- the slot at the place has taken one more value
pub record HasTakenAt (m : Tier) (t : Timed) (i : ℕ) (old new : List Slot) : Type 0 where
  pub before : Slot
  pub values : List Timed
  pub at_place : before ≡ get_or old i before
  pub items : new ≡ slice_set old i (record {
    eid = before.eid;
    attr = before.attr;
    source = before.source;
    values = values;
  })
  pub taken : TakesLast m t before.values values

-- a new slot has taken one value, and stands at the place
pub record HasInserted (m : Tier) (t : Timed) (i : ℕ) (fresh : Slot)
    (old new : List Slot) : Type 0 where
  pub values : List Timed
  pub items : new ≡ insert old i (record {
    eid = fresh.eid;
    attr = fresh.attr;
    source = fresh.source;
    values = values;
  })
  pub taken : TakesLast m t fresh.values values

-- slots have taken one more value under a key
pub record HaveTaken (m : Tier) (n : Input) (t : Timed) (old new : List Slot) : Type 0 where
  pub here : (k : Input) → same_key k n ≡ true → TakesLast m t (held_for k old) (held_for k new)
  pub others : (k : Input) → same_key k n ≡ false → held_for k new ≡ held_for k old
