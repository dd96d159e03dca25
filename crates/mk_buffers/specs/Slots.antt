-- The values set in a simulator, each under its entity, attribute and source, and the set values
-- that they answer as.
use Rattle.std.specs.Prelude.{◌≡◌, ℕ, Bool, false, ◌&&◌, List, [], ◌∷◌, map, filter, flat_map, Option, Some, None, ◌==◌, if◌then◌else◌}
use Rattle.std.specs.Ordering.{is_eq}
use Rattle.mk_base.specs.declared.tier.Tier.{Tier}
use Rattle.mk_base.specs.Tiers.{IsUpTo}
use Rattle.mk_plan.specs.declared.Plan.{Plan}
use Rattle.mk_plan.specs.declared.Input.{Input}
use Rattle.mk_plan.specs.Plans.{owner}
use Rattle.mk_plan.specs.Deliveries.{Timed, Gift}
use Rattle.mk_plan.specs.Inputs.{input_order, gift_input}
use Rattle.mk_buffers.specs.declared.sets.Slot.{Slot}
use Rattle.mk_buffers_log.specs.Logs.{within}

-- the input that a slot makes of a value
abbrev pub input_in : Slot → List ℕ → Input
input_in i v = record { eid = i.eid; attr = i.attr; source = i.source; value = v }

-- the inputs are of one entity, attribute and source
abbrev pub same_key : Input → Input → Bool
same_key k n = is_eq (input_order k n)

-- the first, if it is there, else the second
abbrev pub or_before : Option Timed → Timed → Option Timed
or_before None t = Some t
or_before (Some u) t = Some u

-- the last of these, if there is one
abbrev pub last_of : List Timed → Option Timed
last_of [] = None
last_of (t ∷ ts) = or_before (last_of ts) t

-- the last that comes after the previous step and up to x
abbrev pub last_within : Option Tier → Tier → List Timed → Option Timed
last_within p x ts = last_of (filter (within false p x) ts)

-- the values that slots hold under a key
abbrev pub held_for : Input → List Slot → List Timed
held_for k slots = flat_map (λ (i : Slot). if same_key k (input_in i []) then i.values
    else []) slots

-- the values that these set values give a simulator under a key
abbrev pub given_for : Plan → ℕ → Input → List Gift → List Timed
given_for P s k all = map (λ g. record { at = g.at; value = g.given.value })
    (filter (λ g. (owner P g.given.entity == s) && same_key k (gift_input P g.given)) all)

-- two lists of values answer alike every question at or after the mark
abbrev pub SameLast : Tier → List Timed → List Timed → Type 0
SameLast m ks hs = (p : Option Tier) (x : Tier) → IsUpTo m x
    → last_within p x ks ≡ last_within p x hs

-- under each key slots answer, at or after the mark, as what these set values give a simulator
abbrev pub AnswerGifts : Plan → ℕ → Tier → List Slot → List Gift → Type 0
AnswerGifts P s m slots all = (k : Input) → SameLast m (held_for k slots) (given_for P s k all)
