-- For proofs alone. The inputs of a step and what is wanted, as they are gathered from an argument.
use Rattle.std.specs.Prelude.{ℕ, List, [], map, Option, option_map, unwrap_or}
use Rattle.std.specs.List.{flat_map}
use Rattle.mk_base.specs.declared.json.Json.{Json}
use Rattle.mk_base.specs.Texts.{text_of}
use Rattle.mk_base.specs.Trees.{text_in, texts_in, members_of, items_of}
use Rattle.mk_plan.specs.declared.Input.{Input}
use Rattle.mk_plan.specs.declared.Want.{Want}
use Rattle.mk_plan.specs.Asks.{members_by, datum_in}
use Rattle.mk_async.specs.Asked.{named_by}
use Rattle.mk_async.specs.inner.Known.{Members}
use Rattle.mk_simapi.specs.Requests.{inputs_of, wants_of}

abbrev pub input_at : List ℕ → List ℕ → List ℕ × Json → Input
input_at eid attr s = record { eid = eid; attr = attr; source = s.0; value = text_of s.1 }

-- the inputs of an attribute, of an entity, and of all
abbrev pub inputs_at : List ℕ → List ℕ → Members → List Input
inputs_at eid attr ms = map (input_at eid attr) ms

abbrev pub inputs_to : List ℕ → Members → List Input
inputs_to eid ms = flat_map (λ (m : List ℕ × Json). inputs_at eid m.0 (members_of m.1)) ms

abbrev pub inputs_among : Members → List Input
inputs_among ms = flat_map (λ (m : List ℕ × Json). inputs_to m.0 (members_of m.1)) ms

-- the inputs that an object's members are
abbrev pub inputs_by : Members → Option (List Input)
inputs_by ms = option_map inputs_of (named_by (members_by (members_by datum_in)) ms)

-- the text that a tree is, or an empty one
abbrev pub text_or_empty : Json → List ℕ
text_or_empty tree = unwrap_or (text_in tree) []

abbrev pub want_at : List ℕ → Json → Want
want_at eid t = record { eid = eid; attr = text_or_empty t }

-- what is wanted of an entity, and of all
abbrev pub wants_at : List ℕ → List Json → List Want
wants_at eid trees = map (want_at eid) trees

abbrev pub wants_among : Members → List Want
wants_among ms = flat_map (λ (m : List ℕ × Json). wants_at m.0 (items_of m.1)) ms

-- what the members of an object want
abbrev pub wants_by : Members → Option (List Want)
wants_by ms = option_map wants_of (named_by texts_in ms)
