-- What is gathered from an argument is what its form says.
use Rattle.std.proofs.Common.{◌≡◌, ℕ, Bool, true, false, List, [], map, flat_map, Option, Some, None, is_some, option_map, option_and_then, unwrap_or, refl, ap, ◌∙◌, sym}
use Rattle.mk_base.specs.declared.json.Json.{Json}
use Rattle.mk_base.specs.Lists.{all_there}
use Rattle.mk_base.specs.Texts.{text_of}
use Rattle.mk_base.specs.Trees.{items_in, text_in, is_in_range, texts_in, members_of, items_of}
use Rattle.mk_base.proofs.Lists.{none_some}
use Rattle.mk_plan.specs.declared.Input.{Input}
use Rattle.mk_plan.specs.declared.Want.{Want}
use Rattle.mk_plan.specs.Asks.{Named, Set, Get, members_by, datum_in}
use Rattle.mk_async.specs.Asked.{named_by}
use Rattle.mk_async.specs.Forms.{each_passes, is_destinations, is_texts}
use Rattle.mk_async.specs.inner.Given.{is_source}
use Rattle.mk_async.specs.inner.Known.{Members}
use Rattle.mk_async.proofs.Giving.{sources_pass, map_same, named_map, named_flat, object_list, datum_is}
use Rattle.mk_async.proofs.Reading.{get_there, set_there, some_there, none_there}
use Rattle.mk_simapi.specs.Requests.{inputs_of, wants_of}
use Rattle.mk_simapi.specs.inner.Inputs.{input_at, inputs_at, inputs_to, inputs_among, inputs_by, text_or_empty, want_at, wants_at, wants_among, wants_by}

-- ---- the form is there exactly where the test passes

module _ {A B : Type 0} where
  map_there : (f : A → B) (o : Option A) → is_some (option_map f o) ≡ is_some o
  map_there f None = refl
  map_there f (Some x) = refl

pub inputs_there : (ms : Members) → is_some (inputs_by ms) ≡ each_passes is_destinations ms
inputs_there ms = let o = named_by (members_by (members_by datum_in)) ms in map_there inputs_of o ∙ sym (map_there Set o) ∙ set_there ms

pub wants_there : (ms : Members) → is_some (wants_by ms) ≡ each_passes is_texts ms
wants_there ms = let o = named_by texts_in ms in map_there wants_of o ∙ sym (map_there Get o) ∙ get_there ms

pub inputs_none : (b : Bool) (ms : Members) → b ≡ false → b ≡ each_passes is_destinations ms → inputs_by ms ≡ None
inputs_none b ms e is = none_there b (inputs_by ms) e (inputs_there ms ∙ sym is)

pub wants_none : (b : Bool) (ms : Members) → b ≡ false → b ≡ each_passes is_texts ms → wants_by ms ≡ None
wants_none b ms e is = none_there b (wants_by ms) e (wants_there ms ∙ sym is)

-- values in range that have the form may be written
pub inputs_pass : (b : Bool) (ms : Members) → b ≡ true → b ≡ each_passes is_destinations ms → each_passes is_in_range ms ≡ true → each_passes is_source ms ≡ true
inputs_pass b ms e is range = sources_pass ms (some_there b _ e (set_there ms ∙ sym is)) range

-- ---- what is gathered

-- the inputs of an attribute and of an entity, as the form has them
abbrev one : List ℕ → List ℕ → Named Json → Input
one eid attr s = record { eid = eid; attr = attr; source = s.name; value = text_of s.value }

abbrev of_attr : List ℕ → Named (List (Named Json)) → List Input
of_attr eid a = map (λ s. one eid a.name s) a.value

abbrev of_entity : Named (List (Named (List (Named Json)))) → List Input
of_entity e = flat_map (λ a. of_attr e.name a) e.value

attr_same : (eid : List ℕ) (t : Json) (a : Named (List (Named Json))) → members_by datum_in t ≡ Some a.value → inputs_at eid a.name (members_of t) ≡ of_attr eid a
attr_same eid t a = object_list datum_in (inputs_at eid a.name) (map (λ s. one eid a.name s))
    (named_map datum_in (λ source v. input_at eid a.name (source, v)) (λ s. one eid a.name s) (λ v s e. ap (λ w. input_at eid a.name (s.name, w)) (datum_is v s.value e))) t a.value

entity_same : (t : Json) (e : Named (List (Named (List (Named Json))))) → members_by (members_by datum_in) t ≡ Some e.value → inputs_to e.name (members_of t) ≡ of_entity e
entity_same t e = object_list (members_by datum_in) (inputs_to e.name) (flat_map (λ a. of_attr e.name a))
    (named_flat (members_by datum_in) (λ attr u. inputs_at e.name attr (members_of u)) (λ a. of_attr e.name a) (λ u a is. attr_same e.name u a is)) t e.value

inputs_same : (ms : Members) (es : List (Named (List (Named (List (Named Json)))))) → named_by (members_by (members_by datum_in)) ms ≡ Some es → inputs_among ms ≡ inputs_of es
inputs_same = named_flat (members_by (members_by datum_in)) (λ eid t. inputs_to eid (members_of t)) of_entity entity_same

-- the inputs that were gathered are those of the form
pub inputs_gathered : (b : Bool) (ms : Members) (inputs : List Input) → b ≡ true → b ≡ each_passes is_destinations ms → inputs ≡ inputs_among ms → Some inputs ≡ inputs_by ms
inputs_gathered b ms inputs e is so = by (named_by (members_by (members_by datum_in)) ms) refl (inputs_there ms ∙ sym is ∙ e)
  where
    by : (o : Option (List (Named (List (Named (List (Named Json))))))) → named_by (members_by (members_by datum_in)) ms ≡ o → is_some (option_map inputs_of o) ≡ true → Some inputs ≡ option_map inputs_of o
    by None n there = cc
    by (Some es) n there = ap Some (so ∙ inputs_same ms es n)

-- ---- what is wanted

text_same : (t : Json) (s : List ℕ) → text_in t ≡ Some s → text_or_empty t ≡ s
text_same t s e = ap (λ o. unwrap_or o []) e

list_same : (eid : List ℕ) (t : Json) (ss : List (List ℕ)) → texts_in t ≡ Some ss → wants_at eid (items_of t) ≡ map (λ attr. record { eid = eid; attr = attr }) ss
list_same eid t ss e = by (items_in t) e
  where
    by : (o : Option (List Json)) → option_and_then (λ js. all_there (map text_in js)) o ≡ Some ss → wants_at eid (unwrap_or o []) ≡ map (λ attr. record { eid = eid; attr = attr }) ss
    by None e = absurd (none_some e)
    by (Some js) e = map_same text_in (want_at eid) (λ attr. record { eid = eid; attr = attr }) (λ t s is. ap (λ attr. record { eid = eid; attr = attr }) (text_same t s is)) js ss e

abbrev wants_to : Named (List (List ℕ)) → List Want
wants_to e = map (λ attr. record { eid = e.name; attr = attr }) e.value

wants_same : (ms : Members) (es : List (Named (List (List ℕ)))) → named_by texts_in ms ≡ Some es → wants_among ms ≡ wants_of es
wants_same = named_flat texts_in (λ eid t. wants_at eid (items_of t)) wants_to (λ t e is. list_same e.name t e.value is)

pub wants_gathered : (b : Bool) (ms : Members) (wants : List Want) → b ≡ true → b ≡ each_passes is_texts ms → wants ≡ wants_among ms → Some wants ≡ wants_by ms
wants_gathered b ms wants e is so = by (named_by texts_in ms) refl (wants_there ms ∙ sym is ∙ e)
  where
    by : (o : Option (List (Named (List (List ℕ))))) → named_by texts_in ms ≡ o → is_some (option_map wants_of o) ≡ true → Some wants ≡ option_map wants_of o
    by None n there = cc
    by (Some es) n there = ap Some (so ∙ wants_same ms es n)
