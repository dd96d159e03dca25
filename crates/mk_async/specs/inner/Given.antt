-- For proofs alone. The values that a request sets, as they are gathered.
use Rattle.std.specs.Prelude.{ℕ, Bool, List, map, flat_map, unwrap_or}
use Rattle.mk_base.specs.declared.json.Json.{Json}
use Rattle.mk_base.specs.Texts.{text_of}
use Rattle.mk_base.specs.Trees.{members_of}
use Rattle.mk_plan.specs.declared.Plan.{Plan}
use Rattle.mk_plan.specs.declared.SetValue.{SetValue}
use Rattle.mk_plan.specs.Asks.{entity_of}
use Rattle.mk_async.specs.Forms.{is_object_of, is_value}
use Rattle.mk_async.specs.inner.Known.{Members}

-- an object of objects of values
abbrev pub is_source : Json → Bool
is_source = is_object_of (is_object_of is_value)

abbrev pub set_value : Plan → List ℕ → List ℕ → List ℕ → Json → SetValue
set_value P source id attr value = record {
  source = source;
  entity = unwrap_or (entity_of P id) 0;
  attr = attr;
  value = text_of value;
}

-- the values for one destination, from one source, and of all
abbrev pub values_to : Plan → List ℕ → List ℕ → Members → List SetValue
values_to P source id ms = map (λ (m : List ℕ × Json). set_value P source id m.0 m.1) ms

abbrev pub values_from : Plan → List ℕ → Members → List SetValue
values_from P source ms = flat_map (λ (m : List ℕ
    × Json). values_to P source m.0 (members_of m.1)) ms

abbrev pub values_in : Plan → Members → List SetValue
values_in P ms = flat_map (λ (m : List ℕ × Json). values_from P m.0 (members_of m.1)) ms
