-- What the data of a reply give.
use Rattle.std.specs.Prelude.{◌≡◌, ℕ, true, List, map, Option, Some, is_some, option_map}
use Rattle.mk_base.specs.declared.json.Json.{Json}
use Rattle.mk_base.specs.Lists.{IsIn}
use Rattle.mk_base.specs.Trees.{is_datum, is_in_range}
use Rattle.mk_plan.specs.declared.Plan.{Plan}
use Rattle.mk_plan.specs.Turns.{wanted, value_for}
use Rattle.mk_plan.specs.Acts.{Act, outputs_in, output}
use Rattle.mk_plan.specs.Deliveries.{triggering_from}
use Rattle.mk_sched_supply.specs.declared.outputs.Outputs.{Outputs}

-- what was found for each want
abbrev pub found_values : Outputs → List (Option Json)
found_values outs = map (option_map (λ v. v.now)) outs.values.items

-- the values are what the data give for each want of s; an act with these data gives an output to
-- those of its triggering connections that are marked
pub record AreOutputsIn (P : Plan) (s : ℕ) (content : Json) (outs : Outputs) : Type 0 where
  pub values : found_values outs ≡ map (value_for content) (wanted P s)
  pub given : (f : Act) → outputs_in f ≡ Some content
      → outs.given.items ≡ map (λ c. is_some (output P f c.from c.from_attr)) (triggering_from P s)

-- each value that was found is one that a simulator may give, its numbers in range
abbrev pub AreData : List (Option Json) → Type 0
AreData values = (v : Json) → IsIn (Some v) values → (is_datum v ≡ true) × (is_in_range v ≡ true)
