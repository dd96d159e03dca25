-- For proofs alone. Beside `Groups`, which has what a reader needs.
use Rattle.std.specs.Prelude.{◌≡◌, ℕ, List, [], ◌∷◌, ◌++◌, codes, Option, option_and_then, Result, Ok}
use Rattle.mk_base.specs.declared.json.Json.{Json}
use Rattle.mk_base.specs.Trees.{text_in, member}
use Rattle.mk_scenario_keys.specs.declared.fault.ScenarioFault.{ScenarioFault}
use Rattle.mk_scenario.specs.declared.parts.Group.{Group}

-- the text that a table has as its id
abbrev pub id_in : Json → Option (List ℕ)
id_in table = option_and_then text_in (member (codes "id") table)

-- the group that was found stands behind the others, and its id behind those that are taken
abbrev pub IsGroupAdded : Result Group ScenarioFault → List Group → List Group → List (List ℕ)
    → List (List ℕ) → Type 0
IsGroupAdded verdict old new taken ids = (g : Group) × (verdict ≡ Ok g) × (new ≡ old ++ g ∷ [])
    × (ids ≡ taken ++ g.id ∷ [])
