-- For proofs alone. The value of `json` that a tree is written as: a whole number as its digits,
-- and any other as 0.5.
use Rattle.std.specs.Prelude.{ℕ, List, [], ◌∷◌, codes}
use Rattle.std.specs.Fmt.{signed_decimal}
use Rattle.json.specs.Json as json
use Rattle.mk_base.specs.declared.json.Json.{Json, Json-F}
use Rattle.mk_base.specs.Folds.{folded}

abbrev pub items_in : List json.Json → json.Items
items_in [] = json.no_items
items_in (j ∷ js) = json.item j (items_in js)

abbrev pub members_in : List (List ℕ × json.Json) → json.Members
members_in [] = json.no_members
members_in (m ∷ ms) = json.member m.0 m.1 (members_in ms)

abbrev outline_step : Json-F json.Json → json.Json
outline_step Json-F.Null = json.null
outline_step (Json-F.Bool b) = json.boolean b
outline_step (Json-F.Whole n) = json.number (signed_decimal n)
outline_step Json-F.Odd = json.number (codes "0.5")
outline_step (Json-F.Text s) = json.string s
outline_step (Json-F.List js) = json.array (items_in js)
outline_step (Json-F.Object ms) = json.object (members_in ms)

-- the value that is written
abbrev pub outline : Json → json.Json
outline = folded json.Json outline_step
