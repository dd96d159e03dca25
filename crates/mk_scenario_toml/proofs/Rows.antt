-- What small texts are read as.
use Rattle.std.proofs.Common.{◌≡◌, ℕ, pos, negsuc, true, List, [], ◌∷◌, codes, Some, None, refl}
use Rattle.toml.proofs.OnLiterals.{toml_on_literals}
use Rattle.mk_base.specs.declared.json.Json.{Json}
use Rattle.mk_base.specs.declared.json.Json as tree
use Rattle.mk_scenario_toml.specs.Document.{table_of}

pub empty_row : table_of (codes "") ≡ Some (tree.Object [])
unfolding toml_on_literals
empty_row = refl

pub scalars_row : table_of (codes "c = true\nb = -3\na = \"x\"") ≡ Some (tree.Object ((codes "a", tree.Text (codes "x")) ∷ (codes "b", tree.Whole (negsuc 2)) ∷ (codes "c", tree.Bool true) ∷ []))
unfolding toml_on_literals
scalars_row = refl

pub odd_row : table_of (codes "a = 1.0\nb = 1979-05-27\nc = nan") ≡ Some (tree.Object ((codes "a", tree.Odd) ∷ (codes "b", tree.Odd) ∷ (codes "c", tree.Odd) ∷ []))
unfolding toml_on_literals
odd_row = refl

-- an object whose one member is this whole number
abbrev one : List ℕ → ℕ → Json
one name n = tree.Object ((name, tree.Whole (pos n)) ∷ [])

pub tables_row : table_of (codes "[[sim]]\nid = 1\n[[sim]]\nid = 2") ≡ Some (tree.Object ((codes "sim", tree.List (one (codes "id") 1 ∷ one (codes "id") 2 ∷ [])) ∷ []))
unfolding toml_on_literals
tables_row = refl

pub nested_row : table_of (codes "x = [[1, 2], {y = 3}]") ≡ Some (tree.Object ((codes "x", tree.List (tree.List (tree.Whole (pos 1) ∷ tree.Whole (pos 2) ∷ []) ∷ one (codes "y") 3 ∷ [])) ∷ []))
unfolding toml_on_literals
nested_row = refl

pub no_value_row : table_of (codes "x =") ≡ None
unfolding toml_on_literals
no_value_row = refl

pub twice_row : table_of (codes "x = 1\nx = 2") ≡ None
unfolding toml_on_literals
twice_row = refl

pub too_great_row : table_of (codes "x = 9223372036854775808") ≡ None
unfolding toml_on_literals
too_great_row = refl
