-- The trees of lists of values.
use Rattle.std.proofs.Common.{◌≡◌, ℕ, List, [], ◌∷◌, map, String, Global, string_bytes, Less, refl, ap}
use Rattle.std.specs.List.{AllByRecursion}
use Rattle.std.specs.List.Sorted.{IsStrictlySortedBy}
use Rattle.std.specs.Map.{keys_of}
use Rattle.std.specs.String.{string_cmp}
use Rattle.std.specs.Ordering.{nat_cmp}
use Rattle.std.specs.Cmp.Lexicographic.{slice_cmp}
use Rattle.toml.specs.View.{view, items_view, members_view}
use Rattle.toml.specs.declared.value.Value.{Value}
use Rattle.mk_base.specs.declared.json.Json.{Json}
use Rattle.mk_scenario_toml.specs.Document.{tree_of, items_of, members_of}

pub items_of-items_view : (vs : List Value) → items_of (items_view vs) ≡ map (λ v. tree_of (view v)) vs
items_of-items_view [] = refl
items_of-items_view (v ∷ vs) = ap (λ ts. tree_of (view v) ∷ ts) (items_of-items_view vs)

abbrev pub member_of : String Global × Value → List ℕ × Json
member_of e = (string_bytes e.0, tree_of (view e.1))

pub members_of-members_view : (es : List (String Global × Value)) → members_of (members_view es) ≡ map member_of es
members_of-members_view [] = refl
members_of-members_view (e ∷ es) = ap (λ ts. member_of e ∷ ts) (members_of-members_view es)

-- a table's entries stand in order of their names
later_names : (k : String Global) (es : List (String Global × Value)) → AllByRecursion (λ l. string_cmp k l ≡ Less) (keys_of es) → AllByRecursion (λ l. slice_cmp nat_cmp (string_bytes k) l ≡ Less) (keys_of (map member_of es))
later_names k [] h = tt
later_names k (e ∷ es) h = (h.0, later_names k es h.1)

pub sorted-member_of : (es : List (String Global × Value)) → IsStrictlySortedBy string_cmp (keys_of es) → IsStrictlySortedBy (slice_cmp nat_cmp) (keys_of (map member_of es))
unfolding IsStrictlySortedBy
sorted-member_of [] h = tt
sorted-member_of (e ∷ es) h = (later_names e.0 es h.0, sorted-member_of es h.1)
