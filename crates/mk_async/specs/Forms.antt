-- The tests of a request's form, as they go through the argument.
use Rattle.std.specs.Prelude.{ℕ, Bool, false, ◌&&◌, List, Option, is_some, option_map, unwrap_or}
use Rattle.std.specs.List.{list_all}
use Rattle.mk_base.specs.declared.json.Json.{Json}
use Rattle.mk_base.specs.Trees.{text_in, items_in, members_in, is_datum, is_in_range}

-- something is there and passes
abbrev pub is_such : {X : Type 0} → (X → Bool) → Option X → Bool
is_such {X} test o = unwrap_or (option_map test o) false

-- each of these trees is a text
abbrev pub are_texts : List Json → Bool
are_texts trees = list_all (λ t. is_some (text_in t)) trees

-- a list of texts
abbrev pub is_texts : Json → Bool
is_texts tree = is_such are_texts (items_in tree)

-- the value of each member passes
abbrev pub each_passes : (Json → Bool) → List (List ℕ × Json) → Bool
each_passes test ms = list_all (λ (m : List ℕ × Json). test m.1) ms

-- an object whose members pass
abbrev pub is_object_of : (Json → Bool) → Json → Bool
is_object_of test tree = is_such (each_passes test) (members_in tree)

-- a value whose whole numbers are in range
abbrev pub is_value : Json → Bool
is_value tree = is_datum tree && is_in_range tree

-- an object of values
abbrev pub is_values : Json → Bool
is_values = is_object_of is_datum

-- an object of objects of values
abbrev pub is_destinations : Json → Bool
is_destinations = is_object_of is_values
