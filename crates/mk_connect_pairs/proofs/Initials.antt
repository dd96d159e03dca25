-- Initial values are data.
use Rattle.std.proofs.Common.{◌≡◌, ℕ, Bool, true, false, List, [], ◌∷◌, Option, Some, None, subst, IsTrue, if◌then◌else◌, unwrap_or, IfSome}
use Rattle.std.specs.Prelude.{option_and_then, option_map}
use Rattle.std.specs.List.{find}
use Rattle.mk_base.specs.declared.json.Json.{Json}
use Rattle.mk_base.specs.Lists.{Each, same_text, value_under}
use Rattle.mk_base.specs.Trees.{is_datum, is_in_range, member, members_in}
use Rattle.mk_base.proofs.Lists.{none_some, some_same}
use Rattle.mk_scenario_keys.specs.Keys.{IsObjectOfData}
use Rattle.mk_scenario_keys.proofs.Ranges.{InRange, under_range}

value_is_datum : (ms : List (List ℕ × Json)) (name : List ℕ) (v : Json) → Each (λ (m : List ℕ × Json). IsTrue (is_datum m.1)) ms → value_under name ms ≡ Some v → is_datum v ≡ true
value_is_datum [] name v all is = absurd (none_some is)
value_is_datum (m ∷ ms) name v all is = at (same_text m.0 name) is (value_is_datum ms name v all.1)
  where
    at : (b : Bool) → option_map (λ (e : List ℕ × Json). e.1) (if b then Some m else find (λ (e : List ℕ × Json). same_text e.0 name) ms) ≡ Some v
        → (value_under name ms ≡ Some v → is_datum v ≡ true) → is_datum v ≡ true
    at true is more = subst (λ u. is_datum u ≡ true) (some_same is) all.0
    at false is more = more is

pub initial_is_datum : (tree v : Json) (name : List ℕ) → IsObjectOfData tree → member name tree ≡ Some v → is_datum v ≡ true
initial_is_datum tree v name fine is = at (members_in tree) fine.2 is
  where
    at : (o : Option (List (List ℕ × Json))) → Each (λ (m : List ℕ × Json). IsTrue (is_datum m.1)) (unwrap_or o []) → option_and_then (value_under name) o ≡ Some v → is_datum v ≡ true
    at None all is = absurd (none_some is)
    at (Some ms) all is = value_is_datum ms name v all is

pub initial_in_range : (tree v : Json) (name : List ℕ) → IsObjectOfData tree → member name tree ≡ Some v → is_in_range v ≡ true
initial_in_range tree v name fine is = subst (λ (o : Option Json). IfSome o InRange) is (under_range tree name fine.1)
