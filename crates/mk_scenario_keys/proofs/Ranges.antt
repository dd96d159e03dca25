-- Where each number of a tree is in range, it is in each part of the tree.
use Rattle.std.proofs.Common.{◌≡◌, ℕ, Bool, true, false, List, [], ◌∷◌, map, Option, Some, None, IfSome, option_map, option_and_then, refl, sym, ap, ◌∙◌, subst, if◌then◌else◌}
use Rattle.std.specs.List.{list_all, find}
use Rattle.std.proofs.lemmas.Bool.{and_parts}
use Rattle.mk_base.specs.declared.json.Json.{Json, Json-F, out-Json, map-Json}
use Rattle.mk_base.specs.Lists.{same_text, value_under, Each}
use Rattle.mk_base.specs.Trees.{member, items_in, is_in_range, range_step, members_at, items_at}
use Rattle.mk_base.proofs.FoldsAgree.{folded_out}
use Rattle.mk_base.proofs.Lists.{none_some, some_same}

-- each number of the tree is in range
abbrev pub InRange : Json → Type 0
InRange tree = is_in_range tree ≡ true

abbrev ranged : List ℕ × Json → List ℕ × Bool
ranged m = (m.0, is_in_range m.1)

abbrev second : List ℕ × Bool → Bool
second m = m.1

members_range : (ms : List (List ℕ × Json)) (name : List ℕ) (v : Json) → list_all second (map ranged ms) ≡ true → value_under name ms ≡ Some v → InRange v
members_range [] name v all is = absurd (none_some is)
members_range (m ∷ ms) name v all is = at (same_text m.0 name) refl is (members_range ms name v)
  where
    both : (is_in_range m.1 ≡ true) × (list_all second (map ranged ms) ≡ true)
    both = and_parts (is_in_range m.1) (list_all second (map ranged ms)) all

    at : (b : Bool) → same_text m.0 name ≡ b → option_map (λ (e : List ℕ × Json). e.1) (if b then Some m else find (λ (e : List ℕ × Json). same_text e.0 name) ms) ≡ Some v → (list_all second (map ranged ms) ≡ true → value_under name ms ≡ Some v → InRange v) → InRange v
    at true e is more = ap is_in_range (sym (some_same is)) ∙ both.0
    at false e is more = more both.1 is

member_range : (tree v : Json) (name : List ℕ) → InRange tree → member name tree ≡ Some v → InRange v
member_range tree v name all is = at (out-Json tree) (sym (folded_out Bool range_step tree) ∙ all) is
  where
    at : (l : Json-F Json) → range_step (map-Json Json Bool is_in_range l) ≡ true → option_and_then (value_under name) (members_at l) ≡ Some v → InRange v
    at Json-F.Null all is = absurd (none_some is)
    at (Json-F.Bool b) all is = absurd (none_some is)
    at (Json-F.Whole n) all is = absurd (none_some is)
    at Json-F.Odd all is = absurd (none_some is)
    at (Json-F.Text s) all is = absurd (none_some is)
    at (Json-F.List js) all is = absurd (none_some is)
    at (Json-F.Object ms) all is = members_range ms name v all is

-- the value under a name, if there is one
pub under_range : (tree : Json) (name : List ℕ) → InRange tree → IfSome (member name tree) InRange
under_range tree name all = at (member name tree) refl
  where
    at : (o : Option Json) → member name tree ≡ o → IfSome o InRange
    at None e = tt
    at (Some v) e = member_range tree v name all e

each_range : (js : List Json) → list_all (λ (b : Bool). b) (map is_in_range js) ≡ true → Each InRange js
each_range [] all = tt
each_range (j ∷ js) all = let t = and_parts (is_in_range j) (list_all (λ (b : Bool). b) (map is_in_range js)) all in (t.0, each_range js t.1)

pub items_range : (tree : Json) (js : List Json) → InRange tree → items_in tree ≡ Some js → Each InRange js
items_range tree js all is = at (out-Json tree) (sym (folded_out Bool range_step tree) ∙ all) is
  where
    at : (l : Json-F Json) → range_step (map-Json Json Bool is_in_range l) ≡ true → items_at l ≡ Some js → Each InRange js
    at Json-F.Null all is = absurd (none_some is)
    at (Json-F.Bool b) all is = absurd (none_some is)
    at (Json-F.Whole n) all is = absurd (none_some is)
    at Json-F.Odd all is = absurd (none_some is)
    at (Json-F.Text s) all is = absurd (none_some is)
    at (Json-F.List ks) all is = subst (Each InRange) (some_same is) (each_range ks all)
    at (Json-F.Object ms) all is = absurd (none_some is)
