-- What stands in a tree whose numbers are in range has its numbers in range.
use Rattle.std.proofs.Common.{◌≡◌, ℕ, Bool, true, false, ◌&&◌, List, [], ◌∷◌, map, Option, Some, None, option_map, option_and_then, refl, sym, ap, ◌∙◌, true≢false, if◌then◌else◌}
use Rattle.std.specs.List.{list_all, find}
use Rattle.mk_base.specs.declared.json.Json.{Json, Json-F, out-Json, map-Json}
use Rattle.mk_base.specs.Lists.{same_text, value_under}
use Rattle.mk_base.specs.Trees.{member, is_in_range, range_step, members_at}
use Rattle.mk_base.proofs.FoldsAgree.{folded_out}
use Rattle.mk_base.proofs.Lists.{none_some, some_same}

members_pass : (ms : List (List ℕ × Json)) (name : List ℕ) (v : Json) → list_all (λ (m : List ℕ × Bool). m.1) (map (λ (m : List ℕ × Json). (m.0, is_in_range m.1)) ms) ≡ true → value_under name ms ≡ Some v → is_in_range v ≡ true
members_pass [] name v all is = absurd (none_some is)
members_pass (m ∷ ms) name v all is = at (same_text m.0 name) (is_in_range m.1) refl refl all is (members_pass ms name v)
  where
    rest : List (List ℕ × Bool)
    rest = map (λ (m : List ℕ × Json). (m.0, is_in_range m.1)) ms

    at : (b c : Bool) → same_text m.0 name ≡ b → is_in_range m.1 ≡ c → (c && list_all (λ (m : List ℕ × Bool). m.1) (map (λ (m : List ℕ × Json). (m.0, is_in_range m.1)) ms)) ≡ true
        → option_map (λ (e : List ℕ × Json). e.1) (if b then Some m else find (λ (e : List ℕ × Json). same_text e.0 name) ms) ≡ Some v
        → (list_all (λ (m : List ℕ × Bool). m.1) (map (λ (m : List ℕ × Json). (m.0, is_in_range m.1)) ms) ≡ true → value_under name ms ≡ Some v → is_in_range v ≡ true) → is_in_range v ≡ true
    at b false e f all is more = absurd (true≢false (sym all))
    at true true e f all is more = ap is_in_range (sym (some_same is)) ∙ f
    at false true e f all is more = more all is

member_in_range : (tree v : Json) (name : List ℕ) → is_in_range tree ≡ true → member name tree ≡ Some v → is_in_range v ≡ true
member_in_range tree v name all is = at (out-Json tree) (sym (folded_out Bool range_step tree) ∙ all) is
  where
    at : (l : Json-F Json) → range_step (map-Json Json Bool is_in_range l) ≡ true → option_and_then (value_under name) (members_at l) ≡ Some v → is_in_range v ≡ true
    at Json-F.Null all is = absurd (none_some is)
    at (Json-F.Bool b) all is = absurd (none_some is)
    at (Json-F.Whole n) all is = absurd (none_some is)
    at Json-F.Odd all is = absurd (none_some is)
    at (Json-F.Text s) all is = absurd (none_some is)
    at (Json-F.List js) all is = absurd (none_some is)
    at (Json-F.Object ms) all is = members_pass ms name v all is

pub value_in_range : (content v : Json) (eid attr : List ℕ) → is_in_range content ≡ true → option_and_then (member attr) (member eid content) ≡ Some v → is_in_range v ≡ true
value_in_range content v eid attr all is = at (member eid content) refl is
  where
    at : (o : Option Json) → member eid content ≡ o → option_and_then (member attr) o ≡ Some v → is_in_range v ≡ true
    at None e is = absurd (none_some is)
    at (Some part) e is = member_in_range part v attr (member_in_range content part eid all e) is
