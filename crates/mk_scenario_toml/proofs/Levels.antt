-- The range of a tree's whole numbers, one level at a time.
use Rattle.std.proofs.Common.{◌≡◌, ℕ, ℤ, Bool, true, List, refl, ◌∙◌}
use Rattle.std.specs.List.{list_all}
use Rattle.std.proofs.lemmas.List.Folds.{list_all-map}
use Rattle.mk_base.specs.declared.json.Json.{Json}
use Rattle.mk_base.specs.declared.json.Json.TheViews as tree
use Rattle.mk_base.specs.declared.json.Json.TheVariants as leaf
use Rattle.mk_base.specs.Trees.{in_range, is_in_range, range_step, is_object}
use Rattle.mk_base.proofs.OnTrees.{trees_compute}
use Rattle.mk_base.proofs.Levels.{level_list, level_object}

pub range_bool : (b : Bool) → is_in_range (leaf.Bool b) ≡ true
unfolding trees_compute
range_bool b = refl

pub range_number : (n : ℤ) → is_in_range (leaf.Whole n) ≡ in_range n
unfolding trees_compute
range_number n = refl

pub range_odd : is_in_range leaf.Odd ≡ true
unfolding trees_compute
range_odd = refl

pub range_text : (s : List ℕ) → is_in_range (leaf.Text s) ≡ true
unfolding trees_compute
range_text s = refl

pub range_items : (ts : List Json) → is_in_range (tree.List ts) ≡ list_all is_in_range ts
range_items ts = level_list range_step ts ∙ list_all-map (λ b. b) is_in_range ts

pub range_members : (ms : List (List ℕ × Json)) → is_in_range (tree.Object ms) ≡ list_all (λ (m : List ℕ × Json). is_in_range m.1) ms
range_members ms = level_object range_step ms ∙ list_all-map (λ (m : List ℕ × Bool). m.1) (λ (m : List ℕ × Json). let q : List ℕ × Bool = (m.0, is_in_range m.1) in q) ms

pub object_is : (ms : List (List ℕ × Json)) → is_object (tree.Object ms) ≡ true
unfolding trees_compute
object_is ms = refl
