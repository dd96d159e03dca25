-- The tests of a tree at a list and at an object.
use Rattle.std.proofs.Common.{◌≡◌, ℕ, Bool, ◌&&◌, List, [], ◌∷◌, map, ap, ap₂, refl, ◌∙◌}
use Rattle.std.specs.List.{list_all}
use Rattle.std.specs.Map.{keys_of}
use Rattle.std.specs.Str.{is_utf8}
use Rattle.mk_base.specs.declared.json.Json as tree
use Rattle.mk_base.specs.Trees.{is_in_range}
use Rattle.mk_base.specs.Proper.{is_proper, names_rise}
use Rattle.mk_base.specs.inner.Proper.{are_proper}
use Rattle.mk_json.proofs.Layers.{folded-List, folded-Object}

-- all pass where each passes
pub all_of_list : (f : tree.Json → Bool) (ts : List tree.Json) → list_all (λ (b : Bool). b) (map f ts) ≡ list_all f ts
all_of_list f [] = refl
all_of_list f (t ∷ ts) = ap (λ b. f t && b) (all_of_list f ts)

pub all_of_members : (f : tree.Json → Bool) (ms : List (List ℕ × tree.Json)) → list_all (λ (m : List ℕ × Bool). m.1) (map (λ (m : List ℕ × tree.Json). (m.0, f m.1)) ms) ≡ list_all (λ (m : List ℕ × tree.Json). f m.1) ms
all_of_members f [] = refl
all_of_members f (m ∷ ms) = ap (λ b. f m.1 && b) (all_of_members f ms)

pub keys_of_members : {A B : Type 0} (f : A → B) (ms : List (List ℕ × A)) → keys_of (map (λ (m : List ℕ × A). (m.0, f m.1)) ms) ≡ keys_of ms
keys_of_members f [] = refl
keys_of_members f (m ∷ ms) = ap (λ l. m.0 ∷ l) (keys_of_members f ms)

pub range-List : (ts : List tree.Json) → is_in_range (tree.List ts) ≡ list_all is_in_range ts
range-List ts = folded-List _ _ ts ∙ all_of_list is_in_range ts

pub range-Object : (ms : List (List ℕ × tree.Json)) → is_in_range (tree.Object ms) ≡ list_all (λ (m : List ℕ × tree.Json). is_in_range m.1) ms
range-Object ms = folded-Object _ _ ms ∙ all_of_members is_in_range ms

pub proper-List : (ts : List tree.Json) → is_proper (tree.List ts) ≡ list_all is_proper ts
proper-List ts = folded-List _ _ ts ∙ all_of_list is_proper ts

pub proper-Object : (ms : List (List ℕ × tree.Json)) → is_proper (tree.Object ms) ≡ are_proper ms
proper-Object ms = folded-Object _ _ ms ∙ ap₂ (λ ks b. names_rise ks && list_all is_utf8 ks && b) (keys_of_members is_proper ms) (all_of_members is_proper ms)
