-- What a JSON tree holds, one level at a time.
use Rattle.std.proofs.Common.{◌≡◌, ℕ, suc, ◌-◌, nat_le, nat_lt, ◌&&◌, ℤ, Bool, true, false, List, [], ◌∷◌, map, max, refl, ap, rules, ◌∙◌, arith}
use Rattle.std.specs.List.{list_all}
use Rattle.std.proofs.lemmas.List.Folds.{list_all-map}
use Rattle.std.proofs.lemmas.Simd.{map-map}
use Rattle.mk_base.specs.declared.json.Json.{Json, Json-F, the_lemmas}
use Rattle.mk_base.specs.declared.json.Json.TheViews as tree
use Rattle.mk_base.specs.declared.json.Json.TheVariants as leaf
use Rattle.mk_base.specs.Trees.{is_whole, whole_step, nesting, nesting_step, deepest}
use Rattle.mk_base.specs.Folds.{folded}
use Rattle.mk_base.proofs.FoldsAgree.{folded_out}
use Rattle.mk_base.proofs.OnTrees.{trees_compute}

pub level_list : {A : Type 0} (step : Json-F A → A) (ts : List Json) → folded A step (tree.List ts) ≡ step (Json-F.List (map (folded A step) ts))
level_list {A} step ts = folded_out A step (tree.List ts) ∙ ap step (search (rules, the_lemmas))

pub level_object : {A : Type 0} (step : Json-F A → A) (ms : List (List ℕ × Json)) → folded A step (tree.Object ms) ≡ step (Json-F.Object (map (λ (m : List ℕ × Json). let q : List ℕ × A = (m.0, folded A step m.1) in q) ms))
level_object {A} step ms = folded_out A step (tree.Object ms) ∙ ap step (search (rules, the_lemmas))

pub whole_items : (ts : List Json) → is_whole (tree.List ts) ≡ list_all (λ t. is_whole t) ts
whole_items ts = level_list whole_step ts ∙ list_all-map (λ b. b) is_whole ts

pub whole_members : (ms : List (List ℕ × Json)) → is_whole (tree.Object ms) ≡ list_all (λ (m : List ℕ × Json). is_whole m.1) ms
whole_members ms = level_object whole_step ms ∙ list_all-map (λ (m : List ℕ × Bool). m.1) (λ (m : List ℕ × Json). let q : List ℕ × Bool = (m.0, is_whole m.1) in q) ms

pub whole_null : is_whole leaf.Null ≡ true
unfolding trees_compute
whole_null = refl

pub whole_bool : (b : Bool) → is_whole (leaf.Bool b) ≡ true
unfolding trees_compute
whole_bool b = refl

pub whole_number : (n : ℤ) → is_whole (leaf.Whole n) ≡ true
unfolding trees_compute
whole_number n = refl

pub whole_odd : is_whole leaf.Odd ≡ false
unfolding trees_compute
whole_odd = refl

pub whole_text : (s : List ℕ) → is_whole (leaf.Text s) ≡ true
unfolding trees_compute
whole_text s = refl

pub nesting_null : nesting leaf.Null ≡ 0
unfolding trees_compute
nesting_null = refl

pub nesting_bool : (b : Bool) → nesting (leaf.Bool b) ≡ 0
unfolding trees_compute
nesting_bool b = refl

pub nesting_number : (n : ℤ) → nesting (leaf.Whole n) ≡ 0
unfolding trees_compute
nesting_number n = refl

pub nesting_odd : nesting leaf.Odd ≡ 0
unfolding trees_compute
nesting_odd = refl

pub nesting_text : (s : List ℕ) → nesting (leaf.Text s) ≡ 0
unfolding trees_compute
nesting_text s = refl

pub nesting_items : (ts : List Json) → nesting (tree.List ts) ≡ suc (deepest (map nesting ts))
nesting_items ts = level_list nesting_step ts

pub nesting_members : (ms : List (List ℕ × Json)) → nesting (tree.Object ms) ≡ suc (deepest (map (λ (m : List ℕ × Json). nesting m.1) ms))
nesting_members ms = level_object nesting_step ms ∙ ap (λ ns. suc (deepest ns)) (map-map (λ (m : List ℕ × ℕ). m.1) (λ (m : List ℕ × Json). let q : List ℕ × ℕ = (m.0, nesting m.1) in q) ms)

max_within : (m n d : ℕ) → nat_le (max m n) d ≡ (nat_le m d && nat_le n d)
max_within m n d = grind arith

pub zero_within : (d : ℕ) → nat_le 0 d ≡ true
zero_within d = grind arith

deepest_within : (ns : List ℕ) (d : ℕ) → nat_le (deepest ns) d ≡ list_all (λ n. nat_le n d) ns
deepest_within [] d = zero_within d
deepest_within (n ∷ ns) d = max_within n (deepest ns) d ∙ ap (λ b. nat_le n d && b) (deepest_within ns d)

-- a level more
one_more : (n d : ℕ) → nat_lt 0 d ≡ true → nat_le (suc n) d ≡ nat_le n (d - 1)
one_more n d h = grind arith

none_more : (n d : ℕ) → nat_lt 0 d ≡ false → nat_le (suc n) d ≡ false
none_more n d h = grind arith

-- a list nests within d where d is not 0 and its items nest within one less
pub items_within : (ts : List Json) (d : ℕ) → nat_lt 0 d ≡ true → nat_le (nesting (tree.List ts)) d ≡ list_all (λ t. nat_le (nesting t) (d - 1)) ts
items_within ts d h = ap (λ n. nat_le n d) (nesting_items ts) ∙ one_more (deepest (map nesting ts)) d h ∙ deepest_within (map nesting ts) (d - 1) ∙ list_all-map (λ n. nat_le n (d - 1)) nesting ts

pub members_within : (ms : List (List ℕ × Json)) (d : ℕ) → nat_lt 0 d ≡ true → nat_le (nesting (tree.Object ms)) d ≡ list_all (λ (m : List ℕ × Json). nat_le (nesting m.1) (d - 1)) ms
members_within ms d h = ap (λ n. nat_le n d) (nesting_members ms) ∙ one_more (deepest (map (λ (m : List ℕ × Json). nesting m.1) ms)) d h ∙ deepest_within (map (λ (m : List ℕ × Json). nesting m.1) ms) (d - 1) ∙ list_all-map (λ n. nat_le n (d - 1)) (λ (m : List ℕ × Json). nesting m.1) ms

pub items_not_within : (ts : List Json) (d : ℕ) → nat_lt 0 d ≡ false → nat_le (nesting (tree.List ts)) d ≡ false
items_not_within ts d h = ap (λ n. nat_le n d) (nesting_items ts) ∙ none_more (deepest (map nesting ts)) d h

pub members_not_within : (ms : List (List ℕ × Json)) (d : ℕ) → nat_lt 0 d ≡ false → nat_le (nesting (tree.Object ms)) d ≡ false
members_not_within ms d h = ap (λ n. nat_le n d) (nesting_members ms) ∙ none_more (deepest (map (λ (m : List ℕ × Json). nesting m.1) ms)) d h
