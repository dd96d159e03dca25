-- What is described under a tree, one level at a time.
use Rattle.std.proofs.Common.{◌≡◌, ℕ, zero, suc, ◌+◌, ◌<◌, ◌≤◌, Bool, true, false, max, List, [], ◌∷◌, ◌++◌, map, flat_map, Option, Some, None, unwrap_or, codes, refl, sym, ap, subst, ◌∙◌, inl, inr, arith, length, take, get_or, if◌then◌else◌, append_assoc}
use Rattle.std.specs.Prelude.{option_and_then, option_map}
use Rattle.std.specs.List.{find, filter_map, cons_option}
use Rattle.std.proofs.lemmas.List.{take_more}
use Rattle.mk_base.specs.declared.json.Json.{Json, Json-F, out-Json, map-Json}
use Rattle.mk_base.specs.Lists.{IsIn, same_text, value_under}
use Rattle.mk_base.specs.Trees.{member, nesting, nesting_step, deepest, members_at}
use Rattle.mk_base.proofs.FoldsAgree.{folded_out}
use Rattle.mk_base.proofs.Lists.{none_some, some_same, append_nil}
use Rattle.mk_meta.specs.Metadata.{unless_missing}
use Rattle.mk_entities.specs.declared.described.Described.{Described}
use Rattle.mk_entities.specs.Descriptions.{list_in, children_in, described, below, family}

-- ---- how deep the parts of a tree nest

in_deepest : {X : Type 0} (f : X → ℕ) (x : X) (xs : List X) → IsIn x xs → f x ≤ deepest (map f xs)
in_deepest f x [] m = absurd m
in_deepest f x (y ∷ ys) (inl e) = subst (λ z. f x ≤ max (f z) (deepest (map f ys))) e (omega arith)
in_deepest f x (y ∷ ys) (inr m) = let h = in_deepest f x ys m in omega arith

value_nests : (ms : List (List ℕ × Json)) (name : List ℕ) (v : Json) → value_under name ms ≡ Some v → nesting v ≤ deepest (map (λ (m : List ℕ × ℕ). m.1) (map (λ (m : List ℕ × Json). (m.0, nesting m.1)) ms))
value_nests [] name v is = absurd (none_some is)
value_nests (m ∷ ms) name v is = at (same_text m.0 name) is (value_nests ms name v)
  where
    at : (b : Bool) → option_map (λ (e : List ℕ × Json). e.1) (if b then Some m else find (λ (e : List ℕ × Json). same_text e.0 name) ms) ≡ Some v
        → (value_under name ms ≡ Some v → nesting v ≤ deepest (map (λ (m : List ℕ × ℕ). m.1) (map (λ (m : List ℕ × Json). (m.0, nesting m.1)) ms)))
        → nesting v ≤ max (nesting m.1) (deepest (map (λ (m : List ℕ × ℕ). m.1) (map (λ (m : List ℕ × Json). (m.0, nesting m.1)) ms)))
    at true is more = subst (λ z. nesting z ≤ max (nesting m.1) (deepest (map (λ (m : List ℕ × ℕ). m.1) (map (λ (m : List ℕ × Json). (m.0, nesting m.1)) ms)))) (some_same is) (omega arith)
    at false is more = let h = more is in omega arith

member_nests : (tree v : Json) (name : List ℕ) → member name tree ≡ Some v → nesting v < nesting tree
member_nests tree v name is = subst (λ n. nesting v < n) (sym (folded_out ℕ nesting_step tree)) (at (out-Json tree) is)
  where
    at : (l : Json-F Json) → option_and_then (value_under name) (members_at l) ≡ Some v → nesting v < nesting_step (map-Json Json ℕ nesting l)
    at Json-F.Null is = absurd (none_some is)
    at (Json-F.Bool b) is = absurd (none_some is)
    at (Json-F.Whole n) is = absurd (none_some is)
    at Json-F.Odd is = absurd (none_some is)
    at (Json-F.Text s) is = absurd (none_some is)
    at (Json-F.List js) is = absurd (none_some is)
    at (Json-F.Object ms) is = let h = value_nests ms name v is in omega arith

abbrev layer_items : Json-F Json → Option (List Json)
layer_items Json-F.Null = Some []
layer_items (Json-F.List js) = Some js
layer_items _ = None

item_nests : (tree c : Json) → IsIn c (unwrap_or (list_in tree) []) → nesting c < nesting tree
item_nests tree c m = subst (λ n. nesting c < n) (sym (folded_out ℕ nesting_step tree)) (at (out-Json tree) m)
  where
    at : (l : Json-F Json) → IsIn c (unwrap_or (layer_items l) []) → nesting c < nesting_step (map-Json Json ℕ nesting l)
    at Json-F.Null m = absurd m
    at (Json-F.Bool b) m = absurd m
    at (Json-F.Whole n) m = absurd m
    at Json-F.Odd m = absurd m
    at (Json-F.Text s) m = absurd m
    at (Json-F.Object ms) m = absurd m
    at (Json-F.List js) m = let h = in_deepest nesting c js m in omega arith

pub child_nests : (tree c : Json) → IsIn c (children_in tree) → nesting c < nesting tree
child_nests tree c m = at (member (codes "children") tree) refl m
  where
    at : (r : Option Json) → member (codes "children") tree ≡ r → IsIn c (unwrap_or (unless_missing [] list_in r) []) → nesting c < nesting tree
    at None e m = absurd m
    at (Some v) e m = let h = item_nests v c m in let k = member_nests tree v (codes "children") e in omega arith

-- ---- a family and the families of the children

flat_same : {X Y : Type 0} (f g : X → List Y) (xs : List X) → ((x : X) → IsIn x xs → f x ≡ g x) → flat_map f xs ≡ flat_map g xs
flat_same f g [] h = refl
flat_same f g (x ∷ xs) h = λ i. h x (inl refl) i ++ flat_same f g xs (λ y m. h y (inr m)) i

none_in : {X : Type 0} (xs : List X) → ((x : X) → IsIn x xs → ⊥) → xs ≡ []
none_in [] h = refl
none_in (x ∷ xs) h = absurd (h x (inl refl))

no_children : (tree : Json) → nesting tree ≤ 0 → children_in tree ≡ []
no_children tree flat = none_in (children_in tree) (λ c m. let h = child_nests tree c m in omega arith)

abbrev with_below : ℕ → Json → List Described
with_below n child = described true child ∷ below n child

same_below : (m n : ℕ) (tree : Json) → nesting tree ≤ m → nesting tree ≤ n → below m tree ≡ below n tree
same_below zero zero tree h k = refl
same_below zero (suc n) tree h k = sym (ap (flat_map (with_below n)) (no_children tree h))
same_below (suc m) zero tree h k = ap (flat_map (with_below m)) (no_children tree k)
same_below (suc m) (suc n) tree h k = flat_same (with_below m) (with_below n) (children_in tree) (λ c i. let d = child_nests tree c i in ap (λ l. described true c ∷ l) (same_below m n c (omega arith) (omega arith)))

pub family_is : (is_child : Bool) (tree : Json) → family is_child tree ≡ described is_child tree ∷ flat_map (family true) (children_in tree)
family_is is_child tree = ap (λ l. described is_child tree ∷ l) (at (nesting tree) refl)
  where
    at : (n : ℕ) → nesting tree ≡ n → below n tree ≡ flat_map (family true) (children_in tree)
    at zero e = sym (ap (flat_map (family true)) (no_children tree (omega arith)))
    at (suc n) e = flat_same (with_below n) (family true) (children_in tree) (λ c i. let d = child_nests tree c i in ap (λ l. described true c ∷ l) (same_below n (nesting c) c (omega arith) (omega arith)))

-- ---- one more item

flat_append : {X Y : Type 0} (f : X → List Y) (xs ys : List X) → flat_map f (xs ++ ys) ≡ flat_map f xs ++ flat_map f ys
flat_append f [] ys = refl
flat_append f (x ∷ xs) ys = ap (λ l. f x ++ l) (flat_append f xs ys) ∙ sym (append_assoc (f x) (flat_map f xs) (flat_map f ys))

pub flat_more : {X Y : Type 0} (f : X → List Y) (xs : List X) (i : ℕ) (x : X) → i < length xs → x ≡ get_or xs i x → flat_map f (take (i + 1) xs) ≡ flat_map f (take i xs) ++ f x
flat_more f xs i x below is = ap (flat_map f) (take_more xs i x below ∙ ap (λ z. take i xs ++ z ∷ []) (sym is)) ∙ flat_append f (take i xs) (x ∷ []) ∙ ap (λ l. flat_map f (take i xs) ++ l) (append_nil (f x))

consed : {X : Type 0} (r : Option X) (xs ys : List X) → cons_option r (xs ++ ys) ≡ cons_option r xs ++ ys
consed None xs ys = refl
consed (Some x) xs ys = refl

filter_map_append : {X Y : Type 0} (f : X → Option Y) (xs : List X) (x : X) → filter_map f (xs ++ x ∷ []) ≡ filter_map f xs ++ cons_option (f x) []
filter_map_append f [] x = refl
filter_map_append f (y ∷ xs) x = ap (cons_option (f y)) (filter_map_append f xs x) ∙ consed (f y) (filter_map f xs) (cons_option (f x) [])

pub filter_map_more : {X Y : Type 0} (f : X → Option Y) (xs : List X) (i : ℕ) (x : X) → i < length xs → x ≡ get_or xs i x → filter_map f (take (i + 1) xs) ≡ filter_map f (take i xs) ++ cons_option (f x) []
filter_map_more f xs i x below is = ap (filter_map f) (take_more xs i x below ∙ ap (λ z. take i xs ++ z ∷ []) (sym is)) ∙ filter_map_append f (take i xs) x

-- an item of the children is one of them
pub in_children : (trees : List Json) (i : ℕ) (x tree : Json) → i < length trees → x ≡ get_or trees i x → trees ≡ children_in tree → IsIn x (children_in tree)
in_children trees i x tree below is same = subst (IsIn x) same (get_in trees i x below is)
  where
    get_in : (xs : List Json) (i : ℕ) (x : Json) → i < length xs → x ≡ get_or xs i x → IsIn x xs
    get_in [] i x below is = absurd (omega arith)
    get_in (y ∷ ys) zero x below is = inl is
    get_in (y ∷ ys) (suc i) x below is = inr (get_in ys i x (omega arith) is)
