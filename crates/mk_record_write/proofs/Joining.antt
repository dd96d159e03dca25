-- Lists written item by item, with commas between.
use Rattle.std.proofs.Common.{◌≡◌, ℕ, zero, suc, ◌+◌, ◌<◌, ◌≤◌, Bool, true, List, [], ◌∷◌, ◌++◌, length, map, take, get_or, codes, refl, sym, ap, ◌∙◌, subst, append_assoc, arith}
use Rattle.std.specs.List.{join_with_byte, list_all}
use Rattle.std.proofs.lemmas.Bool.{and_parts, and_from}
use Rattle.std.proofs.lemmas.List.{take_more, take_all}
use Rattle.mk_base.specs.Texts.{list_text}
use Rattle.mk_base.proofs.Lists.{map_append}
use Rattle.mk_record_write.specs.inner.Commas.{comma_before}
use Rattle.mk_base.proofs.Items.{length_map}

-- one more text behind others
joined_more : (x y : List ℕ) (xs : List (List ℕ)) → join_with_byte 44 (x ∷ xs ++ y ∷ []) ≡ join_with_byte 44 (x ∷ xs) ++ (44 ∷ y)
joined_more x y [] = refl
joined_more x y (z ∷ zs) = ap (λ l. x ++ (44 ∷ l)) (joined_more z y zs) ∙ sym (append_assoc x (44 ∷ join_with_byte 44 (z ∷ zs)) (44 ∷ y))

joined_push : (xs : List (List ℕ)) (y : List ℕ) → join_with_byte 44 (xs ++ y ∷ []) ≡ (join_with_byte 44 xs ++ comma_before (length xs)) ++ y
joined_push [] y = refl
joined_push (x ∷ xs) y = joined_more x y xs ∙ sym (append_assoc (join_with_byte 44 (x ∷ xs)) (44 ∷ []) y)

length_taken : {X : Type 0} (k : ℕ) (xs : List X) → k < length xs → length (take k xs) ≡ k
length_taken zero xs h = refl
length_taken (suc k) [] h = absurd (omega arith)
length_taken (suc k) (x ∷ xs) h = ap suc (length_taken k xs (omega (arith, h)))

module _ {X : Type 0} (f : X → List ℕ) (base : List ℕ) (xs : List X) (k : ℕ) where
  -- the text of the first items
  abbrev so_far : ℕ → List ℕ
  so_far n = base ++ join_with_byte 44 (map f (take n xs))

  -- one more item, and the comma before it
  pub one_joined : (d : X) (out between new : List ℕ) → k < length xs → out ≡ so_far k → between ≡ out ++ comma_before k → new ≡ between ++ f (get_or xs k d) → new ≡ so_far (k + 1)
  one_joined d out between new low before comma item =
      let x : X = get_or xs k d in
      let shown : List ℕ = join_with_byte 44 (map f (take k xs)) in
      let count : length (map f (take k xs)) ≡ k = length_map f (take k xs) ∙ length_taken k xs low in
      let texts : map f (take (k + 1) xs) ≡ map f (take k xs) ++ f x ∷ [] = ap (map f) (take_more xs k d low) ∙ map_append f (take k xs) (x ∷ []) in
      let joined : join_with_byte 44 (map f (take (k + 1) xs)) ≡ (shown ++ comma_before k) ++ f x =
      ap (join_with_byte 44) texts ∙ joined_push (map f (take k xs)) (f x) ∙ ap (λ n. (shown ++ comma_before n) ++ f x) count in
      item ∙ ap (λ l. l ++ f x) (comma ∙ ap (λ l. l ++ comma_before k) before ∙ append_assoc base shown (comma_before k))
      ∙ append_assoc base (shown ++ comma_before k) (f x) ∙ ap (λ l. base ++ l) (sym joined)

  -- all items, between brackets
  pub all_joined : (first out new : List ℕ) → base ≡ first ++ codes "[" → length xs ≤ k → out ≡ so_far k → new ≡ out ++ codes "]" → new ≡ first ++ list_text (map f xs)
  all_joined first out new begun past before after =
      let all : take k xs ≡ xs = take_all k xs past in
      let shown : List ℕ = join_with_byte 44 (map f xs) in
      after ∙ ap (λ l. l ++ codes "]") (before ∙ ap (λ (l : List X). base ++ join_with_byte 44 (map f l)) all ∙ ap (λ l. l ++ shown) begun ∙ append_assoc first (codes "[") shown)
      ∙ append_assoc first (codes "[" ++ shown) (codes "]")

-- what each item passes
module _ {X : Type 0} (p : X → Bool) where
  all_push : (xs : List X) (x : X) → list_all p xs ≡ true → p x ≡ true → list_all p (xs ++ x ∷ []) ≡ true
  all_push [] x h q = and_from _ _ q refl
  all_push (y ∷ ys) x h q = let t = and_parts (p y) (list_all p ys) h in and_from _ _ t.0 (all_push ys x t.1 q)

  -- one more item
  pub all_more : (xs : List X) (k : ℕ) (x : X) → k < length xs → x ≡ get_or xs k x → list_all p (take k xs) ≡ true → p x ≡ true → list_all p (take (k + 1) xs) ≡ true
  all_more xs k x low is before here =
      subst (λ (l : List X). list_all p l ≡ true) (sym (take_more xs k x low ∙ ap (λ (y : X). take k xs ++ y ∷ []) (sym is))) (all_push (take k xs) x before here)

  -- all items
  pub all_passed : (xs : List X) (k : ℕ) → length xs ≤ k → list_all p (take k xs) ≡ true → list_all p xs ≡ true
  all_passed xs k past h = subst (λ (l : List X). list_all p l ≡ true) (take_all k xs past) h

-- the parts of a plan behind one another
pub parts_in_a_row : (out h r s m e c a : List ℕ) → (((out ++ h) ++ r) ++ (s ++ (m ++ e))) ++ (c ++ a) ≡ out ++ ((((((h ++ r) ++ s) ++ m) ++ e) ++ c) ++ a)
parts_in_a_row out h r s m e c a = simp append_assoc
