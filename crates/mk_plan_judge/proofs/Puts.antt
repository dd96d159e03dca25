-- Items put in order, one after the other: what comes of them depends on which they are, and not on
-- the order in which they come.
use Rattle.std.proofs.Common.{◌≡◌, ◌⊎◌, inl, inr, suc, ◌-◌, Bool, true, false, true≢false, not, List, [], ◌∷◌, ◌++◌, length, fold, Option, option_map, slice_get, refl, sym, ap, subst, ◌∙◌, arith}
use Rattle.std.specs.Prelude.{unwrap_or}
use Rattle.std.specs.Cmp.{IsTotalOrder}
use Rattle.std.specs.List.Sorted.{IsStrictlySortedBy}
use Rattle.std.specs.Ordering.{is_eq}
use Rattle.std.specs.declared.cmp.Ordering.{Ordering}
use Rattle.std.specs.declared.cmp.Ordering.TheVariants.{Less, Equal, Greater}
use Rattle.mk_base.specs.Lists.{IsIn, put, placed, last_of}
use Rattle.mk_base.proofs.Ordered.{turned}
pub use Rattle.mk_base.proofs.Ordered.{all_has, puts_sorted, same_sorted}

module _ {X : Type 0} where
  pub last_is : (xs : List X) → slice_get xs (length xs - 1) ≡ last_of xs
  last_is [] = refl
  last_is (x ∷ []) = refl
  last_is (x ∷ y ∷ ys) = let e : length (x ∷ y ∷ ys) - 1 ≡ suc (length (y ∷ ys) - 1) = omega arith in ap (slice_get (x ∷ y ∷ ys)) e ∙ last_is (y ∷ ys)

  -- the last of these, if there is one, is another than n
  abbrev is_other : (X → X → Ordering) → X → Option X → Bool
  is_other order n last = unwrap_or (option_map (λ y. not (is_eq (order y n))) last) true

  -- the same by the last place
  pub other_than_last : (order : X → X → Ordering) (n : X) (xs items : List X) (b : Bool) → items ≡ xs → b ≡ is_other order n (slice_get items (length items - 1)) → is_other order n (last_of xs) ≡ b
  other_than_last order n xs items b same is = ap (is_other order n) (sym (last_is xs)) ∙ ap (λ (l : List X). is_other order n (slice_get l (length l - 1))) (sym same) ∙ sym is

module _ {X : Type 0} (order : X → X → Ordering) where
  pub put_is_in : (x : X) (ys : List X) → IsIn x (put order x ys)
  put_is_in x [] = inl refl
  put_is_in x (y ∷ ys) = elim (order x y) as (λ o. IsIn x (placed o x y ys (put order x ys))) [ Less ↦ inl refl | Equal ↦ inl refl | Greater ↦ inr (put_is_in x ys) ]

  module _ (exact : (x y : X) → order x y ≡ Equal → x ≡ y) where
    put_keeps : (x z : X) (ys : List X) → IsIn z ys → IsIn z (put order x ys)
    put_keeps x z [] m = absurd m
    put_keeps x z (y ∷ ys) m = elim (order x y) as (λ o. order x y ≡ o → IsIn z (placed o x y ys (put order x ys))) [
      | Less ↦ λ e. inr m
      | Equal ↦ λ e. elim m [ inl q ↦ inl (q ∙ sym (exact x y e)) | inr r ↦ inr r ]
      | Greater ↦ λ e. elim m [ inl q ↦ inl q | inr r ↦ inr (put_keeps x z ys r) ]
    ] refl

    pub all_put_in : {C : Type 0} (f : C → X) (c : C) (cs : List C) (ys : List X) → IsIn (f c) ys ⊎ IsIn c cs → IsIn (f c) (fold (λ ws d. put order (f d) ws) ys cs)
    all_put_in f c [] ys (inl m) = m
    all_put_in f c [] ys (inr m) = absurd m
    all_put_in f c (d ∷ cs) ys (inl m) = all_put_in f c cs (put order (f d) ys) (inl (put_keeps (f d) (f c) ys m))
    all_put_in f c (d ∷ cs) ys (inr (inl e)) = all_put_in f c cs (put order (f d) ys) (inl (subst (λ (x : X). IsIn x (put order (f d) ys)) (ap f (sym e)) (put_is_in (f d) ys)))
    all_put_in f c (d ∷ cs) ys (inr (inr m)) = all_put_in f c cs (put order (f d) ys) (inr m)

module _ {X : Type 0} (order : X → X → Ordering) (total : IsTotalOrder order) where
  pub put_from : (x n : X) (ys : List X) → IsIn x (put order n ys) → (x ≡ n) ⊎ IsIn x ys
  put_from x n [] (inl q) = inl q
  put_from x n [] (inr m) = absurd m
  put_from x n (y ∷ ys) m = by (order n y) m (put_from x n ys)
    where
      by : (o : Ordering) → IsIn x (placed o n y ys (put order n ys)) → (IsIn x (put order n ys) → (x ≡ n) ⊎ IsIn x ys) → (x ≡ n) ⊎ IsIn x (y ∷ ys)
      by Less (inl q) rest = inl q
      by Less (inr r) rest = inr r
      by Equal (inl q) rest = inl q
      by Equal (inr r) rest = inr (inr r)
      by Greater (inl q) rest = inr (inl q)
      by Greater (inr r) rest = elim (rest r) [ inl q ↦ inl q | inr t ↦ inr (inr t) ]

  pub puts_from : {C : Type 0} (f : C → X) (x : X) (cs : List C) (xs : List X) → IsIn x (fold (λ ys c. put order (f c) ys) xs cs) → ((c : C) × IsIn c cs × (x ≡ f c)) ⊎ IsIn x xs
  puts_from f x [] xs m = inr m
  puts_from f x (c ∷ cs) xs m = elim (puts_from f x cs (put order (f c) xs) m) [ inl r ↦ inl (r.0, inr r.1, r.2) | inr r ↦ elim (put_from x (f c) xs r) [ inl q ↦ inl (c, inl refl, q) | inr t ↦ inr t ] ]

  -- ---- an item that none of these comes behind

  first_below : (y z n : X) → order y z ≡ Less → (order y n ≡ Greater → ⊥) → (order z n ≡ Greater → ⊥) → order n y ≡ Greater
  first_below y z n low a b = by (order y n) refl
    where
      by : (o : Ordering) → order y n ≡ o → order n y ≡ Greater
      by Less e = turned order total n y Less e
      by Equal e = absurd (b (turned order total z n Less (sym (total.congr y n z e) ∙ low)))
      by Greater e = absurd (a e)

  pub put_end : (n : X) (xs : List X) → IsStrictlySortedBy order xs → ((y : X) → IsIn y xs → order y n ≡ Greater → ⊥) → is_other order n (last_of xs) ≡ true → put order n xs ≡ xs ++ n ∷ []
  unfolding IsStrictlySortedBy
  put_end n [] sorted last other = refl
  put_end n (y ∷ []) sorted last other = ap (λ o. placed o n y [] (n ∷ [])) (by (order y n) refl other)
    where
      by : (o : Ordering) → order y n ≡ o → not (is_eq o) ≡ true → order n y ≡ Greater
      by Less e h = turned order total n y Less e
      by Equal e h = absurd (true≢false (sym h))
      by Greater e h = absurd (last y (inl refl) e)
  put_end n (y ∷ z ∷ zs) sorted last other = ap (λ o. placed o n y (z ∷ zs) (put order n (z ∷ zs))) (first_below y z n sorted.0.0 (last y (inl refl)) (last z (inr (inl refl))))
      ∙ ap (λ l. y ∷ l) (put_end n (z ∷ zs) sorted.1 (λ w m. last w (inr m)) other)

  module _ (exact : (x y : X) → order x y ≡ Equal → x ≡ y) where
    pub put_again : (n : X) (xs : List X) → IsStrictlySortedBy order xs → ((y : X) → IsIn y xs → order y n ≡ Greater → ⊥) → is_other order n (last_of xs) ≡ false → put order n xs ≡ xs
    unfolding IsStrictlySortedBy
    put_again n [] sorted last same = absurd (true≢false same)
    put_again n (y ∷ []) sorted last same = by (order y n) refl same
      where
        by : (o : Ordering) → order y n ≡ o → not (is_eq o) ≡ false → put order n (y ∷ []) ≡ y ∷ []
        by Less e h = absurd (true≢false h)
        by Equal e h = ap (λ o. placed o n y [] (n ∷ [])) (turned order total n y Equal e) ∙ ap (λ x. x ∷ []) (sym (exact y n e))
        by Greater e h = absurd (last y (inl refl) e)
    put_again n (y ∷ z ∷ zs) sorted last same = ap (λ o. placed o n y (z ∷ zs) (put order n (z ∷ zs))) (first_below y z n sorted.0.0 (last y (inl refl)) (last z (inr (inl refl))))
        ∙ ap (λ l. y ∷ l) (put_again n (z ∷ zs) sorted.1 (λ w m. last w (inr m)) same)

    -- the same items give the same list
    pub same_puts : {C D : Type 0} (f : C → X) (g : D → X) (cs : List C) (ds : List D) → ((c : C) → IsIn c cs → (d : D) × IsIn d ds × (f c ≡ g d)) → ((d : D) → IsIn d ds → (c : C) × IsIn c cs × (f c ≡ g d)) → fold (λ ys c. put order (f c) ys) [] cs ≡ fold (λ ys d. put order (g d) ys) [] ds
    unfolding IsStrictlySortedBy
    same_puts f g cs ds there back = same_sorted order total (fold (λ ys c. put order (f c) ys) [] cs) (fold (λ ys d. put order (g d) ys) [] ds) (puts_sorted order total f cs [] tt) (puts_sorted order total g ds [] tt)
        (λ x m. elim (puts_from f x cs [] m) [
          | inl r ↦ let d = there r.0 r.1 in subst (λ (y : X). IsIn y (fold (λ ys d. put order (g d) ys) [] ds)) (sym (r.2 ∙ d.2)) (all_put_in order exact g d.0 ds [] (inr d.1))
          | inr r ↦ absurd r
        ])
        (λ x m. elim (puts_from g x ds [] m) [
          | inl r ↦ let c = back r.0 r.1 in subst (λ (y : X). IsIn y (fold (λ ys c. put order (f c) ys) [] cs)) (c.2 ∙ sym r.2) (all_put_in order exact f c.0 cs [] (inr c.1))
          | inr r ↦ absurd r
        ])
