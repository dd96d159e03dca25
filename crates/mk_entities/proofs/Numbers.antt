-- Numbers put in order are those of a range that pass a test.
use Rattle.std.proofs.Common.{◌≡◌, ℕ, zero, suc, ◌+◌, ◌<◌, ◌≤◌, nat_eq, Bool, true, false, ◌||◌, List, [], ◌∷◌, ◌++◌, filter, filter_map, Option, Some, None, refl, sym, ap, ◌∙◌, arith, if◌then◌else◌, unwrap_or, ◌⊎◌, inl, inr}
use Rattle.std.specs.Prelude.{option_map}
use Rattle.std.specs.List.{range_with_len, cons_option}
use Rattle.std.specs.Ordering.{nat_cmp}
use Rattle.std.specs.declared.cmp.Ordering.TheVariants.{Less, Equal, Greater}
use Rattle.std.specs.BTreeSet.{insert_key}
use Rattle.mk_entities.specs.Creation.{has_number}
use Rattle.mk_entities.specs.inner.Making.{with_numbers}
use Rattle.mk_base.proofs.Bools.{or_false, or_true}

less : (x y : ℕ) → x < y → nat_cmp x y ≡ Less
less x y h = grind arith

equal : (x y : ℕ) → x ≡ y → nat_cmp x y ≡ Equal
equal x y h = grind arith

greater : (x y : ℕ) → y < x → nat_cmp x y ≡ Greater
greater x y h = grind arith

other : (x y : ℕ) → y < x → nat_eq x y ≡ false
other x y h = grind arith

other_below : (x y : ℕ) → x < y → nat_eq x y ≡ false
other_below x y h = grind arith

-- a number before all of them goes first
first : (p : ℕ → Bool) (k a n : ℕ) → k < a → insert_key nat_cmp (filter p (range_with_len a n)) k ≡ k ∷ filter p (range_with_len a n)
first p k a zero below = refl
first p k a (suc n) below = at (p a) (first p k (a + 1) n (omega arith))
  where
    at : (b : Bool) → insert_key nat_cmp (filter p (range_with_len (a + 1) n)) k ≡ k ∷ filter p (range_with_len (a + 1) n)
        → insert_key nat_cmp (if b then a ∷ filter p (range_with_len (a + 1) n) else filter p (range_with_len (a + 1) n)) k ≡ k ∷ (if b then a ∷ filter p (range_with_len (a + 1) n) else filter p (range_with_len (a + 1) n))
    at true more = let l = less k a below in rw l refl
    at false more = more

-- a number that is none of them changes nothing
none_such : (p : ℕ → Bool) (k a n : ℕ) → k < a → filter (λ i. p i || nat_eq i k) (range_with_len a n) ≡ filter p (range_with_len a n)
none_such p k a zero below = refl
none_such p k a (suc n) below = let o = other a k below in rw o (rw (or_false (p a)) (ap (λ l. if p a then a ∷ l else l) (none_such p k (a + 1) n (omega arith))))

apart : (k a : ℕ) → a ≤ k → (k ≡ a) ⊎ (a < k)
apart k a h = grind arith

-- a number of the range is put among those that pass
pub put_in : (p : ℕ → Bool) (k a n : ℕ) → a ≤ k → k < a + n → insert_key nat_cmp (filter p (range_with_len a n)) k ≡ filter (λ i. p i || nat_eq i k) (range_with_len a n)
put_in p k a zero low high = absurd (omega arith)
put_in p k a (suc n) low high = at (apart k a low) (λ h. put_in p k (a + 1) n (omega arith) (omega arith))
  where
    rest : List ℕ
    rest = filter p (range_with_len (a + 1) n)

    here : (b : Bool) → k ≡ a → insert_key nat_cmp (if b then a ∷ filter p (range_with_len (a + 1) n) else filter p (range_with_len (a + 1) n)) k ≡ a ∷ filter p (range_with_len (a + 1) n)
    here true same = let e = equal k a same in rw e refl
    here false same = first p k (a + 1) n (omega arith) ∙ ap (λ x. x ∷ filter p (range_with_len (a + 1) n)) same

    later : (b : Bool) → a < k → insert_key nat_cmp (filter p (range_with_len (a + 1) n)) k ≡ filter (λ i. p i || nat_eq i k) (range_with_len (a + 1) n)
        → insert_key nat_cmp (if b then a ∷ filter p (range_with_len (a + 1) n) else filter p (range_with_len (a + 1) n)) k ≡ (if (b || nat_eq a k) then a ∷ filter (λ i. p i || nat_eq i k) (range_with_len (a + 1) n) else filter (λ i. p i || nat_eq i k) (range_with_len (a + 1) n))
    later true above more = let g = greater k a above in rw g (ap (λ l. a ∷ l) more)
    later false above more = let o = other_below a k above in rw o more

    at : (k ≡ a) ⊎ (a < k) → (a < k → insert_key nat_cmp (filter p (range_with_len (a + 1) n)) k ≡ filter (λ i. p i || nat_eq i k) (range_with_len (a + 1) n))
        → insert_key nat_cmp (filter p (range_with_len a (suc n))) k ≡ filter (λ i. p i || nat_eq i k) (range_with_len a (suc n))
    at (inl same) more = here (p a) same ∙ sym (ends same)
      where
        ends : k ≡ a → filter (λ i. p i || nat_eq i k) (range_with_len a (suc n)) ≡ a ∷ filter p (range_with_len (a + 1) n)
        ends same = let t : nat_eq a k ≡ true = grind arith in rw t (rw (or_true (p a)) (ap (λ l. a ∷ l) (none_such p k (a + 1) n (omega arith))))
    at (inr above) more = later (p a) above (more above)

or_assoc : (a b c : Bool) → ((a || b) || c) ≡ (a || (b || c))
or_assoc true b c = refl
or_assoc false b c = refl

module _ (number : List ℕ → Option ℕ) (count : ℕ) (below : (text : List ℕ) (i : ℕ) → number text ≡ Some i → i < count) where
  put_all : (texts : List (List ℕ)) (p : ℕ → Bool) → with_numbers (filter p (range_with_len 0 count)) (filter_map number texts) ≡ filter (λ i. p i || has_number number texts i) (range_with_len 0 count)
  put_all [] p = ap (λ (q : ℕ → Bool). filter q (range_with_len 0 count)) (λ j i. sym (or_false (p i)) j)
  put_all (text ∷ texts) p = at (number text) refl (put_all texts)
    where
      at : (r : Option ℕ) → number text ≡ r → ((q : ℕ → Bool) → with_numbers (filter q (range_with_len 0 count)) (filter_map number texts) ≡ filter (λ i. q i || has_number number texts i) (range_with_len 0 count))
          → with_numbers (filter p (range_with_len 0 count)) (cons_option r (filter_map number texts)) ≡ filter (λ i. p i || (unwrap_or (option_map (nat_eq i) r) false || has_number number texts i)) (range_with_len 0 count)
      at None is more = more p
      at (Some k) is more = ap (λ l. with_numbers l (filter_map number texts)) (put_in p k 0 count (omega arith) (let h = below text k is in omega arith))
          ∙ more (λ i. p i || nat_eq i k)
          ∙ ap (λ (q : ℕ → Bool). filter q (range_with_len 0 count)) (λ j i. or_assoc (p i) (nat_eq i k) (has_number number texts i) j)

  none_passes : (a n : ℕ) → filter (λ (i : ℕ). false) (range_with_len a n) ≡ []
  none_passes a zero = refl
  none_passes a (suc n) = none_passes (a + 1) n

  -- the numbers of these texts, put one after the other, are those of the range that one of them has
  pub put_is_filter : (texts : List (List ℕ)) → with_numbers [] (filter_map number texts) ≡ filter (has_number number texts) (range_with_len 0 count)
  put_is_filter texts = ap (λ l. with_numbers l (filter_map number texts)) (sym (none_passes 0 count)) ∙ put_all texts (λ i. false)

-- numbers put in two parts
pub put_parts : (xs ys zs : List ℕ) → with_numbers xs (ys ++ zs) ≡ with_numbers (with_numbers xs ys) zs
put_parts xs [] zs = refl
put_parts xs (y ∷ ys) zs = put_parts (insert_key nat_cmp xs y) ys zs
