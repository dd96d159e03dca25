-- Lists that are joined over the same numbers, compared by their lengths.
use Rattle.std.proofs.Common.{◌≡◌, inl, inr, ℕ, zero, suc, ◌+◌, ◌<◌, ◌≤◌, List, [], ◌∷◌, length, flat_map, refl, subst, sym, length-append, arith}
use Rattle.std.specs.List.{range_with_len}
use Rattle.mk_base.specs.Lists.{IsIn}
use Rattle.mk_base.proofs.Lists.{in_range}
use Rattle.mk_order_any.proofs.Lists.{same_or_not}

module _ {X : Type 0} (f g : ℕ → List X) where
  -- no part is longer
  pub none_longer : (xs : List ℕ) → ((i : ℕ) → IsIn i xs → length (f i) ≤ length (g i)) → length (flat_map f xs) ≤ length (flat_map g xs)
  none_longer [] all = omega arith
  none_longer (x ∷ xs) all =
      let head = all x (inl refl) in
      let tail = none_longer xs (λ i m. all i (inr m)) in
      let a = length-append (f x) (flat_map f xs) in
      let b = length-append (g x) (flat_map g xs) in
      omega (arith, head, tail, a, b)

  -- and one is shorter
  pub one_shorter : (xs : List ℕ) (k : ℕ) → IsIn k xs → ((i : ℕ) → IsIn i xs → length (f i) ≤ length (g i)) → length (f k) < length (g k) → length (flat_map f xs) < length (flat_map g xs)
  one_shorter [] k there all less = absurd there
  one_shorter (x ∷ xs) k (inl e) all less =
      let head : length (f x) < length (g x) = subst (λ (i : ℕ). length (f i) < length (g i)) e less in
      let tail = none_longer xs (λ i m. all i (inr m)) in
      let a = length-append (f x) (flat_map f xs) in
      let b = length-append (g x) (flat_map g xs) in
      omega (arith, head, tail, a, b)
  one_shorter (x ∷ xs) k (inr there) all less =
      let head = all x (inl refl) in
      let tail = one_shorter xs k there (λ i m. all i (inr m)) less in
      let a = length-append (f x) (flat_map f xs) in
      let b = length-append (g x) (flat_map g xs) in
      omega (arith, head, tail, a, b)

  -- over numbers in a row, where one part is longer by one at most, and no other part is longer
  pub one_longer : (a n k : ℕ) → ((i : ℕ) → (i ≡ k → ⊥) → length (f i) ≤ length (g i)) → length (f k) ≤ length (g k) + 1 → length (flat_map f (range_with_len a n)) ≤ length (flat_map g (range_with_len a n)) + 1
  one_longer a zero k others own = omega arith
  one_longer a (suc n) k others own = elim (same_or_not a k) [
    | inl e ↦
        let head : length (f a) ≤ length (g a) + 1 = subst (λ (i : ℕ). length (f i) ≤ length (g i) + 1) (sym e) own in
        let tail = none_longer (range_with_len (a + 1) n) (λ i m. let r = in_range i (a + 1) n m in others i (λ q. absurd (omega (arith, r.0, e, q)))) in
        let b = length-append (f a) (flat_map f (range_with_len (a + 1) n)) in
        let c = length-append (g a) (flat_map g (range_with_len (a + 1) n)) in
        omega (arith, head, tail, b, c)
    | inr apart ↦
        let head = others a apart in
        let tail = one_longer (a + 1) n k others own in
        let b = length-append (f a) (flat_map f (range_with_len (a + 1) n)) in
        let c = length-append (g a) (flat_map g (range_with_len (a + 1) n)) in
        omega (arith, head, tail, b, c)
  ]
