-- Sums over two lists, where each item of one has an item of the other to itself.
use Rattle.std.proofs.Common.{◌≡◌, ◌⊎◌, inl, inr, ℕ, ◌+◌, ◌≤◌, List, [], ◌∷◌, ◌++◌, length, refl, sym, ap, subst, ◌∙◌, arith}
use Rattle.std.specs.List.{sum_by}
use Rattle.std.proofs.lemmas.List.Sums.{sum_by-cons, sum_by-append}
use Rattle.mk_base.specs.Lists.{IsIn}
use Rattle.mk_base.proofs.Lists.{in_front, in_back, in_either}

parted : {Y : Type 0} (y : Y) (ys : List Y) → IsIn y ys → (front : List Y) × (back : List Y) × (ys ≡ front ++ y ∷ back)
parted y [] m = absurd m
parted y (z ∷ zs) (inl q) = ([], zs, ap (λ w. w ∷ zs) (sym q))
parted y (z ∷ zs) (inr m) = let r = parted y zs m in (z ∷ r.0, r.1, ap (λ l. z ∷ l) r.2)

pub sum_ones : {X : Type 0} (xs : List X) → sum_by (λ x. 1) xs ≡ length xs
sum_ones [] = refl
sum_ones (x ∷ xs) = sum_by-cons (λ x. 1) x xs ∙ omega (arith, sum_ones xs)

module _ {X Y : Type 0} (R : X → Y → Type 0) where
  -- no two of them have the same item
  abbrev pub AreApart : List X → Type 0
  AreApart [] = Unit {0}
  AreApart (x ∷ xs) = ((z : X) (y : Y) → IsIn z xs → R x y → R z y → ⊥) × AreApart xs

module _ {X Y : Type 0} (R : X → Y → Type 0) (f : X → ℕ) (g : Y → ℕ) (less : (x : X) (y : Y) → R x y → f x ≤ g y) where
  pub fitting : (xs : List X) (ys : List Y) → AreApart R xs → ((x : X) → IsIn x xs → (y : Y) × IsIn y ys × R x y) → sum_by f xs ≤ sum_by g ys
  fitting [] ys apart has = omega arith
  fitting (x ∷ xs) ys apart has =
      let y = has x (inl refl) in
      let s = parted y.0 ys y.1 in
      let rest = fitting xs (s.0 ++ s.1) apart.1 (λ z m. let w = has z (inr m) in
      (w.0, other y.0 w.0 s.0 s.1 (λ q. apart.0 z y.0 m y.2 (subst (R z) q w.2)) (in_either w.0 s.0 (y.0 ∷ s.1) (subst (IsIn w.0) s.2 w.1)), w.2)) in
      let whole : sum_by g ys ≡ sum_by g s.0 + sum_by g (y.0 ∷ s.1) = ap (sum_by g) s.2 ∙ sum_by-append g s.0 (y.0 ∷ s.1) in
      omega (arith, less x y.0 y.2, rest, whole, sum_by-cons f x xs, sum_by-cons g y.0 s.1, sum_by-append g s.0 s.1)
    where
      other : (y w : Y) (front back : List Y) → (w ≡ y → ⊥) → IsIn w front ⊎ IsIn w (y ∷ back) → IsIn w (front ++ back)
      other y w front back not_it (inl m) = in_front w front back m
      other y w front back not_it (inr (inl q)) = absurd (not_it q)
      other y w front back not_it (inr (inr m)) = in_back w front back m
