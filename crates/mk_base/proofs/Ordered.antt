-- Lists in strict order, items put into them, and that such a list is known by its items.
use Rattle.std.proofs.Common.{◌≡◌, inl, inr, List, [], ◌∷◌, fold, refl, sym, ap, subst, ◌∙◌}
use Rattle.std.specs.Cmp.{IsTotalOrder}
use Rattle.std.specs.List.{AllByRecursion}
use Rattle.std.specs.List.Sorted.{IsStrictlySortedBy}
use Rattle.std.specs.Ordering.{ordering_reverse}
use Rattle.std.specs.declared.cmp.Ordering.{Ordering}
use Rattle.std.specs.declared.cmp.Ordering.TheVariants.{Less, Equal, Greater}
use Rattle.mk_base.specs.Lists.{IsIn, put, placed}

module _ {X : Type 0} where
  pub all_on : (P Q : X → Type 0) → ((x : X) → P x → Q x) → (xs : List X) → AllByRecursion P xs → AllByRecursion Q xs
  all_on P Q f [] all = tt
  all_on P Q f (x ∷ xs) all = (f x all.0, all_on P Q f xs all.1)

  pub all_has : (P : X → Type 0) (xs : List X) (x : X) → AllByRecursion P xs → IsIn x xs → P x
  all_has P [] x all m = absurd m
  all_has P (y ∷ ys) x all (inl q) = subst P (sym q) all.0
  all_has P (y ∷ ys) x all (inr m) = all_has P ys x all.1 m

  pub all_put : (order : X → X → Ordering) (P : X → Type 0) (x : X) (xs : List X) → P x → AllByRecursion P xs → AllByRecursion P (put order x xs)
  all_put order P x [] here all = (here, tt)
  all_put order P x (y ∷ ys) here all = elim (order x y) as (λ o. AllByRecursion P (placed o x y ys (put order x ys))) [
    | Less ↦ (here, all)
    | Equal ↦ (here, all.1)
    | Greater ↦ (all.0, all_put order P x ys here all.1)
  ]

module _ {X : Type 0} (order : X → X → Ordering) (total : IsTotalOrder order) where
  pub turned : (x y : X) (o : Ordering) → order y x ≡ o → order x y ≡ ordering_reverse o
  turned x y o e = total.antisymm x y ∙ ap ordering_reverse e

  pub not_both : (x y : X) → order x y ≡ Less → order y x ≡ Less → ⊥
  not_both x y h k = let e : Less ≡ Greater = sym h ∙ turned x y Less k in cc

  pub put_sorted : (x : X) (xs : List X) → IsStrictlySortedBy order xs → IsStrictlySortedBy order (put order x xs)
  unfolding IsStrictlySortedBy
  put_sorted x [] sorted = (tt, tt)
  put_sorted x (y ∷ ys) sorted = elim (order x y) as (λ o. order x y ≡ o → IsStrictlySortedBy order (placed o x y ys (put order x ys))) [
    | Less ↦ λ e. ((e, all_on (λ z. order y z ≡ Less) (λ z. order x z ≡ Less) (λ z h. total.trans x y z e h) ys sorted.0), sorted)
    | Equal ↦ λ e. (all_on (λ z. order y z ≡ Less) (λ z. order x z ≡ Less) (λ z h. total.congr x y z e ∙ h) ys sorted.0, sorted.1)
    | Greater ↦ λ e. (all_put order (λ z. order y z ≡ Less) x ys (turned y x Greater e) sorted.0, put_sorted x ys sorted.1)
  ] refl

  pub puts_sorted : {C : Type 0} (f : C → X) (cs : List C) (xs : List X) → IsStrictlySortedBy order xs → IsStrictlySortedBy order (fold (λ ys c. put order (f c) ys) xs cs)
  puts_sorted f [] xs sorted = sorted
  puts_sorted f (c ∷ cs) xs sorted = puts_sorted f cs (put order (f c) xs) (put_sorted (f c) xs sorted)

  pub same_sorted : (xs ys : List X) → IsStrictlySortedBy order xs → IsStrictlySortedBy order ys → ((x : X) → IsIn x xs → IsIn x ys) → ((y : X) → IsIn y ys → IsIn y xs) → xs ≡ ys
  unfolding IsStrictlySortedBy
  same_sorted [] [] s t f g = refl
  same_sorted [] (y ∷ ys) s t f g = absurd (g y (inl refl))
  same_sorted (x ∷ xs) [] s t f g = absurd (f x (inl refl))
  same_sorted (x ∷ xs) (y ∷ ys) s t f g =
      let head : x ≡ y = heads (f x (inl refl)) (g y (inl refl)) in
      ap (λ z. z ∷ xs) head ∙ ap (λ l. y ∷ l) (same_sorted xs ys s.1 t.1
      (λ z m. elim (f z (inr m)) [ inl q ↦ absurd (let h : order x z ≡ Less = all_has (λ w. order x w ≡ Less) xs z s.0 m in let k : z ≡ x = q ∙ sym head in not_both x x (subst (λ (w : X). order x w ≡ Less) k h) (subst (λ (w : X). order x w ≡ Less) k h)) | inr n ↦ n ])
      (λ z m. elim (g z (inr m)) [ inl q ↦ absurd (let h : order y z ≡ Less = all_has (λ w. order y w ≡ Less) ys z t.0 m in let k : z ≡ y = q ∙ head in not_both y y (subst (λ (w : X). order y w ≡ Less) k h) (subst (λ (w : X). order y w ≡ Less) k h)) | inr n ↦ n ]))
    where
      heads : IsIn x (y ∷ ys) → IsIn y (x ∷ xs) → x ≡ y
      heads (inl q) n = q
      heads (inr m) (inl q) = sym q
      heads (inr m) (inr n) = absurd (not_both x y (all_has (λ w. order x w ≡ Less) xs y s.0 n) (all_has (λ w. order y w ≡ Less) ys x t.0 m))
