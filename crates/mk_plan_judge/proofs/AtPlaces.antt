-- What stands at a place of a list, and what a sort leaves.
use Rattle.std.proofs.Common.{◌≡◌, inl, inr, ℕ, zero, suc, ◌<◌, List, [], ◌∷◌, length, take, Some, slice_get, get_or, sym, ap, arith}
use Rattle.std.specs.List.Sorted.{IsPermutation}
use Rattle.std.proofs.lemmas.List.Sorted.{Contains-permutation}
use Rattle.mk_base.specs.Lists.{IsIn}
use Rattle.mk_base.proofs.Lists.{some_same, get_is, in_at, at_in}

module _ {X : Type 0} where
  pub get_some : (xs : List X) (i : ℕ) (d : X) → i < length xs → d ≡ get_or xs i d → slice_get xs i ≡ Some d
  get_some [] i d there is = absurd (omega arith)
  get_some (x ∷ xs) zero d there is = ap Some (sym is)
  get_some (x ∷ xs) (suc i) d there is = get_some xs i d (omega arith) is

  pub get_any : (xs : List X) (i : ℕ) (d x : X) → slice_get xs i ≡ Some x → get_or xs i d ≡ x
  get_any [] i d x at = cc
  get_any (y ∷ ys) zero d x at = some_same at
  get_any (y ∷ ys) (suc i) d x at = get_any ys i d x at

  pub take_in : (x : X) (n : ℕ) (xs : List X) → IsIn x (take n xs) → (i : ℕ) × (i < n) × (slice_get xs i ≡ Some x)
  take_in x zero xs m = absurd m
  take_in x (suc n) [] m = absurd m
  take_in x (suc n) (y ∷ ys) (inl q) = (0, omega arith, ap Some (sym q))
  take_in x (suc n) (y ∷ ys) (inr m) = let t = take_in x n ys m in (suc t.0, omega (arith, t.1), t.2)

  pub permuted : (xs ys : List X) (x : X) → IsPermutation xs ys → IsIn x xs → IsIn x ys
  permuted xs ys x p m = let i = in_at x xs m in let g = get_is xs i.0 x i.1 in
      let c = Contains-permutation xs ys x p (i.0, g.0, g.1) in at_in x ys c.0 (get_some ys c.0 x c.1 (sym c.2))
