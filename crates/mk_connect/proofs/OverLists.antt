-- What holds everywhere in a list, and how many pass a test.
use Rattle.std.proofs.Common.{◌≡◌, ℕ, zero, suc, ◌<◌, List, [], ◌∷◌, Some, All, AllPairs, subst, arith, slice_get, get_or}
use Rattle.std.proofs.lemmas.Option.{slice_get-get_or}
use Rattle.mk_base.specs.Lists.{Each}
use Rattle.mk_base.proofs.Lists.{Rises, at_in, in_each, none_some, some_same}

module _ {X : Type 0} where
  pub all_of : (Q : X → Type 0) (xs : List X) → ((i : ℕ) (x : X) → slice_get xs i ≡ Some x → Q x) → All Q xs
  all_of Q xs h i d below = h i (get_or xs i d) (slice_get-get_or xs i d below)

  pub pairs_of : (R : X → X → Type 0) (xs : List X) → ((i j : ℕ) (x y : X) → i < j → slice_get xs i ≡ Some x → slice_get xs j ≡ Some y → R x y) → AllPairs R xs
  pairs_of R xs h i j d before below = h i j (get_or xs i d) (get_or xs j d) before (slice_get-get_or xs i d (omega arith)) (slice_get-get_or xs j d below)

  pub each_all : (Q : X → Type 0) (xs : List X) → Each Q xs → All Q xs
  each_all Q xs each = all_of Q xs (λ i x is. in_each Q x xs each (at_in x xs i is))

  pub each_then : {Q R : X → Type 0} → ((x : X) → Q x → R x) → (xs : List X) → Each Q xs → Each R xs
  each_then h [] each = tt
  each_then h (x ∷ xs) each = (h x each.0, each_then h xs each.1)

  rise_at : (lt : X → X → Type 0) (xs : List X) → Rises lt xs → (i j : ℕ) (x y : X) → i < j → slice_get xs i ≡ Some x → slice_get xs j ≡ Some y → lt x y
  rise_at lt [] h i j x y before a b = absurd (none_some a)
  rise_at lt (z ∷ zs) h zero zero x y before a b = absurd (omega arith)
  rise_at lt (z ∷ zs) h zero (suc j) x y before a b = subst (λ w. lt w y) (some_same a) (in_each (lt z) y zs h.0 (at_in y zs j b))
  rise_at lt (z ∷ zs) h (suc i) zero x y before a b = absurd (omega arith)
  rise_at lt (z ∷ zs) h (suc i) (suc j) x y before a b = rise_at lt zs h.1 i j x y (omega arith) a b

  pub rises_pairs : (R : X → X → Type 0) (xs : List X) → Rises R xs → AllPairs R xs
  rises_pairs R xs h = pairs_of R xs (rise_at R xs h)

  -- of a pair of items that hold alike, R holds too
  pub each_pairs : (Q : X → Type 0) (R : X → X → Type 0) (xs : List X) → Each Q xs → ((x y : X) → Q x → Q y → R x y) → AllPairs R xs
  each_pairs Q R xs each h = pairs_of R xs (λ i j x y before a b. h x y (in_each Q x xs each (at_in x xs i a)) (in_each Q y xs each (at_in y xs j b)))
