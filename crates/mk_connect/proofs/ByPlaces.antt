-- What is made of items by their places.
use Rattle.std.proofs.Common.{◌≡◌, ℕ, zero, suc, ◌+◌, ◌<◌, List, [], ◌∷◌, ◌++◌, length, map, take, Some, refl, sym, ap, ◌∙◌, arith, slice_get, get_or}
use Rattle.std.specs.Prelude.{option_map}
use Rattle.std.specs.List.{range_with_len}
use Rattle.std.proofs.lemmas.List.{take_more}
use Rattle.mk_connect.specs.ByPlace.{by_place}
use Rattle.mk_base.proofs.Counts.{plus_none, one_over}

module _ {X Y : Type 0} (f : ℕ → X → Y) where
  pub by_place_append : (n : ℕ) (xs ys : List X) → by_place f n (xs ++ ys) ≡ by_place f n xs ++ by_place f (n + length xs) ys
  by_place_append n [] ys = ap (λ k. by_place f k ys) (plus_none n)
  by_place_append n (x ∷ xs) ys = ap (λ l. f n x ∷ l) (by_place_append (suc n) xs ys ∙ ap (λ k. by_place f (suc n) xs ++ by_place f k ys) (one_over n (length xs)))

  pub by_place_get : (n : ℕ) (xs : List X) (i : ℕ) → slice_get (by_place f n xs) i ≡ option_map (f (n + i)) (slice_get xs i)
  by_place_get n [] i = refl
  by_place_get n (x ∷ xs) zero = ap (λ k. Some (f k x)) (plus_none n)
  by_place_get n (x ∷ xs) (suc i) = by_place_get (suc n) xs i ∙ ap (λ k. option_map (f k) (slice_get xs i)) (one_over n i)

  pub by_place_length : (n : ℕ) (xs : List X) → length (by_place f n xs) ≡ length xs
  by_place_length n [] = refl
  by_place_length n (x ∷ xs) = ap suc (by_place_length (suc n) xs)

  -- one item more
  pub by_place_more : (xs : List X) (i : ℕ) (x : X) → i < length xs → x ≡ get_or xs i x → by_place f 0 (take (i + 1) xs) ≡ by_place f 0 (take i xs) ++ f i x ∷ []
  by_place_more xs i x below is = ap (by_place f 0) (take_more xs i x below ∙ ap (λ z. take i xs ++ z ∷ []) (sym is)) ∙ by_place_append 0 (take i xs) (x ∷ []) ∙ ap (λ k. by_place f 0 (take i xs) ++ f k x ∷ []) (long xs i below)
    where
      long : (xs : List X) (i : ℕ) → i < length xs → 0 + length (take i xs) ≡ i
      long [] i below = absurd (omega arith)
      long (x ∷ xs) zero below = refl
      long (x ∷ xs) (suc i) below = let h = long xs i (omega arith) in omega arith

  pub one_more : (xs : List X) (i : ℕ) (x : X) → i < length xs → x ≡ get_or xs i x → (old new : List Y) (y : Y) → old ≡ by_place f 0 (take i xs) → y ≡ f i x → new ≡ old ++ y ∷ [] → new ≡ by_place f 0 (take (i + 1) xs)
  one_more xs i x below is old new y so_far made pushed = pushed ∙ (λ k. so_far k ++ made k ∷ []) ∙ sym (by_place_more xs i x below is)

-- what is made of numbers in order, by its place
pub range_get : {Y : Type 0} (f : ℕ → Y) (a n i : ℕ) → i < n → slice_get (map f (range_with_len a n)) i ≡ Some (f (a + i))
range_get f a zero i below = absurd (omega arith)
range_get f a (suc n) zero below = ap (λ k. Some (f k)) (plus_none a)
range_get f a (suc n) (suc i) below = range_get f (a + 1) n i (omega arith) ∙ ap (λ k. Some (f k)) (next a i)
  where
    next : (a i : ℕ) → a + 1 + i ≡ a + suc i
    next a i = omega arith
