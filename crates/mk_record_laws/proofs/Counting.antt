-- For proofs alone. Things that are numbered below n, of which at most 10,000 have each number, are
-- at most n times as many.
use Rattle.std.proofs.Common.{◌≡◌, ℕ, zero, suc, ◌+◌, ◌*◌, ◌<◌, ◌≤◌, ◌==◌, nat_lt, Bool, true, false, cond, List, [], ◌∷◌, length, filter, refl, arith}
use Rattle.std.specs.List.{list_all}
use Rattle.std.proofs.lemmas.Bool.{and_parts, and_from, ltb-true}

module _ {X : Type 0} where
  -- what passes one test and another passes the other
  filter_fewer : (p q : X → Bool) (xs : List X) → length (filter p (filter q xs)) ≤ length (filter p xs)
  filter_fewer p q [] = omega arith
  filter_fewer p q (x ∷ xs) = by (q x) (p x) refl (filter_fewer p q xs)
    where
      by : (b c : Bool) → p x ≡ c → length (filter p (filter q xs)) ≤ length (filter p xs) → length (filter p (cond b (x ∷ filter q xs) (filter q xs))) ≤ length (cond c (x ∷ filter p xs) (filter p xs))
      by true true is h = rw is (omega (arith, h))
      by true false is h = rw is h
      by false true is h = omega (arith, h)
      by false false is h = h

  all_kept : (q : X → Bool) (xs : List X) → list_all q (filter q xs) ≡ true
  all_kept q [] = refl
  all_kept q (x ∷ xs) = by (q x) refl (all_kept q xs)
    where
      by : (b : Bool) → q x ≡ b → list_all q (filter q xs) ≡ true → list_all q (cond b (x ∷ filter q xs) (filter q xs)) ≡ true
      by true is h = and_from _ _ is h
      by false is h = h

  -- each is below n, or is n
  split : (f : X → ℕ) (n : ℕ) (xs : List X) → list_all (λ x. nat_lt (f x) (suc n)) xs ≡ true → length xs ≤ length (filter (λ x. nat_lt (f x) n) xs) + length (filter (λ x. f x == n) xs)
  split f n [] h = omega arith
  split f n (x ∷ xs) h =
      let t = and_parts (nat_lt (f x) (suc n)) (list_all (λ x. nat_lt (f x) (suc n)) xs) h in
      by (nat_lt (f x) n) (f x == n) refl refl (ltb-true (f x) (suc n) t.0) (split f n xs t.1)
    where
      by : (b c : Bool) → nat_lt (f x) n ≡ b → (f x == n) ≡ c → f x < suc n → length xs ≤ length (filter (λ x. nat_lt (f x) n) xs) + length (filter (λ x. f x == n) xs)
          → suc (length xs) ≤ length (cond b (x ∷ filter (λ x. nat_lt (f x) n) xs) (filter (λ x. nat_lt (f x) n) xs)) + length (cond c (x ∷ filter (λ x. f x == n) xs) (filter (λ x. f x == n) xs))
      by true true p q low h = omega (arith, h)
      by true false p q low h = omega (arith, h)
      by false true p q low h = omega (arith, h)
      by false false p q low h = absurd (grind (arith, p, q, low))

  pub all_counted : (f : X → ℕ) (n : ℕ) (xs : List X) → list_all (λ x. nat_lt (f x) n) xs ≡ true → ((i : ℕ) → length (filter (λ x. f x == i) xs) ≤ 10000) → length xs ≤ n * 10000
  all_counted f zero [] h few = omega arith
  all_counted f zero (x ∷ xs) h few = let t = and_parts (nat_lt (f x) 0) (list_all (λ x. nat_lt (f x) 0) xs) h in let low : f x < 0 = ltb-true (f x) 0 t.0 in absurd (omega (arith, low))
  all_counted f (suc n) xs h few =
      let below : List X = filter (λ x. nat_lt (f x) n) xs in
      let a = split f n xs h in
      let b = all_counted f n below (all_kept (λ x. nat_lt (f x) n) xs) (λ i. let l = filter_fewer (λ x. f x == i) (λ x. nat_lt (f x) n) xs in let m = few i in omega (arith, l, m)) in
      let c = few n in
      omega (arith, a, b, c)
