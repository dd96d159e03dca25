-- What stands at a place of a list, and the first place at which a test holds.
use Rattle.std.proofs.Common.{◌≡◌, ℕ, zero, suc, ◌+◌, ◌<◌, nat_lt, nat_eq, Bool, true, false, ◌&&◌, true≢false, if◌then◌else◌, List, [], ◌∷◌, ◌++◌, length, map, get_or, slice_get, slice_set, position, Some, None, option_map, ◌⊎◌, inl, inr, refl, sym, ap, ◌∙◌, arith}
use Rattle.std.specs.List.{position_or_len}
use Rattle.mk_base.specs.Lists.{same_text}
use Rattle.mk_base.proofs.Lists.{some_same, none_some}

-- ---- the item at a place

pub last_or_before : {X : Type 0} (xs : List X) (x : X) (i : ℕ) (y : X) → slice_get (xs ++ x ∷ []) i ≡ Some y → (y ≡ x) ⊎ (slice_get xs i ≡ Some y)
last_or_before [] x zero y at = inl (sym (some_same at))
last_or_before [] x (suc i) y at = absurd (none_some at)
last_or_before (z ∷ xs) x zero y at = inr at
last_or_before (z ∷ xs) x (suc i) y at = last_or_before xs x i y at

pub map_set : {X Y : Type 0} (f : X → Y) (xs : List X) (i : ℕ) (x : X) → map f (slice_set xs i x) ≡ slice_set (map f xs) i (f x)
map_set f [] i x = refl
map_set f (y ∷ xs) zero x = refl
map_set f (y ∷ xs) (suc i) x = ap (λ l. f y ∷ l) (map_set f xs i x)

pub map_get : {X Y : Type 0} (f : X → Y) (xs : List X) (i : ℕ) (x : X) → i < length xs → x ≡ get_or xs i x → slice_get (map f xs) i ≡ Some (f x)
map_get f [] i x low is = absurd (omega (arith, low))
map_get f (y ∷ xs) zero x low is = ap (λ z. Some (f z)) (sym is)
map_get f (y ∷ xs) (suc i) x low is = map_get f xs i x (omega (arith, low)) is

pub map_item : {X Y : Type 0} (f : X → Y) (xs : List X) (k : ℕ) (x : X) → k < length xs → x ≡ get_or xs k x → f x ≡ get_or (map f xs) k (f x)
map_item f [] k x low is = absurd (omega (arith, low))
map_item f (y ∷ xs) zero x low is = ap f is
map_item f (y ∷ xs) (suc k) x low is = map_item f xs k x (omega (arith, low)) is

pub map_at : {X Y : Type 0} (f : X → Y) (xs : List X) (i : ℕ) (y : Y) → slice_get (map f xs) i ≡ Some y → (x : X) × (slice_get xs i ≡ Some x) × (y ≡ f x)
map_at f [] i y at = cc
map_at f (x ∷ xs) zero y at = (x, refl, sym (some_same at))
map_at f (x ∷ xs) (suc i) y at = map_at f xs i y at

-- ---- the first place

module _ {X : Type 0} (p : X → Bool) where
  shifted : (k n : ℕ) → (if nat_lt (suc k) (suc n) then Some (suc k) else None) ≡ option_map suc (if nat_lt k n then Some k else None)
  shifted k n = at (nat_lt k n) (nat_lt (suc k) (suc n)) (grind arith)
    where
      at : (b c : Bool) → c ≡ b → (if c then Some (suc k) else None) ≡ option_map suc (if b then Some k else None)
      at true true e = refl
      at false false e = refl
      at true false e = absurd (true≢false (sym e))
      at false true e = absurd (true≢false e)

  one_plus : (k : ℕ) → 1 + k ≡ suc k
  one_plus k = omega arith

  pub place_first : (x : X) (xs : List X) → p x ≡ true → position p (x ∷ xs) ≡ Some 0
  place_first x xs here = let within : nat_lt 0 (suc (length xs)) ≡ true = grind arith in rw here (ap (λ b. if b then Some 0 else None) within)

  pub place_later : (x : X) (xs : List X) → p x ≡ false → position p (x ∷ xs) ≡ option_map suc (position p xs)
  place_later x xs here = rw here (ap (λ m. if nat_lt m (suc (length xs)) then Some m else None) (one_plus (position_or_len p xs)) ∙ shifted (position_or_len p xs) (length xs))

  pub place_below : (xs : List X) (i : ℕ) → position p xs ≡ Some i → i < length xs
  place_below xs i is = at (nat_lt (position_or_len p xs) (length xs)) refl is
    where
      at : (b : Bool) → nat_lt (position_or_len p xs) (length xs) ≡ b → (if b then Some (position_or_len p xs) else None) ≡ Some i → i < length xs
      at true e is = let same : position_or_len p xs ≡ i = cc in grind arith
      at false e is = cc

-- ---- texts that are the same

pub nat_eq_sym : (x y : ℕ) → nat_eq x y ≡ nat_eq y x
nat_eq_sym x y = grind arith

pub same_sym : (a b : List ℕ) → same_text a b ≡ same_text b a
same_sym [] [] = refl
same_sym [] (y ∷ b) = refl
same_sym (x ∷ a) [] = refl
same_sym (x ∷ a) (y ∷ b) = λ i. nat_eq_sym x y i && same_sym a b i
