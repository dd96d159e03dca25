-- The first that is there, and the tests of a reply's entities.
use Rattle.std.proofs.Common.{◌≡◌, ℕ, zero, suc, ◌+◌, ◌<◌, ◌≤◌, List, [], ◌∷◌, ◌++◌, map, length, take, get_or, Option, Some, None, refl, sym, ap, ◌∙◌, arith, ◌⊎◌, inl, inr, subst, unwrap_or, append_assoc, length-take}
use Rattle.std.specs.Prelude.{option_and_then}
use Rattle.std.proofs.lemmas.List.{take_more}
use Rattle.mk_meta.specs.declared.meta.Meta.{Meta}
use Rattle.mk_entities.specs.declared.described.Described.{Described}
use Rattle.std.specs.List.{range_with_len}
use Rattle.mk_entities.specs.Creation.{entity_fault, first_there}
use Rattle.mk_entities.specs.inner.Making.{fault_at, named_from, number_in}
use Rattle.mk_base.proofs.Items.{get_at_place}

module _ {X : Type 0} (f : ℕ → Option X) where
  none_from : (a n : ℕ) → ((k : ℕ) → a ≤ k → k < a + n → f k ≡ None) → first_there (map f (range_with_len a n)) ≡ None
  none_from a zero none = refl
  none_from a (suc n) none = let here = none a (omega arith) (omega arith) in rw here (none_from (a + 1) n (λ k low high. none k (omega arith) (omega arith)))

  first_from : (a n i : ℕ) (x : X) → a ≤ i → i < a + n → ((k : ℕ) → a ≤ k → k < i → f k ≡ None) → f i ≡ Some x → first_there (map f (range_with_len a n)) ≡ Some x
  first_from a zero i x low high none is = absurd (omega arith)
  first_from a (suc n) i x low high none is = at (apart i a low) (λ above. first_from (a + 1) n i x (omega arith) (omega arith) (λ k l h. none k (omega arith) h) is)
    where
      apart : (i a : ℕ) → a ≤ i → (i ≡ a) ⊎ (a < i)
      apart i a h = grind arith

      at : (i ≡ a) ⊎ (a < i) → (a < i → first_there (map f (range_with_len (a + 1) n)) ≡ Some x) → first_there (f a ∷ map f (range_with_len (a + 1) n)) ≡ Some x
      at (inl same) later = let here : f a ≡ Some x = ap f (sym same) ∙ is in rw here refl
      at (inr above) later = let here = none a (omega arith) above in rw here (later above)

  -- none of the places below n has one
  pub none_there : (n : ℕ) → ((k : ℕ) → k < n → f k ≡ None) → first_there (map f (range_with_len 0 n)) ≡ None
  none_there n none = none_from 0 n (λ k low high. none k (omega arith))

  -- place i is the first that has one
  pub there_first : (n i : ℕ) (x : X) → i < n → ((k : ℕ) → k < i → f k ≡ None) → f i ≡ Some x → first_there (map f (range_with_len 0 n)) ≡ Some x
  there_first n i x below none is = first_from 0 n i x (omega arith) (omega arith) (λ k low high. none k high) is

-- ---- the tests of a reply's entities, one after the other

named_append : (n : ℕ) (xs ys : List Described) → named_from n (xs ++ ys) ≡ named_from n xs ++ named_from (n + length xs) ys
named_append n [] ys = ap (λ k. named_from k ys) (add_none n)
  where
    add_none : (n : ℕ) → n ≡ n + 0
    add_none n = omega arith
named_append n (x ∷ xs) ys = ap (λ l. (unwrap_or x.eid [], n) ∷ l) (named_append (suc n) xs ys ∙ ap (λ k. named_from (suc n) xs ++ named_from k ys) (over n (length xs)))
  where
    over : (n k : ℕ) → suc n + k ≡ n + suc k
    over n k = omega arith

-- what holds below i and at i holds below the next
pub below_next : (P : ℕ → Type 0) (i : ℕ) → ((k : ℕ) → k < i → P k) → P i → (k : ℕ) → k < i + 1 → P k
below_next P i before here k below = at (apart k i below)
  where
    apart : (k i : ℕ) → k < i + 1 → (k < i) ⊎ (i ≡ k)
    apart k i h = grind arith

    at : (k < i) ⊎ (i ≡ k) → P k
    at (inl h) = before k h
    at (inr e) = subst P e here

module _ (count : ℕ) (es : List Described) (n : ℕ) (e : Described) (below : n < length es) (is : e ≡ get_or es n e) where
  -- one more eid
  pub named_more : (names now : List (List ℕ × ℕ)) → now ≡ names ++ named_from count (take n es) → now ++ (unwrap_or e.eid [], count + n) ∷ [] ≡ names ++ named_from count (take (n + 1) es)
  named_more names now named =
      let long : length (take n es) ≡ n = omega (arith, length-take n es) in
      ap (λ l. l ++ (unwrap_or e.eid [], count + n) ∷ []) named
      ∙ append_assoc names (named_from count (take n es)) ((unwrap_or e.eid [], count + n) ∷ [])
      ∙ ap (λ l. names ++ l) (ap (λ k. named_from count (take n es) ++ (unwrap_or e.eid [], count + k) ∷ []) (sym long) ∙ sym (named_append count (take n es) (e ∷ [])) ∙ ap (named_from count) (sym (take_more es n e below ∙ ap (λ z. take n es ++ z ∷ []) (sym is))))

  -- the test of the n-th entity
  pub fault_here : (names now : List (List ℕ × ℕ)) (model : List ℕ) (meta : Meta) → now ≡ names ++ named_from count (take n es) → fault_at names count model meta es n ≡ entity_fault (number_in now) (count + n) model meta n e
  fault_here names now model meta named = ap (option_and_then (entity_fault (number_in (names ++ named_from count (take n es))) (count + n) model meta n)) (get_at_place es n e below is)
      ∙ ap (λ ns. entity_fault (number_in ns) (count + n) model meta n e) (sym named)
