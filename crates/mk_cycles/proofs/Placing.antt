-- Lemmas on the order of ranks.
use Rattle.std.proofs.Common.{◌≡◌, ◌≢◌, ℕ, zero, suc, ◌+◌, ◌<◌, ◌≤◌, inl, inr, Bool, List, [], ◌∷◌, ◌++◌, length, take, set, get_or, ◌↔◌, Some, refl, sym, ap, subst, ◌∙◌, arith}
use Rattle.std.specs.List.{slice_get}
use Rattle.std.proofs.lemmas.Option.{slice_get_within, slice_get-get_or, get_or_from_slice_get}
use Rattle.std.proofs.lemmas.Bool.{cases_lt}
use Rattle.mk_base.proofs.Lists.{at_in, in_at, some_same}
use Rattle.std.proofs.lemmas.List.{take-append-le, take_at}
use Rattle.mk_base.specs.Lists.{IsIn}
use Rattle.mk_cycles.specs.Orders.{IsNext, IsOrder}
use Rattle.mk_cycles.proofs.Listings.{get_push}

-- the next one is put behind
pub order_push : (before : ℕ → ℕ → Bool) (n : ℕ) (order : List ℕ) (s : ℕ) → IsOrder before n order → IsNext before n order s → IsOrder before n (order ++ s ∷ [])
order_push before n order s ordered next r t is =
    elim (get_push order s r t is) [
      | inl (under, is_there) ↦ subst (λ (placed : List ℕ). IsNext before n placed t) (sym (take-append-le r order (s ∷ []) (omega arith))) (ordered r t is_there)
      | inr (last, same) ↦
          let front : order ≡ take r (order ++ s ∷ []) = sym (take_at order (s ∷ []) r (sym last)) in
          subst (λ (placed : List ℕ). IsNext before n placed t) front (subst (λ (k : ℕ). IsNext before n order k) (sym same) next)
    ]

-- a place that is written
pub get_set_same : {X : Type 0} (xs : List X) (i : ℕ) (y : X) → i < length xs → slice_get (set xs i y) i ≡ Some y
get_set_same [] i y under = absurd (omega arith)
get_set_same (x ∷ xs) zero y under = refl
get_set_same (x ∷ xs) (suc i) y under = get_set_same xs i y (omega arith)

-- another place
pub get_set_other : {X : Type 0} (xs : List X) (i j : ℕ) (y : X) → i ≢ j → slice_get (set xs i y) j ≡ slice_get xs j
get_set_other [] i j y apart = refl
get_set_other (x ∷ xs) zero zero y apart = absurd (apart refl)
get_set_other (x ∷ xs) zero (suc j) y apart = refl
get_set_other (x ∷ xs) (suc i) zero y apart = refl
get_set_other (x ∷ xs) (suc i) (suc j) y apart = get_set_other xs i j y (λ e. apart (ap (λ k. suc k) e))

-- one more rank is written
pub written_more : (order ranks : List ℕ) (k : ℕ) → ((i j s : ℕ) → slice_get order i ≡ Some s → slice_get order j ≡ Some s → i ≡ j) → k < length order → get_or order k 0 < length ranks
    → ((r s : ℕ) → r < k → slice_get order r ≡ Some s → slice_get ranks s ≡ Some r)
    → (r s : ℕ) → r < k + 1 → slice_get order r ≡ Some s → slice_get (set ranks (get_or order k 0) k) s ≡ Some r
written_more order ranks k apart under within written r s low is =
    elim (cases_lt r k) [
      | inl earlier ↦
          let differ : get_or order k 0 ≢ s = λ e. absurd (omega (arith, apart r k s is (slice_get-get_or order k 0 under ∙ ap (λ (j : ℕ). Some j) e))) in
          get_set_other ranks (get_or order k 0) s k differ ∙ written r s earlier is
      | inr now ↦
          let same : r ≡ k = omega arith in
          let sim : get_or order k 0 ≡ s = ap (λ (j : ℕ). get_or order j 0) (sym same) ∙ get_or_from_slice_get order r s 0 is in
          ap (λ (j : ℕ). slice_get (set ranks (get_or order k 0) k) j) (sym sim) ∙ get_set_same ranks (get_or order k 0) k within ∙ ap (λ (j : ℕ). Some j) (sym same)
    ]

-- the rank that is written is the place
pub inverse : (order ranks : List ℕ) (n k : ℕ) → length order ≤ k → length ranks ≡ n → ((s : ℕ) → s < n → IsIn s order)
    → ((r s : ℕ) → r < k → slice_get order r ≡ Some s → slice_get ranks s ≡ Some r) → (s r : ℕ) → (slice_get ranks s ≡ Some r) ↔ (slice_get order r ≡ Some s)
inverse order ranks n k all count each written s r = (
  λ is.
      let under = slice_get_within ranks s r is in
      let at = in_at s order (each s (omega (arith, under))) in
      let there = written at.0 s (omega (arith, slice_get_within order at.0 s at.1)) at.1 in
      let same : at.0 ≡ r = some_same (sym there ∙ is) in
      subst (λ (j : ℕ). slice_get order j ≡ Some s) same at.1,
  λ is. written r s (omega (arith, slice_get_within order r s is)) is,
)

-- a listed number is a place of the ranks
pub place_below : (order listed ranks : List ℕ) (n k : ℕ) → order ≡ listed → k < length order → ((s : ℕ) → IsIn s listed → s < n) → length ranks ≡ n → get_or order k 0 < length ranks
place_below order listed ranks n k same under below count =
    let here = at_in (get_or order k 0) order k (slice_get-get_or order k 0 under) in
    omega (arith, count, below (get_or order k 0) (subst (λ (r : List ℕ). IsIn (get_or order k 0) r) same here))
