-- What is put at the place that a binary search finds in a sorted list is put at its place.
use Rattle.std.proofs.Common.{◌≡◌, ◌⊎◌, inl, inr, ℕ, zero, suc, ◌<◌, ◌≤◌, List, [], ◌∷◌, length, slice_set, get_or, Result, Ok, Err, OnOk, refl, sym, ap, subst, ◌∙◌, arith}
use Rattle.std.specs.Cmp.{IsTotalOrder}
use Rattle.std.specs.declared.cmp.Ordering.{Ordering}
use Rattle.std.specs.declared.cmp.Ordering.TheVariants.{Less, Equal, Greater}
use Rattle.std.specs.Ordering.{ordering_index}
use Rattle.std.specs.List.{insert, AllByRecursion, HoldsAt}
use Rattle.std.specs.List.Sorted.{IsStrictlySortedBy, IsNonDecreasingBy, IsPartitionPoint, IsBinarySearchResult, IsSearchInRange}
use Rattle.std.specs.Cmp.Lexicographic.{on_texts}
use Rattle.std.proofs.lemmas.Cmp.{then_total}
use Rattle.mk_base.specs.Lists.{put, put_at, placed}
pub use Rattle.mk_base.proofs.Ordered.{put_sorted, turned}
use Rattle.mk_plan.specs.declared.Want.{Want}
use Rattle.mk_plan.specs.Turns.{want_order}

module _ {X : Type 0} where
  all_at : (P : X → Type 0) (xs : List X) (i : ℕ) (d : X) → i < length xs → AllByRecursion P xs → P (get_or xs i d)
  all_at P [] i d there all = absurd (omega arith)
  all_at P (x ∷ xs) zero d there all = all.0
  all_at P (x ∷ xs) (suc i) d there all = all_at P xs i d (omega arith) all.1

module _ {X : Type 0} (order : X → X → Ordering) (total : IsTotalOrder order) where
  -- of two in order, the first is below each that equals the second
  below_equal : (y z x : X) → order y z ≡ Less → order z x ≡ Equal → order y x ≡ Less
  below_equal y z x low same = turned order total y x Greater (sym (total.congr z x y same) ∙ turned order total z y Less low)

  sorted_at : (xs : List X) (i j : ℕ) (d : X) → IsStrictlySortedBy order xs → i < j → j < length xs → order (get_or xs i d) (get_or xs j d) ≡ Less
  unfolding IsStrictlySortedBy
  sorted_at [] i j d sorted before there = absurd (omega arith)
  sorted_at (x ∷ xs) i zero d sorted before there = absurd (omega arith)
  sorted_at (x ∷ xs) zero (suc j) d sorted before there = all_at (λ y. order x y ≡ Less) xs j d (omega arith) sorted.0
  sorted_at (x ∷ xs) (suc i) (suc j) d sorted before there = sorted_at xs i j d sorted.1 (omega arith) (omega arith)

  put_equal : (x : X) (xs : List X) (i : ℕ) → IsStrictlySortedBy order xs → i < length xs → HoldsAt (λ y. order y x ≡ Equal) xs i → slice_set xs i x ≡ put order x xs
  unfolding IsStrictlySortedBy
  put_equal x [] i sorted there same = absurd (omega arith)
  put_equal x (y ∷ ys) zero sorted there same = ap (λ o. placed o x y ys (put order x ys)) (sym (turned order total x y Equal (same y)))
  put_equal x (y ∷ ys) (suc i) sorted there same = ap (λ l. y ∷ l) (put_equal x ys i sorted.1 (omega arith) same)
      ∙ ap (λ o. placed o x y ys (put order x ys)) (sym (turned order total x y Less (below_equal y (get_or ys i y) x (all_at (λ z. order y z ≡ Less) ys i y (omega arith) sorted.0) (same y))))

  put_between : (x : X) (xs : List X) (i : ℕ) → i ≤ length xs → IsPartitionPoint (λ y. order y x ≡ Less) (λ y. order y x ≡ Greater) xs i → insert xs i x ≡ put order x xs
  put_between x [] i there parts = elim i as (λ n. insert [] n x ≡ x ∷ []) [ zero ↦ refl | suc n ↦ refl ]
  put_between x (y ∷ ys) zero there parts = ap (λ o. placed o x y ys (put order x ys)) (sym (turned order total x y Greater (parts.1 0 y (omega arith) (omega arith))))
  put_between x (y ∷ ys) (suc i) there parts = ap (λ l. y ∷ l) (put_between x ys i (omega arith) ((λ k d low high. parts.0 (suc k) d (omega arith) (omega arith)), (λ k d low high. parts.1 (suc k) d (omega arith) (omega arith))))
      ∙ ap (λ o. placed o x y ys (put order x ys)) (sym (turned order total x y Less (parts.0 0 y (omega arith) (omega arith))))

  -- of two in order, the first compares no higher
  no_higher : (y z x : X) → order y z ≡ Less → ordering_index (order y x) ≤ ordering_index (order z x)
  no_higher y z x low = elim (order z x) as (λ o. order z x ≡ o → ordering_index (order y x) ≤ ordering_index o) [
    | Less ↦ λ e. rw (total.trans y z x low e) (omega arith)
    | Equal ↦ λ e. rw (below_equal y z x low e) (omega arith)
    | Greater ↦ λ e. elim (order y x) as (λ o. ordering_index o ≤ 2) [ Less ↦ omega arith | Equal ↦ omega arith | Greater ↦ omega arith ]
  ] refl

  rising : (x : X) (xs : List X) → IsStrictlySortedBy order xs → IsNonDecreasingBy (λ y. ordering_index (order y x)) xs
  rising x xs sorted i j d before there = elim (le_cases i j before) [
    | inl same ↦ subst (λ (k : ℕ). ordering_index (order (get_or xs i d) x) ≤ ordering_index (order (get_or xs k d) x)) same (omega arith)
    | inr less ↦ no_higher (get_or xs i d) (get_or xs j d) x (sorted_at xs i j d sorted less there)
  ]
    where
      le_cases : (i j : ℕ) → i ≤ j → (i ≡ j) ⊎ (i < j)
      le_cases i j h = grind arith

  -- the list after the search has found an equal item
  pub put_found : (x : X) (xs items new : List X) (i : ℕ) → IsStrictlySortedBy order xs → items ≡ xs → i < length items → HoldsAt (λ y. order y x ≡ Equal) items i → new ≡ slice_set xs i x → (new ≡ put order x xs) × IsStrictlySortedBy order new
  put_found x xs items new i sorted is there same set = let made : new ≡ put order x xs = set ∙ put_equal x xs i sorted (subst (λ (l : List X). i < length l) is there) (subst (λ (l : List X). HoldsAt (λ y. order y x ≡ Equal) l i) is same)
      in (made, subst (IsStrictlySortedBy order) (sym made) (put_sorted order total x xs sorted))

  -- the list after the search has found no equal item
  pub put_unfound : (x : X) (xs items new : List X) (i : ℕ) → IsStrictlySortedBy order xs → items ≡ xs → i ≤ length items
      → (IsNonDecreasingBy (λ y. ordering_index (order y x)) items → IsPartitionPoint (λ y. order y x ≡ Less) (λ y. order y x ≡ Greater) items i) → new ≡ insert xs i x → (new ≡ put order x xs) × IsStrictlySortedBy order new
  put_unfound x xs items new i sorted is there parts set = let made : new ≡ put order x xs = set ∙ put_between x xs i (subst (λ (l : List X). i ≤ length l) is there)
      (subst (λ (l : List X). IsNonDecreasingBy (λ y. ordering_index (order y x)) l → IsPartitionPoint (λ y. order y x ≡ Less) (λ y. order y x ≡ Greater) l i) is parts (rising x xs sorted))
      in (made, subst (IsStrictlySortedBy order) (sym made) (put_sorted order total x xs sorted))

  -- the list after an item was put where a search has found its place
  pub put_there : (x : X) (xs items new : List X) (place : Result ℕ ℕ) → IsStrictlySortedBy order xs → items ≡ xs → IsSearchInRange place (length items)
      → IsBinarySearchResult (λ y. order y x) items place → new ≡ put_at place x xs → (new ≡ put order x xs) × IsStrictlySortedBy order new
  put_there x xs items new (Ok i) sorted is there same set = put_found x xs items new i sorted is there same set
  put_there x xs items new (Err i) sorted is there parts set = put_unfound x xs items new i sorted is there parts set

pub names_total : IsTotalOrder want_order
names_total = then_total (on_texts (λ (w : Want). w.eid)) (on_texts (λ (w : Want). w.attr))

-- what follows from a fact on success
pub on_ok : {T E : Type 0} {P Q : Type 0} (r : Result T E) → (P → Q) → OnOk r P → OnOk r Q
on_ok (Ok x) f h = f h
on_ok (Err e) f h = tt
