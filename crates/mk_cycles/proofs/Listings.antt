-- Lemmas on numbers that are listed and marked.
use Rattle.std.proofs.Common.{◌≡◌, ℕ, zero, suc, ◌+◌, ◌<◌, ◌⊎◌, inl, inr, Bool, true, false, cond, List, [], ◌∷◌, ◌++◌, length, set, get_or, Some, refl, sym, ap, subst, ◌∙◌, arith}
use Rattle.std.specs.List.{filter, count_by, slice_get}
use Rattle.std.proofs.lemmas.Bool.{cases_lt, cases_eq, false≢true}
use Rattle.std.proofs.lemmas.List.{get_or_past, get_or-set_same, get_or-set_other, length-set, length_push}
use Rattle.std.proofs.lemmas.List.Sums.{sum_by-set, count_by-le-length, length-filter}
use Rattle.mk_base.proofs.Lists.{some_same, none_some, in_front, in_back, in_either, at_in}
use Rattle.mk_base.specs.Lists.{IsIn}
use Rattle.mk_cycles.specs.inner.Listing.{MarksListed}

-- a marked number is below the count
pub below : (marks : List Bool) (order : List ℕ) (s : ℕ) → MarksListed marks order → IsIn s order → s < length marks
below marks order s m here = elim (cases_lt s (length marks)) [
  | inl under ↦ under
  | inr past ↦ absurd (false≢true (sym (get_or_past marks s false past) ∙ m.marked s here))
]

-- a number that is not listed is not marked
pub unmarked : (marks : List Bool) (order : List ℕ) (s : ℕ) → MarksListed marks order → (IsIn s order → ⊥) → get_or marks s false ≡ false
unmarked marks order s m new = elim (get_or marks s false) as (λ b. get_or marks s false ≡ b → b ≡ false) [
  | true ↦ λ e. absurd (new (m.listed s e))
  | false ↦ λ e. refl
] refl

-- one more is marked
count-set : (marks : List Bool) (s : ℕ) → s < length marks → get_or marks s false ≡ false → count_by (λ (b : Bool). b) (set marks s true) ≡ count_by (λ (b : Bool). b) marks + 1
count-set marks s under off =
    let f : Bool → ℕ = λ b. cond b 1 0 in
    let step = sum_by-set f marks s true false under in
    let none : f (get_or marks s false) ≡ 0 = ap f off in
    omega (arith, step, none)

-- there is room for one more
pub room : (marks : List Bool) (order : List ℕ) (s : ℕ) → MarksListed marks order → s < length marks → (IsIn s order → ⊥) → length order < length marks
room marks order s m under new =
    omega (arith, count-set marks s under (unmarked marks order s m new), m.counted, count_by-le-length (λ (b : Bool). b) (set marks s true), length-set marks s true)

-- what stands in a place after a push
pub get_push : {X : Type 0} (xs : List X) (y : X) (i : ℕ) (x : X) → slice_get (xs ++ y ∷ []) i ≡ Some x → ((i < length xs) × (slice_get xs i ≡ Some x)) ⊎ ((i ≡ length xs) × (x ≡ y))
get_push [] y zero x e = inr (refl, sym (some_same e))
get_push [] y (suc i) x e = absurd (none_some e)
get_push (z ∷ xs) y zero x e = inl (omega arith, e)
get_push (z ∷ xs) y (suc i) x e = elim (get_push xs y i x e) [
  | inl (under, is) ↦ inl (omega arith, is)
  | inr (last, is) ↦ inr (omega arith, is)
]

-- one more is listed and marked
pub pushed : (marks : List Bool) (order : List ℕ) (s : ℕ) → MarksListed marks order → s < length marks → (IsIn s order → ⊥) → MarksListed (set marks s true) (order ++ s ∷ [])
pushed marks order s m under new = record {
  listed = λ t on. elim (cases_eq t s) [
    | inl same ↦ in_back t order (s ∷ []) (inl same)
    | inr other ↦ in_front t order (s ∷ []) (m.listed t (sym (get_or-set_other marks s t true false other) ∙ on))
  ];
  marked = λ t here. elim (cases_eq t s) [
    | inl same ↦ ap (λ (k : ℕ). get_or (set marks s true) k false) same ∙ get_or-set_same marks s true false under
    | inr other ↦ get_or-set_other marks s t true false other ∙ m.marked t (elim (in_either t order (s ∷ []) here) [
      | inl earlier ↦ earlier
      | inr (inl same) ↦ absurd (other same)
      | inr (inr none) ↦ absurd none
    ])
  ];
  counted = count-set marks s under (unmarked marks order s m new) ∙ ap (λ n. n + 1) m.counted ∙ sym (length_push order s);
  apart = λ i j t at_i at_j. elim (get_push order s i t at_i) [
    | inl (under_i, is_i) ↦ elim (get_push order s j t at_j) [
      | inl (under_j, is_j) ↦ m.apart i j t is_i is_j
      | inr (last_j, same) ↦ absurd (new (subst (λ (k : ℕ). IsIn k order) same (at_in t order i is_i)))
    ]
    | inr (last_i, same) ↦ elim (get_push order s j t at_j) [
      | inl (under_j, is_j) ↦ absurd (new (subst (λ (k : ℕ). IsIn k order) same (at_in t order j is_j)))
      | inr (last_j, also) ↦ last_i ∙ sym last_j
    ]
  ];
}

-- where all are marked, all are counted
pub all_marked : (marks : List Bool) → ((k : ℕ) → k < length marks → get_or marks k false ≡ true) → length (filter (λ (b : Bool). b) marks) ≡ length marks
all_marked [] on = refl
all_marked (true ∷ marks) on = let rest = all_marked marks (λ k h. on (suc k) (omega arith)) in omega (arith, rest)
all_marked (false ∷ marks) on = absurd (false≢true (on zero (omega arith)))

-- where all are marked, as many are listed as there are
pub all_listed : (marks : List Bool) (order : List ℕ) → MarksListed marks order → ((k : ℕ) → k < length marks → get_or marks k false ≡ true) → length order ≡ length marks
all_listed marks order m on = sym m.counted ∙ sym (length-filter (λ (b : Bool). b) marks) ∙ all_marked marks on
