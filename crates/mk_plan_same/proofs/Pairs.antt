-- Two lists of which each item is the other's, up to a place.
use Rattle.std.proofs.Common.{◌≡◌, ℕ, zero, suc, ◌+◌, ◌<◌, ◌≤◌, List, [], ◌∷◌, length, take, get_or, slice_get, Some, sym, ap, ◌∙◌, arith}
use Rattle.std.proofs.lemmas.List.{take_all}
use Rattle.mk_base.proofs.Lists.{none_some}
use Rattle.mk_base.proofs.Items.{get_at_place}

same_more : {X : Type 0} (xs ys : List X) (i : ℕ) (x : X) → slice_get xs i ≡ Some x → slice_get ys i ≡ Some x → take i xs ≡ take i ys → take (suc i) xs ≡ take (suc i) ys
same_more [] ys i x a b same = absurd (none_some a)
same_more (v ∷ xs) [] i x a b same = absurd (none_some b)
same_more (v ∷ xs) (w ∷ ys) zero x a b same = cc
same_more (v ∷ xs) (w ∷ ys) (suc i) x a b same =
    let more : take (suc i) xs ≡ take (suc i) ys = same_more xs ys i x a b cc in
    let first : v ≡ w = cc in cc

-- one place more is the same
pub next_same : {X : Type 0} (xs ys : List X) (i : ℕ) (x y : X) → i < length xs → x ≡ get_or xs i x → slice_get ys i ≡ Some y → x ≡ y → take i xs ≡ take i ys → take (i + 1) xs ≡ take (i + 1) ys
next_same xs ys i x y below is there same before =
    let one : i + 1 ≡ suc i = omega arith in
    ap (λ n. take n xs) one ∙ same_more xs ys i x (get_at_place xs i x below is) (there ∙ ap Some (sym same)) before ∙ ap (λ n. take n ys) (sym one)

-- another item at a place
pub other_at : {X : Type 0} (xs ys : List X) (i : ℕ) (x y : X) → i < length xs → x ≡ get_or xs i x → slice_get ys i ≡ Some y → (x ≡ y → ⊥) → xs ≡ ys → ⊥
other_at xs ys i x y below is there other same =
    let both : Some x ≡ Some y = sym (get_at_place xs i x below is) ∙ ap (λ l. slice_get l i) same ∙ there in
    other cc

-- all places are the same
pub all_same : {X : Type 0} (xs ys : List X) (i : ℕ) → length xs ≡ length ys → length xs ≤ i → take i xs ≡ take i ys → xs ≡ ys
all_same xs ys i long end same = sym (take_all i xs end) ∙ same ∙ take_all i ys (omega (arith, long, end))
