-- Lemmas on going back.
use Rattle.std.proofs.Common.{◌≡◌, ℕ, zero, suc, ◌+◌, ◌<◌, ◌≤◌, ◌^◌, inl, inr, Bool, List, [], ◌∷◌, ◌++◌, length, take, drop, reverse, slice_index, get_or, Some, sym, ap, subst, ◌∙◌, arith, append_assoc}
use Rattle.std.specs.List.{slice_get}
use Rattle.std.proofs.lemmas.Option.{get_or_from_slice_get, slice_get-get_or, slice_get_within}
use Rattle.mk_base.proofs.Lists.{some_same, in_either, in_at, at_in, each_in, in_each}
use Rattle.mk_base.specs.Lists.{Each, IsIn}
use Rattle.mk_cycles.specs.Cycles.{IsUnplaced, IsBack, IsGoneBackTo, at_least, further, IsLoop}
use Rattle.mk_cycles.specs.Edges.{IsChain}
use Rattle.mk_cycles.proofs.Chains.{in_reverse, in_take, in_drop, get_take, get_drop, split_at, chain_split, turned_is, chain_turned_back}

-- whoever is reached is left
pub reached_left : (before : ℕ → ℕ → Bool) (n : ℕ) (order : List ℕ) (s : ℕ) → IsGoneBackTo before n order s → IsUnplaced n order s
reached_left before n order _ (at_least s left least) = left
reached_left before n order _ (further s p reached back) = back.0

-- the numbers of a list stand in one place each
abbrev pub IsApart : List ℕ → Type 0
IsApart xs = (i j s : ℕ) → slice_get xs i ≡ Some s → slice_get xs j ≡ Some s → i ≡ j

-- what is in the list that was turned is in the list
pub in_turned : (s i : ℕ) (xs : List ℕ) → IsIn s (reverse (drop (suc i) xs ++ take (suc i) xs)) → IsIn s xs
in_turned s i xs here = elim (in_either s (drop (suc i) xs) (take (suc i) xs) (in_reverse s (drop (suc i) xs ++ take (suc i) xs) here)) [
  | inl behind ↦ in_drop s (suc i) xs behind
  | inr before ↦ in_take s (suc i) xs before
]

-- the least number is less than each other one
pub least_first : (i m : ℕ) (xs : List ℕ) → IsApart xs → slice_get xs i ≡ Some m → ((j : ℕ) → j < length xs → slice_index xs i ≤ slice_index xs j)
    → Each (λ s. m < s) (reverse (drop (suc i) xs ++ take i xs))
least_first i m xs apart is least =
    each_in (λ s. m < s) (reverse (drop (suc i) xs ++ take i xs)) (λ s here.
    elim (in_either s (drop (suc i) xs) (take i xs) (in_reverse s (drop (suc i) xs ++ take i xs) here)) [
      | inl behind ↦
          let at = in_at s (drop (suc i) xs) behind in
          less s (suc i + at.0) (get_drop (suc i) at.0 s xs at.1) (λ e. absurd (omega arith))
      | inr before ↦
          let at = in_at s (take i xs) before in
          let there = get_take i at.0 s xs at.1 in
          less s at.0 there.1 (λ e. absurd (omega (arith, there.0)))
    ])
  where
    less : (s j : ℕ) → slice_get xs j ≡ Some s → (i ≡ j → ⊥) → m < s
    less s j there other =
        let low : slice_index xs i ≤ slice_index xs j = least j (slice_get_within xs j s there) in
        let m_is : slice_index xs i ≡ m = get_or_from_slice_get xs i m 0 is in
        let s_is : slice_index xs j ≡ s = get_or_from_slice_get xs j s 0 there in
        let differ : m ≡ s → ⊥ = λ e. other (apart i j s (is ∙ ap (λ (k : ℕ). Some k) e) there) in
        omega (arith, low, m_is, s_is, differ)

-- a part of a chain to its end
pub chain_drop : (R : ℕ → ℕ → Type 0) (k s : ℕ) (path : List ℕ) → slice_get path k ≡ Some s → IsChain R (path ++ s ∷ []) → IsChain R (drop k path ++ s ∷ [])
chain_drop R k s path is chain =
    let parts = split_at k s path is in
    let whole : IsChain R (take k path ++ s ∷ (drop (suc k) path ++ s ∷ [])) =
    subst (λ (r : List ℕ). IsChain R r) (ap (λ (r : List ℕ). r ++ s ∷ []) parts.1 ∙ append_assoc (take k path) (s ∷ drop (suc k) path) (s ∷ [])) chain in
    subst (λ (r : List ℕ). IsChain R (r ++ s ∷ [])) (sym (drop_is k s path is)) (chain_split R (take k path) s (drop (suc k) path ++ s ∷ []) whole).1
  where
    drop_is : (i x : ℕ) (xs : List ℕ) → slice_get xs i ≡ Some x → drop i xs ≡ x ∷ drop (suc i) xs
    drop_is i x [] e = cc
    drop_is zero x (y ∷ xs) e = ap (λ (k : ℕ). k ∷ xs) (some_same e)
    drop_is (suc i) x (y ∷ xs) e = drop_is i x xs e

-- the first place of a part
pub get_first : (k s : ℕ) (path : List ℕ) → slice_get path k ≡ Some s → slice_get (drop k path) 0 ≡ Some s
get_first k s [] e = cc
get_first zero s (y ∷ path) e = e
get_first (suc k) s (y ∷ path) e = get_first k s path e

-- a part's places are apart
pub apart_drop : (k : ℕ) (path : List ℕ) → IsApart path → IsApart (drop k path)
apart_drop k path apart i j s at_i at_j =
    let same = apart (k + i) (k + j) s (get_drop k i s path at_i) (get_drop k j s path at_j) in
    omega (arith, same)

-- what going back came round to is the loop
pub looped : (before : ℕ → ℕ → Bool) (n : ℕ) (order path around walk : List ℕ) (k again i : ℕ) → IsApart path
    → Each (λ s. IsGoneBackTo before n order s) path → IsChain (λ s p. IsBack before n order s p) (path ++ again ∷ []) → slice_get path k ≡ Some again → around ≡ drop k path
    → i < length around → ((j : ℕ) → j < length around → slice_index around i ≤ slice_index around j) → walk ≡ reverse (drop (suc i) around ++ take (suc i) around)
    → IsLoop before n order walk
looped before n order path around walk k again i apart reached chain is part under least turning =
    let R : ℕ → ℕ → Type 0 = λ s p. IsBack before n order s p in
    let m = get_or around i 0 in
    let m_is : slice_get around i ≡ Some m = slice_get-get_or around i 0 under in
    let on_path : IsIn m path = in_drop m k path (subst (λ (r : List ℕ). IsIn m r) part (at_in m around i m_is)) in
    let places : IsApart around = subst (λ (r : List ℕ). IsApart r) (sym part) (apart_drop k path apart) in
    let closed : IsChain R (around ++ again ∷ []) = subst (λ (r : List ℕ). IsChain R (r ++ again ∷ [])) (sym part) (chain_drop R k again path is chain) in
    let start : slice_get around 0 ≡ Some again = subst (λ (r : List ℕ). slice_get r 0 ≡ Some again) (sym part) (get_first k again path is) in
    let loop : IsLoop before n order (m ∷ reverse (drop (suc i) around ++ take i around)) =
    (in_each (λ s. IsGoneBackTo before n order s) m path reached on_path, least_first i m around places m_is least, chain_turned_back R i m again around m_is start closed) in
    subst (λ (r : List ℕ). IsLoop before n order r) (sym (turning ∙ turned_is i m around m_is)) loop

-- the numbers of the walk are small
pub walk_small : (before : ℕ → ℕ → Bool) (n : ℕ) (order path around walk : List ℕ) (k i : ℕ) → n < 2 ^ 32 → Each (λ s. IsGoneBackTo before n order s) path → around ≡ drop k path
    → walk ≡ reverse (drop (suc i) around ++ take (suc i) around) → Each (λ s. s < 2 ^ 32) walk
walk_small before n order path around walk k i small reached part turning =
    each_in (λ s. s < 2 ^ 32) walk (λ s here.
    let on_loop : IsIn s around = in_turned s i around (subst (λ (r : List ℕ). IsIn s r) turning here) in
    let on_path : IsIn s path = in_drop s k path (subst (λ (r : List ℕ). IsIn s r) part on_loop) in
    let left = reached_left before n order s (in_each (λ s. IsGoneBackTo before n order s) s path reached on_path) in
    omega (arith, left.0))
