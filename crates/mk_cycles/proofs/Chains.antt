-- Lemmas on chains and on parts of lists.
use Rattle.std.proofs.Common.{◌≡◌, ℕ, zero, suc, ◌+◌, ◌<◌, inl, inr, List, [], ◌∷◌, ◌++◌, take, drop, reverse, Some, sym, ap, subst, ◌∙◌, arith, append_assoc}
use Rattle.std.specs.List.{slice_get}
use Rattle.std.proofs.lemmas.List.{reverse-append, take-append-drop, append-nil}
use Rattle.mk_base.proofs.Lists.{some_same, none_some, in_front, in_back, in_either}
use Rattle.mk_base.specs.Lists.{IsIn}
use Rattle.mk_cycles.specs.Edges.{IsChain}

-- the last item first
reverse-cons : (x : ℕ) (xs : List ℕ) → reverse (x ∷ xs) ≡ reverse xs ++ x ∷ []
reverse-cons x xs = reverse-append (x ∷ []) xs

-- what is in a list the other way round
pub in_reverse : (x : ℕ) (xs : List ℕ) → IsIn x (reverse xs) → IsIn x xs
in_reverse x [] here = here
in_reverse x (y ∷ xs) here =
    elim (in_either x (reverse xs) (y ∷ []) (subst (λ (r : List ℕ). IsIn x r) (reverse-cons y xs) here)) [
      | inl before ↦ inr (in_reverse x xs before)
      | inr (inl last) ↦ inl last
      | inr (inr none) ↦ absurd none
    ]

-- what is in a part is in the whole
pub in_take : (x i : ℕ) (xs : List ℕ) → IsIn x (take i xs) → IsIn x xs
in_take x i xs here = subst (λ (r : List ℕ). IsIn x r) (take-append-drop i xs) (in_front x (take i xs) (drop i xs) here)

pub in_drop : (x i : ℕ) (xs : List ℕ) → IsIn x (drop i xs) → IsIn x xs
in_drop x i xs here = subst (λ (r : List ℕ). IsIn x r) (take-append-drop i xs) (in_back x (take i xs) (drop i xs) here)

-- a place in a part
pub get_take : (i j x : ℕ) (xs : List ℕ) → slice_get (take i xs) j ≡ Some x → (j < i) × (slice_get xs j ≡ Some x)
get_take zero j x xs e = absurd (none_some e)
get_take (suc i) j x [] e = absurd (none_some e)
get_take (suc i) zero x (y ∷ xs) e = (omega arith, e)
get_take (suc i) (suc j) x (y ∷ xs) e = let inner = get_take i j x xs e in (omega (arith, inner.0), inner.1)

pub get_drop : (i j x : ℕ) (xs : List ℕ) → slice_get (drop i xs) j ≡ Some x → slice_get xs (i + j) ≡ Some x
get_drop zero j x xs e = subst (λ (k : ℕ). slice_get xs k ≡ Some x) (omega arith) e
get_drop (suc i) j x [] e = absurd (none_some e)
get_drop (suc i) j x (y ∷ xs) e =
    let step : suc (i + j) ≡ suc i + j = omega arith in
    subst (λ (k : ℕ). slice_get (y ∷ xs) k ≡ Some x) step (get_drop i j x xs e)

-- an item splits the list
pub split_at : (i x : ℕ) (xs : List ℕ) → slice_get xs i ≡ Some x → (take (suc i) xs ≡ take i xs ++ x ∷ []) × (xs ≡ take i xs ++ x ∷ drop (suc i) xs)
split_at i x [] e = absurd (none_some e)
split_at zero x (y ∷ xs) e =
    let same : y ≡ x = some_same e in
    (ap (λ (k : ℕ). k ∷ []) same, ap (λ (k : ℕ). k ∷ xs) same)
split_at (suc i) x (y ∷ xs) e =
    let inner = split_at i x xs e in
    (ap (λ (r : List ℕ). y ∷ r) inner.0, ap (λ (r : List ℕ). y ∷ r) inner.1)

-- a chain of what follows
pub chain-map : (R S : ℕ → ℕ → Type 0) (xs : List ℕ) → ((x y : ℕ) → R x y → S x y) → IsChain R xs → IsChain S xs
chain-map R S [] f chain = tt
chain-map R S (x ∷ []) f chain = tt
chain-map R S (x ∷ y ∷ xs) f (first, chain) = (f x y first, chain-map R S (y ∷ xs) f chain)

module _ (R : ℕ → ℕ → Type 0) where
  -- a chain goes on
  pub chain_push : (xs : List ℕ) (x y : ℕ) → IsChain R (xs ++ x ∷ []) → R x y → IsChain R ((xs ++ x ∷ []) ++ y ∷ [])
  chain_push [] x y chain step = (step, tt)
  chain_push (a ∷ []) x y (first, chain) step = (first, (step, tt))
  chain_push (a ∷ b ∷ xs) x y (first, chain) step = (first, chain_push (b ∷ xs) x y chain step)

  -- the part of a chain up to an item, and the part from it on
  pub chain_split : (xs : List ℕ) (y : ℕ) (ys : List ℕ) → IsChain R (xs ++ y ∷ ys) → IsChain R (xs ++ y ∷ []) × IsChain R (y ∷ ys)
  chain_split [] y ys chain = (tt, chain)
  chain_split (a ∷ []) y ys (first, chain) = ((first, tt), chain)
  chain_split (a ∷ b ∷ xs) y ys (first, chain) = let inner = chain_split (b ∷ xs) y ys chain in ((first, inner.0), inner.1)

  pub chain_join : (xs : List ℕ) (y : ℕ) (ys : List ℕ) → IsChain R (xs ++ y ∷ []) → IsChain R (y ∷ ys) → IsChain R (xs ++ y ∷ ys)
  chain_join [] y ys front back = back
  chain_join (a ∷ []) y ys (first, front) back = (first, back)
  chain_join (a ∷ b ∷ xs) y ys (first, front) back = (first, chain_join (b ∷ xs) y ys front back)

-- a chain the other way round
pub chain-reverse : (R : ℕ → ℕ → Type 0) (xs : List ℕ) → IsChain R xs → IsChain (λ y x. R x y) (reverse xs)
chain-reverse R [] chain = tt
chain-reverse R (x ∷ []) chain = tt
chain-reverse R (x ∷ y ∷ xs) (first, chain) =
    let S : ℕ → ℕ → Type 0 = λ b a. R a b in
    let rest : IsChain S (reverse xs ++ y ∷ []) = subst (λ (r : List ℕ). IsChain S r) (reverse-cons y xs) (chain-reverse R (y ∷ xs) chain) in
    subst (λ (r : List ℕ). IsChain S r) (ap (λ (r : List ℕ). r ++ x ∷ []) (sym (reverse-cons y xs)) ∙ sym (reverse-cons x (y ∷ xs))) (chain_push S (reverse xs) y x rest first)

-- a closed chain, from another of its items on
pub chain_turned : (R : ℕ → ℕ → Type 0) (front : List ℕ) (m : ℕ) (rest : List ℕ) (first : ℕ) → slice_get (front ++ m ∷ rest) 0 ≡ Some first
    → IsChain R ((front ++ m ∷ rest) ++ first ∷ []) → IsChain R ((m ∷ (rest ++ front)) ++ m ∷ [])
chain_turned R [] m rest first is chain =
    let same : m ≡ first = some_same is in
    let ends : (m ∷ rest) ++ first ∷ [] ≡ (m ∷ (rest ++ [])) ++ m ∷ [] =
    ap (λ (k : ℕ). (m ∷ rest) ++ k ∷ []) (sym same) ∙ ap (λ (r : List ℕ). (m ∷ r) ++ m ∷ []) (sym (append-nil rest)) in
    subst (λ (r : List ℕ). IsChain R r) ends chain
chain_turned R (h ∷ front) m rest first is chain =
    let same : h ≡ first = some_same is in
    let whole : IsChain R ((h ∷ front) ++ m ∷ (rest ++ h ∷ [])) =
    subst (λ (r : List ℕ). IsChain R r) (ap (λ (k : ℕ). ((h ∷ front) ++ m ∷ rest) ++ k ∷ []) (sym same) ∙ append_assoc (h ∷ front) (m ∷ rest) (h ∷ [])) chain in
    let parts = chain_split R (h ∷ front) m (rest ++ h ∷ []) whole in
    let joined : IsChain R ((m ∷ rest) ++ h ∷ (front ++ m ∷ [])) = chain_join R (m ∷ rest) h (front ++ m ∷ []) parts.1 parts.0 in
    subst (λ (r : List ℕ). IsChain R r) (sym (append_assoc (m ∷ rest) (h ∷ front) (m ∷ []))) joined

-- the list turned into the other direction, from the item in place i
pub turned_is : (i m : ℕ) (xs : List ℕ) → slice_get xs i ≡ Some m → reverse (drop (suc i) xs ++ take (suc i) xs) ≡ m ∷ reverse (drop (suc i) xs ++ take i xs)
turned_is i m xs is =
    let rest = drop (suc i) xs in
    let front = take i xs in
    ap (λ (r : List ℕ). reverse (rest ++ r)) (split_at i m xs is).0 ∙ ap (λ (r : List ℕ). reverse r) (sym (append_assoc rest front (m ∷ []))) ∙ reverse-append (rest ++ front) (m ∷ [])

-- it is a closed chain of the other direction
pub chain_turned_back : (R : ℕ → ℕ → Type 0) (i m first : ℕ) (xs : List ℕ) → slice_get xs i ≡ Some m → slice_get xs 0 ≡ Some first → IsChain R (xs ++ first ∷ [])
    → IsChain (λ y x. R x y) ((m ∷ reverse (drop (suc i) xs ++ take i xs)) ++ m ∷ [])
chain_turned_back R i m first xs is start chain =
    let rest = drop (suc i) xs in
    let front = take i xs in
    let whole = (split_at i m xs is).1 in
    let turned = chain_turned R front m rest first (subst (λ (r : List ℕ). slice_get r 0 ≡ Some first) whole start) (subst (λ (r : List ℕ). IsChain R (r ++ first ∷ [])) whole chain) in
    let back = chain-reverse R ((m ∷ (rest ++ front)) ++ m ∷ []) turned in
    let shape : reverse ((m ∷ (rest ++ front)) ++ m ∷ []) ≡ (m ∷ reverse (rest ++ front)) ++ m ∷ [] =
    reverse-append (m ∷ (rest ++ front)) (m ∷ []) ∙ ap (λ (r : List ℕ). m ∷ r) (reverse-cons m (rest ++ front)) in
    subst (λ (r : List ℕ). IsChain (λ y x. R x y) r) shape back
