-- Lemmas on a table of edges.
use Rattle.std.proofs.Common.{◌≡◌, ℕ, zero, suc, ◌+◌, ◌*◌, ◌/◌, ◌%◌, ◌<◌, ◌≤◌, ◌⊎◌, inl, inr, Bool, true, false, ◌&&◌, ◌||◌, eqb, nat_lt, List, [], ◌∷◌, length, take, set, get_or, refl, sym, ap, ◌∙◌, arith}
use Rattle.std.proofs.lemmas.Bool.{cases_lt, cases_eq, eq-eqb, ne_eqb, lt-ltb, le-ltb, and_left, and_right, or_right, or_from}
use Rattle.std.proofs.lemmas.List.{get_or-set_same, get_or-set_other, take_all}
use Rattle.std.proofs.lemmas.List.Folds.{list_any_more}
use Rattle.std.proofs.lemmas.Nat.{mul-add-lt, div-mul-add, mod-mul-add}
use Rattle.mk_cycles.specs.declared.ranking.Edge.{Edge}
use Rattle.mk_cycles.specs.Edges.{has_edge, EndsBelow}
use Rattle.mk_cycles.specs.inner.Tables.{is_set}

-- places in different rows or columns differ
place_apart : (n p s q t : ℕ) → p < n → q < n → s * n + p ≡ t * n + q → (s ≡ t) × (p ≡ q)
place_apart n p s q t p_under q_under same = (
  sym (div-mul-add s n p p_under) ∙ ap (λ k. k / n) same ∙ div-mul-add t n q q_under,
  sym (mod-mul-add s n p p_under) ∙ ap (λ k. k % n) same ∙ mod-mul-add t n q q_under,
)

-- each edge has its ends below the count
each_get : (n : ℕ) (edges : List Edge) (i : ℕ) (d : Edge) → EndsBelow n edges → i < length edges → ((get_or edges i d).from.0 < n) × ((get_or edges i d).to.0 < n)
each_get n [] i d ends under = absurd (omega arith)
each_get n (e ∷ edges) zero d ends under = ends.0
each_get n (e ∷ edges) (suc i) d ends under = each_get n edges i d ends.1 (omega arith)

-- one more edge is written
pub set_more : (n : ℕ) (edges : List Edge) (cells : List Bool) (i : ℕ) (d : Edge) → EndsBelow n edges → i < length edges → length cells ≡ n * n
    → ((p s : ℕ) → p < n → s < n → get_or cells (s * n + p) false ≡ has_edge (take i edges) p s) → (p s : ℕ) → p < n → s < n
    → get_or (set cells ((get_or edges i d).to.0 * n + (get_or edges i d).from.0) true) (s * n + p) false ≡ has_edge (take (i + 1) edges) p s
set_more n edges cells i d ends under area same p s p_under s_under =
    let e = get_or edges i d in
    let below = each_get n edges i d ends under in
    let more : has_edge (take (i + 1) edges) p s ≡ (has_edge (take i edges) p s || (eqb e.from.0 p && eqb e.to.0 s)) =
    list_any_more (λ (x : Edge). eqb x.from.0 p && eqb x.to.0 s) edges i d under in
    let within : e.to.0 * n + e.from.0 < length cells = omega (arith, mul-add-lt e.to.0 n e.from.0 n below.1 below.0) in
    elim (cases_eq (s * n + p) (e.to.0 * n + e.from.0)) [
      | inl here ↦
          let ends_are = place_apart n p s e.from.0 e.to.0 p_under below.0 here in
          let from_is : eqb e.from.0 p ≡ true = eq-eqb e.from.0 p (sym ends_are.1) in
          let to_is : eqb e.to.0 s ≡ true = eq-eqb e.to.0 s (sym ends_are.0) in
          let hit : (eqb e.from.0 p && eqb e.to.0 s) ≡ true = rw (from_is, to_is) refl in
          ap (λ k. get_or (set cells (e.to.0 * n + e.from.0) true) k false) here ∙ get_or-set_same cells (e.to.0 * n + e.from.0) true false within
          ∙ sym (more ∙ or_right (has_edge (take i edges) p s) (eqb e.from.0 p && eqb e.to.0 s) hit)
      | inr other ↦
          let miss : (eqb e.from.0 p && eqb e.to.0 s) ≡ false = elim (cases_eq e.from.0 p) [
            | inl from_same ↦ elim (cases_eq e.to.0 s) [
              | inl to_same ↦ absurd (other (rw (from_same, to_same) refl))
              | inr to_other ↦ and_right (eqb e.from.0 p) (eqb e.to.0 s) (ne_eqb e.to.0 s to_other)
            ]
            | inr from_other ↦ and_left (eqb e.from.0 p) (eqb e.to.0 s) (ne_eqb e.from.0 p from_other)
          ] in
          get_or-set_other cells (e.to.0 * n + e.from.0) (s * n + p) true false other ∙ same p s p_under s_under
          ∙ sym (more ∙ ap (λ b. has_edge (take i edges) p s || b) miss ∙ or_false (has_edge (take i edges) p s))
    ]
  where
    or_false : (b : Bool) → (b || false) ≡ b
    or_false true = refl
    or_false false = refl

-- outside there is no edge
outside : (n : ℕ) (edges : List Edge) (p s : ℕ) → EndsBelow n edges → (n ≤ p) ⊎ (n ≤ s) → has_edge edges p s ≡ false
outside n [] p s ends past = refl
outside n (e ∷ edges) p s ends past =
    or_from (eqb e.from.0 p && eqb e.to.0 s) (has_edge edges p s)
    (elim past [
      | inl p_past ↦ and_left (eqb e.from.0 p) (eqb e.to.0 s) (ne_eqb e.from.0 p (λ same. omega (arith, ends.0.0)))
      | inr s_past ↦ and_right (eqb e.from.0 p) (eqb e.to.0 s) (ne_eqb e.to.0 s (λ same. omega (arith, ends.0.1)))
    ])
    (outside n edges p s ends.1 past)

-- the table has the edges
pub leads_is : (n : ℕ) (edges : List Edge) (cells : List Bool) (i : ℕ) → EndsBelow n edges → length edges ≤ i
    → ((p s : ℕ) → p < n → s < n → get_or cells (s * n + p) false ≡ has_edge (take i edges) p s) → is_set n cells ≡ has_edge edges
leads_is n edges cells i ends all same = λ j p s. pointwise p s j
  where
    pointwise : (p s : ℕ) → is_set n cells p s ≡ has_edge edges p s
    pointwise p s = elim (cases_lt p n) [
      | inl p_under ↦ elim (cases_lt s n) [
        | inl s_under ↦
            let p_is : nat_lt p n ≡ true = lt-ltb p n p_under in
            let s_is : nat_lt s n ≡ true = lt-ltb s n s_under in
            rw (p_is, s_is) (same p s p_under s_under ∙ ap (λ (es : List Edge). has_edge es p s) (take_all i edges all))
        | inr s_past ↦
            let s_is : nat_lt s n ≡ false = le-ltb s n s_past in
            and_right (nat_lt p n) (nat_lt s n && get_or cells (s * n + p) false) (and_left (nat_lt s n) (get_or cells (s * n + p) false) s_is) ∙ sym (outside n edges p s ends (inr s_past))
      ]
      | inr p_past ↦
          let p_is : nat_lt p n ≡ false = le-ltb p n p_past in
          and_left (nat_lt p n) (nat_lt s n && get_or cells (s * n + p) false) p_is ∙ sym (outside n edges p s ends (inl p_past))
    ]
