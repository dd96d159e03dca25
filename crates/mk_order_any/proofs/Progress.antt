-- Where nothing is open and something is pending, somebody is Ready.
use Rattle.std.proofs.Common.{◌≡◌, ◌⊎◌, inl, inr, ℕ, zero, suc, ◌<◌, ◌≤◌, refl, ap, sym, ◌∙◌, subst, arith}
use Rattle.std.proofs.lemmas.Bool.{cases_lt}
use Rattle.std.specs.Prelude.{Option, Some, None}
use Rattle.mk_order_any.specs.Parts.{Parts, lt, Prior, Visit, View, Reach, nobody, Ready}
use Rattle.mk_order_any.specs.Parts.Reach.{from_start, along}
use Rattle.mk_order_any.specs.Laws.{Laws}
use Rattle.mk_order_any.proofs.Lists.{none_some, some_same, same_or_not}
use Rattle.mk_order_any.proofs.Order.{le_or_lt, lt_trans, Upto, late_of}
use Rattle.mk_order_any.proofs.Bounds.{start_closed}

module _ (P : Parts) (L : Laws P) where
  open P use {Tier, pending, after, rank, Link}

  upto_then : (v w u : Visit P) → Upto P L v w → Prior P w u → Upto P L v u
  upto_then v w u (inl a) (inl b) = inl (lt_trans P L v.0 w.0 u.0 a b)
  upto_then v w u (inl a) (inr b) = inl (subst (λ (z : Tier). lt P v.0 z) b.0 a)
  upto_then v w u (inr a) (inl b) = inl (subst (λ (z : Tier). lt P z u.0) (sym a.0) b)
  upto_then v w u (inr a) (inr b) = inr (a.0 ∙ b.0, omega arith)

  upto_trans : (v w u : Visit P) → Upto P L v w → Upto P L w u → Upto P L v u
  upto_trans v w u (inl a) (inl b) = inl (lt_trans P L v.0 w.0 u.0 a b)
  upto_trans v w u (inl a) (inr b) = inl (subst (λ (z : Tier). lt P v.0 z) b.0 a)
  upto_trans v w u (inr a) (inl b) = inl (subst (λ (z : Tier). lt P z u.0) (sym a.0) b)
  upto_trans v w u (inr a) (inr b) = inr (a.0 ∙ b.0, omega arith)

  upto_total : (v w : Visit P) → Upto P L v w ⊎ Upto P L w v
  upto_total v w = elim (le_or_lt P L v.0 w.0) [
    | inl a ↦ elim (le_or_lt P L w.0 v.0) [
      | inl b ↦ same (L.le_antisym v.0 w.0 a b) (ranks (rank v.1) (rank w.1))
      | inr b ↦ inl (inl b)
    ]
    | inr a ↦ inr (inl a)
  ]
    where
      ranks : (m n : ℕ) → (m ≤ n) ⊎ (n ≤ m)
      ranks m n = elim (cases_lt m n) [ inl less ↦ inl (omega arith) | inr more ↦ inr more ]

      same : v.0 ≡ w.0 → (rank v.1 ≤ rank w.1) ⊎ (rank w.1 ≤ rank v.1) → Upto P L v w ⊎ Upto P L w v
      same e (inl a) = inl (inr (e, a))
      same e (inr a) = inr (inr (sym e, a))

  module _ (V : View P) (shut : (i : ℕ) → V.open_at i ≡ None) where
    -- the least pending visit belongs to a simulator that is Ready
    module _ (s : ℕ) (x : Tier) (its : pending V.acts s ≡ Some x) (least : (i : ℕ) (y : Tier) → pending V.acts i ≡ Some y → Upto P L (x, s) (y, i)) where
      none_before : (i : ℕ) (y : Tier) → Reach P V (nobody P) i y → Upto P L (x, s) (y, i)
      none_before i y (from_start _ _ _ is) = least i y (sym (start_closed P L V i (shut i)) ∙ is)
      none_before i z (along j v _ y _ walk edge _ is) = subst (λ (t : Tier). Upto P L (x, s) (t, i)) (sym is)
          (upto_then (x, s) (y, j) (after y v, i) (none_before j y walk) (L.link_rises j v i y (L.edge_link j v i edge)))

      pub least_is_ready : Ready P V s x
      least_is_ready = record {
        closed = shut s;
        at_pending = its;
        clear = (λ j v y link walk. late_of P L x s y j (none_before j y walk) v link);
      }

    -- the least pending visit of the simulators below n
    Least : ℕ → Type 0
    Least n = ((i : ℕ) → i < n → pending V.acts i ≡ None) ⊎ ((s : ℕ) × (x : Tier) × (pending V.acts s ≡ Some x) × ((i : ℕ) (y : Tier) → i < n → pending V.acts i ≡ Some y → Upto P L (x, s) (y, i)))

    below : (i n : ℕ) → i < suc n → (i ≡ n → ⊥) → i < n
    below i n less other = omega arith

    least : (n : ℕ) → Least n
    unfolding Least
    least zero = inl (λ i no. absurd (omega arith))
    least (suc n) = go (pending V.acts n) refl (least n)
      where
        go : (p : Option Tier) → pending V.acts n ≡ p → Least n → Least (suc n)
        go None quiet (inl none) = inl (λ i less. elim (same_or_not i n) [ inl e ↦ ap (λ j. pending V.acts j) e ∙ quiet | inr other ↦ none i (below i n less other) ])
        go None quiet (inr r) = inr (
          r.0,
          r.1,
          r.2,
          (λ i y less is. elim (same_or_not i n) [
            | inl e ↦ absurd (none_some y (sym quiet ∙ ap (λ j. pending V.acts j) (sym e) ∙ is))
            | inr other ↦ r.3 i y (below i n less other) is
          ]),
        )
        go (Some z) is (inl none) = inr (
          n,
          z,
          is,
          (λ i y less there. elim (same_or_not i n) [
            | inl e ↦ inr (some_same (sym is ∙ ap (λ j. pending V.acts j) (sym e) ∙ there), subst (λ (j : ℕ). rank n ≤ rank j) (sym e) (omega arith))
            | inr other ↦ absurd (none_some y (sym (none i (below i n less other)) ∙ there))
          ]),
        )
        go (Some z) is (inr r) = elim (upto_total (r.1, r.0) (z, n)) [
          | inl a ↦ inr (
            r.0,
            r.1,
            r.2,
            (λ i y less there. elim (same_or_not i n) [
              | inl e ↦ subst (λ (v : Visit P). Upto P L (r.1, r.0) v) (λ k. (some_same (sym is ∙ ap (λ j. pending V.acts j) (sym e) ∙ there) k, sym e k)) a
              | inr other ↦ r.3 i y (below i n less other) there
            ]),
          )
          | inr a ↦ inr (
            n,
            z,
            is,
            (λ i y less there. elim (same_or_not i n) [
              | inl e ↦ inr (some_same (sym is ∙ ap (λ j. pending V.acts j) (sym e) ∙ there), subst (λ (j : ℕ). rank n ≤ rank j) (sym e) (omega arith))
              | inr other ↦ upto_trans (z, n) (r.1, r.0) (y, i) a (r.3 i y (below i n less other) there)
            ]),
          )
        ]

    -- somebody's pending visit is the least, and that simulator is Ready
    pub somebody_least : (i : ℕ) (y : Tier) → pending V.acts i ≡ Some y → (s : ℕ) × (x : Tier) × (pending V.acts s ≡ Some x) × ((j : ℕ) (z : Tier) → pending V.acts j ≡ Some z → Upto P L (x, s) (z, j))
    unfolding Least
    somebody_least i y is = go (least P.count)
      where
        go : Least P.count → (s : ℕ) × (x : Tier) × (pending V.acts s ≡ Some x) × ((j : ℕ) (z : Tier) → pending V.acts j ≡ Some z → Upto P L (x, s) (z, j))
        go (inl none) = absurd (none_some y (sym (none i (L.due_below V.acts i y (L.pending_due V.acts i y is))) ∙ is))
        go (inr r) = (r.0, r.1, r.2, λ j z there. r.3 j z (L.due_below V.acts j z (L.pending_due V.acts j z there)) there)

    pub somebody_ready : (i : ℕ) (y : Tier) → pending V.acts i ≡ Some y → (s : ℕ) × (x : Tier) × Ready P V s x
    somebody_ready i y is = let r = somebody_least i y is in (r.0, r.1, least_is_ready r.0 r.1 r.2 r.3)
