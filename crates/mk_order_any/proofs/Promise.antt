-- What is triggered from outside after a Step is known, or comes from the end of a walk that avoids
-- the simulator.
use Rattle.std.proofs.Common.{◌≡◌, ◌⊎◌, inl, inr, ℕ, ◌<◌, List, refl, ap, sym, ◌∙◌, subst}
use Rattle.std.specs.Prelude.{true, false}
use Rattle.mk_order_any.specs.Parts.{Parts, In, Every, Prefix, le, seq, View, Reach, Ready, Reached, Outer, heard_of}
use Rattle.mk_order_any.specs.Laws.{Laws}
use Rattle.mk_order_any.proofs.Lists.{true_false, in_append, found}
use Rattle.mk_order_any.proofs.Bounds.{nothing_before_bounds, silent_of}
use Rattle.mk_order_any.proofs.Talks.{everywhere}
use Rattle.mk_order_any.proofs.Invariant.{Agreeing, invariant_holds, begun_of, heard_closed}

module _ (P : Parts) (L : Laws P) where
  open P use {Tier, Via, Message, Act, at, ended, Edge, after}

  -- R goes on after what was heard, but s sends nothing more
  module _ (V : View P) (reached : Reached P V) (s : ℕ) (x : Tier) (ready : Ready P V s x) (R : ℕ → List Message) (cont : (i : ℕ) → i < P.count → Prefix (heard_of P V i) (R i)) (over : R s ≡ heard_of P V s) where
    pub promise_kept : (j : ℕ) (v : Via) (a : Act) (d : Tier) → Edge j v s → In a (seq P R j) → ended a ≡ true → le P (after (at a) v) d →
        In a (V.acts j) ⊎ ((w : Tier) × Outer P V s w × le P w d)
    promise_kept j v a d edge there whole later = elim (in_append a (V.acts j) (k.known j).0 (subst (λ (l : List Act). In a l) (k.known j).1 there)) [
      | inl b ↦ inl b
      | inr b ↦
          let free : j ≡ s → ⊥ = λ e. true_false (sym whole ∙ found (λ u. ended u ≡ false) a (k.known j).0 (silent j e) b) in
          let r : (y : Tier) × Reach P V (λ i. i ≡ s) j y × le P y (at a) =
          nothing_before_bounds P L R V (λ i. (k.known i).0) (λ i. (k.known i).1) (begun_of P L R V k) (λ i. i ≡ s) silent j a b free in
          inr (after r.0 v, record { origin = j; via = v; time = r.0; edge = edge; walked = r.1; is = refl }, L.le_trans (after r.0 v) (after (at a) v) d (L.after_mono r.0 (at a) v r.2) later)
    ]
      where
        k : Agreeing P L (seq P R) V.acts V.open_at
        k = (invariant_holds P L V reached).agreeing R (everywhere P L V reached R cont)

        silent : (i : ℕ) → i ≡ s → Every (λ u. ended u ≡ false) (k.known i).0
        silent i e = silent_of P L R V (λ i. (k.known i).0) (λ i. (k.known i).1) (begun_of P L R V k) i
            (subst (λ (z : ℕ). R z ≡ heard_of P V z) (sym e) over ∙ heard_closed P L V i (ap V.open_at e ∙ ready.closed))
