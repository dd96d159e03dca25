-- The orders of times and of visits.
use Rattle.std.proofs.Common.{◌≡◌, ◌⊎◌, inl, inr, ℕ, ◌≤◌, refl, sym, ◌∙◌, subst, arith}
use Rattle.std.specs.Prelude.{Bool, true, false}
use Rattle.mk_order_any.specs.Parts.{Parts, le, lt, Prior, Late, Visit}
use Rattle.mk_order_any.specs.Laws.{Laws}
use Rattle.mk_order_any.proofs.Lists.{true_false}

module _ (P : Parts) (L : Laws P) where
  open P use {Tier, Via, after, rank, Link, leb}

  pub le_or_lt : (x y : Tier) → le P x y ⊎ lt P y x
  le_or_lt x y = go (leb x y) refl
    where
      go : (b : Bool) → leb x y ≡ b → le P x y ⊎ lt P y x
      go true is = inl is
      go false is = inr is

  pub le_refl : (x : Tier) → le P x x
  le_refl x = elim (le_or_lt x x) [ inl is ↦ is | inr is ↦ L.le_total x x is ]

  pub not_both : {X : Type 0} (x y : Tier) → lt P x y → le P y x → X
  not_both x y less more = absurd (true_false (sym more ∙ less))

  pub lt_le_trans : (x y z : Tier) → lt P x y → le P y z → lt P x z
  lt_le_trans x y z a b = elim (le_or_lt z x) [ inl c ↦ not_both x y a (L.le_trans y z x b c) | inr c ↦ c ]

  pub lt_trans : (x y z : Tier) → lt P x y → lt P y z → lt P x z
  lt_trans x y z a b = lt_le_trans x y z a (L.le_total y z b)

  pub lt_apart : (x y : Tier) → lt P x y → x ≡ y → ⊥
  lt_apart x y a e = not_both x y a (subst (λ (z : Tier). le P z x) e (le_refl x))

  -- at or before, in the order of visits
  abbrev pub Upto : Visit P → Visit P → Type 0
  Upto v w = lt P v.0 w.0 ⊎ ((v.0 ≡ w.0) × (rank v.1 ≤ rank w.1))

  pub upto_self : (v : Visit P) → Upto v v
  upto_self v = inr (refl, omega arith)

  pub upto_prior : (v w : Visit P) → Prior P v w → Upto v w
  upto_prior v w (inl a) = inl a
  upto_prior v w (inr a) = inr (a.0, omega arith)

  pub prior_one_way : (v w : Visit P) → Prior P v w → Prior P w v → ⊥
  prior_one_way v w (inl a) (inl b) = not_both v.0 w.0 a (L.le_total w.0 v.0 b)
  prior_one_way v w (inl a) (inr b) = lt_apart v.0 w.0 a (sym b.0)
  prior_one_way v w (inr a) (inl b) = lt_apart w.0 v.0 b (sym a.0)
  prior_one_way v w (inr a) (inr b) = omega arith

  -- visits of one simulator are ordered by time
  pub prior_own : (x y : Tier) (s : ℕ) → Prior P (x, s) (y, s) → lt P x y
  prior_own x y s (inl a) = a
  prior_own x y s (inr a) = absurd (omega arith)

  pub upto_own : (v w : Visit P) → Upto v w → le P v.0 w.0
  upto_own v w (inl a) = L.le_total v.0 w.0 a
  upto_own v w (inr a) = subst (λ (z : Tier). le P v.0 z) a.0 (le_refl v.0)

  pub prior_upto : (v w : Visit P) (z : Tier) → Prior P v w → le P w.0 z → Prior P v (z, w.1)
  prior_upto v w z (inl a) b = inl (lt_le_trans v.0 w.0 z a b)
  prior_upto v w z (inr a) b = elim (le_or_lt z v.0) [
    | inl c ↦ inr (L.le_antisym v.0 z (subst (λ (u : Tier). le P u z) (sym a.0) b) c, a.1)
    | inr c ↦ inl c
  ]

  -- what is not before a visit is late for it
  pub late_of : (x : Tier) (s : ℕ) (y : Tier) (i : ℕ) → Upto (x, s) (y, i) → Late P s x i y
  late_of x s y i upto v link = go upto (L.link_rises i v s y link)
    where
      go : Upto (x, s) (y, i) → Prior P (y, i) (after y v, s) → lt P x (after y v)
      go (inl a) (inl b) = lt_trans x y (after y v) a b
      go (inl a) (inr b) = subst (λ (z : Tier). lt P x z) b.0 a
      go (inr a) (inl b) = subst (λ (z : Tier). lt P z (after y v)) (sym a.0) b
      go (inr a) (inr b) = absurd (omega arith)
