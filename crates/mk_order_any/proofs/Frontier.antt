-- The lower bound: what is closed under triggering connections and holds of all starts holds of all
-- acts that are not known yet.
use Rattle.std.proofs.Common.{◌≡◌, inl, inr, ℕ, List, [], ◌∷◌, ◌++◌, refl, ap, sym, ◌∙◌, subst}
use Rattle.std.specs.Prelude.{Bool, true, false, not, Option, Some, None}
use Rattle.mk_order_any.specs.Parts.{Parts, In, Every, Rising, le, lt, Prior, Visit, Family, seq, View, Turn, newer, last_after, fresh}
use Rattle.mk_order_any.specs.Laws.{Laws}
use Rattle.mk_order_any.proofs.Lists.{true_false, in_append, in_right, parted, found, every_of, rising_across, course}
use Rattle.mk_order_any.proofs.Order.{lt_trans, prior_one_way, prior_upto}
use Rattle.mk_order_any.proofs.Folding.{Sooner, seq_rises, seq_visited, seq_right, made_by}

module _ (P : Parts) (L : Laws P) where
  open P use {Tier, Via, Message, Act, at, ended, due, Edge, leb, visits, after}

  pub not_true : (b : Bool) → not b ≡ true → b ≡ false
  not_true true e = absurd (true_false (sym e))
  not_true false e = refl

  -- what is after every act is after the last one, and conversely if the acts rise
  fresh_from : (p : Option Tier) (K : List Act) (x : Tier) → newer P p x ≡ true → Every (λ a. lt P (at a) x) K → newer P (last_after P p K) x ≡ true
  fresh_from p [] x is all = is
  fresh_from p (a ∷ K) x is all = fresh_from (Some (at a)) K x (ap not all.0) all.1

  pub fresh_of : (K : List Act) (x : Tier) → Every (λ a. lt P (at a) x) K → fresh P K x ≡ true
  fresh_of K x all = fresh_from None K x refl all

  last_all : (p : Tier) (K : List Act) (x : Tier) → Rising (Sooner P) K → Every (λ a. lt P p (at a)) K → newer P (last_after P (Some p) K) x ≡ true → lt P p x × Every (λ a. lt P (at a) x) K
  last_all p [] x rise all is = (not_true (leb x p) is, tt)
  last_all p (a ∷ K) x rise all is =
      let r : lt P (at a) x × Every (λ b. lt P (at b) x) K = last_all (at a) K x rise.1 rise.0 is in
      (lt_trans P L p (at a) x all.0 r.0, (r.0, r.1))

  pub fresh_all : (K : List Act) (x : Tier) → Rising (Sooner P) K → fresh P K x ≡ true → Every (λ a. lt P (at a) x) K
  fresh_all [] x rise is = tt
  fresh_all (a ∷ K) x rise is = last_all (at a) K x rise.1 rise.0 is

  module _ (R : ℕ → List Message) (V : View P) (U : Family P) (whole : (i : ℕ) → seq P R i ≡ V.acts i ++ U i) where
    -- the unknown acts are visited, rise and come after the known ones
    pub left_in : (i : ℕ) (u : Act) → In u (U i) → In u (seq P R i)
    left_in i u there = subst (λ (l : List Act). In u l) (sym (whole i)) (in_right u (V.acts i) (U i) there)

    pub all_rise : (i : ℕ) → Rising (Sooner P) (V.acts i ++ U i)
    all_rise i = subst (λ (l : List Act). Rising (Sooner P) l) (whole i) (seq_rises P L R i)

    pub left_fresh : (i : ℕ) (u : Act) → In u (U i) → fresh P (V.acts i) (at u) ≡ true
    left_fresh i u there = fresh_of (V.acts i) (at u) (every_of (λ a. lt P (at a) (at u)) (V.acts i) (λ a known. rising_across (Sooner P) (V.acts i) (U i) a u (all_rise i) known there))

    module _ (Z : ℕ → Type 0) (Q : ℕ → Tier → Type 0)
        (opened : (i : ℕ) (T : Turn P) → V.open_at i ≡ Some T → (Z i → ⊥) → Q i T.when × Every (λ u. le P T.when (at u)) (U i))
        (closed : (i : ℕ) (y : Tier) → V.open_at i ≡ None → (Z i → ⊥) → due V.acts i y ≡ true → fresh P (V.acts i) y ≡ true → Q i y)
        (up : (i : ℕ) (y z : Tier) → Q i y → le P y z → Q i z)
        (on_edges : (j : ℕ) (v : Via) (i : ℕ) (y : Tier) → Q j y → Edge j v i → (Z j → ⊥) → (Z i → ⊥) → Q i (after y v))
        (silent : (i : ℕ) → Z i → Every (λ u. ended u ≡ false) (U i)) where
      one : (i : ℕ) (u : Act) → In u (U i) → (Z i → ⊥) → ((j : ℕ) (w : Act) → In w (U j) → Prior P (at w, j) (at u, i) → (Z j → ⊥) → Q j (at w)) → Q i (at u)
      one i u there out before = go (V.open_at i) refl
        where
          x : Tier
          x = at u

          is_due : due (seq P R) i x ≡ true
          is_due = let r : (front : List Act) × (back : List Act) × (seq P R i ≡ front ++ u ∷ back) = parted u (seq P R i) (left_in i u there) in (made_by P L R i r.0 u r.1 r.2).0

          known : V.open_at i ≡ None → due V.acts i x ≡ true → Q i x
          known shut is = closed i x shut out is (left_fresh i u there)

          go : (o : Option (Turn P)) → V.open_at i ≡ o → Q i x
          go (Some T) is = let r : Q i T.when × Every (λ w. le P T.when (at w)) (U i) = opened i T is out in
              up i T.when x r.0 (found (λ w. le P T.when (at w)) u (U i) r.1 there)
          go None shut = elim (L.due_why (seq P R) i x is_due) [
            | inl first ↦ known shut (L.due_initial V.acts i x first)
            | inr (inl r) ↦ elim (in_append r.0 (V.acts i) (U i) (subst (λ (l : List Act). In r.0 l) (whole i) r.1)) [
              | inl a ↦ known shut (L.due_again V.acts i x r.0 a r.2)
              | inr b ↦ let less : lt P (at r.0) x = L.again_later i r.0 x (found L.Right r.0 (seq P R i) (seq_right P L R i) r.1) r.2 in
                  up i (at r.0) x (before i r.0 b (inl less) out) (L.le_total (at r.0) x less)
            ]
            | inr (inr r) ↦ elim (in_append r.2 (V.acts r.0) (U r.0) (subst (λ (l : List Act). In r.2 l) (whole r.0) r.4)) [
              | inl a ↦ known shut (L.due_called V.acts i x r.0 r.1 r.2 r.3 a r.5)
              | inr b ↦
                  let free : Z r.0 → ⊥ = λ z. true_false (sym (L.calls_ended r.0 r.1 i r.2 x r.5) ∙ found (λ w. ended w ≡ false) r.2 (U r.0) (silent r.0 z) b) in
                  let later : le P (after (at r.2) r.1) x = L.calls_later r.0 r.1 i r.2 x r.3 r.5 in
                  up i (after (at r.2) r.1) x
                  (on_edges r.0 r.1 i (at r.2) (before r.0 r.2 b (prior_upto P L (at r.2, r.0) (after (at r.2) r.1, i) x (L.link_rises r.0 r.1 i (at r.2) (L.edge_link r.0 r.1 i r.3)) later) free) r.3 free out)
                  later
            ]
          ]

      Claim : Visit P → Type 0
      Claim v = (u : Act) → In u (U v.1) → at u ≡ v.0 → (Z v.1 → ⊥) → Q v.1 (at u)

      all_claims : Every Claim visits
      unfolding Claim
      all_claims = course (Prior P) (prior_one_way P L) Claim visits L.visits_rise (λ v there before u among is out.
          one v.1 u among out (λ j w among' prior free. before (at w, j) (found (λ a. In (at a, j) visits) w (seq P R j) (seq_visited P L R j) (left_in j w among'))
          (subst (λ (x : Tier). Prior P (at w, j) (x, v.1)) is prior) w among' refl free))

      pub frontier : (i : ℕ) (u : Act) → In u (U i) → (Z i → ⊥) → Q i (at u)
      unfolding Claim
      frontier i u there out = found Claim (at u, i) visits all_claims (found (λ a. In (at a, i) visits) u (seq P R i) (seq_visited P L R i) (left_in i u there)) u there refl out
