-- Sequential execution: what the fold over visits adds, and where it is cut at one visit.
use Rattle.std.proofs.Common.{◌≡◌, inl, inr, ℕ, List, [], ◌∷◌, ◌++◌, refl, ap, sym, ◌∙◌, subst, append_assoc, append-nil}
use Rattle.std.specs.Prelude.{Bool, true, false, cond}
use Rattle.std.proofs.Math.Dec.{eqb}
use Rattle.std.proofs.lemmas.Bool.{eqb-true, eq-eqb}
use Rattle.mk_order_any.specs.Parts.{Parts, In, Every, Rising, le, lt, Prior, Late, Visit, Family, used, whole, talk_of, rest, act, grown, visit, after_visits, nothing, seq}
use Rattle.mk_order_any.specs.Laws.{Laws}
use Rattle.mk_order_any.proofs.Lists.{in_append, in_left, in_right, parted, found, every_of, every_append, every_map, every_right, rising_right, rising_across, one_part}
use Rattle.mk_order_any.proofs.Order.{not_both, lt_apart, Upto, upto_self, upto_prior, prior_own, upto_own, late_of}
use Rattle.mk_order_any.proofs.Reading.{talk_same}

-- acts of one simulator in the order of time
abbrev pub Sooner : (P : Parts) → P.Act → P.Act → Type 0
Sooner P a b = lt P (P.at a) (P.at b)

module _ (P : Parts) (L : Laws P) where
  open P use {Tier, Via, Message, Place, Act, Item, at, due, visits, rank, step, answer, begin, told, mk, Edge}

  pub act_at : (A : Family P) (s : ℕ) (x : Tier) (K : List Act) (r : List Message) → at (act P A s x K r) ≡ x
  act_at A s x K r = let o : Place = begin s x K in
      L.at_mk x (used P s o (rest P K r)) (whole P s o (rest P K r)) (told (step A s x K) ∷ talk_of P A s x o (used P s o (rest P K r)))

  module _ (A W : Family P) (s : ℕ) (x : Tier) (late : (i : ℕ) → Every (λ u. Late P s x i (at u)) (W i)) where
    -- a turn is the same without the late acts
    pub act_same : (K : List Act) (r : List Message) → act P (λ i. A i ++ W i) s x K r ≡ act P A s x K r
    act_same K r = let o : Place = begin s x K in let u : List Message = used P s o (rest P K r) in
        ap (λ l. mk x u (whole P s o (rest P K r)) l)
        (ap (λ e. told e ∷ talk_of P (λ i. A i ++ W i) s x o u) (L.step_same A W s x K late)
        ∙ ap (λ l. told (step A s x K) ∷ l) (talk_same P s A (λ i. A i ++ W i) x (λ p m. L.answer_same A W s x p m late) o u))

  -- what is due stays due with more acts
  pub due_more : (A W : Family P) (s : ℕ) (x : Tier) → due A s x ≡ true → due (λ i. A i ++ W i) s x ≡ true
  due_more A W s x is = elim (L.due_why A s x is) [
    | inl first ↦ L.due_initial (λ i. A i ++ W i) s x first
    | inr (inl r) ↦ L.due_again (λ i. A i ++ W i) s x r.0 (in_left r.0 (A s) (W s) r.1) r.2
    | inr (inr r) ↦ L.due_called (λ i. A i ++ W i) s x r.0 r.1 r.2 r.3 (in_left r.2 (A r.0) (W r.0) r.4) r.5
  ]

  -- what is due with late acts is due without them
  pub due_known : (A W : Family P) (s : ℕ) (x : Tier) → ((i : ℕ) → Every (λ u. Late P s x i (at u)) (W i)) → Every (λ u. le P x (at u)) (W s) → ((i : ℕ) → Every L.Right (W i)) →
      due (λ i. A i ++ W i) s x ≡ true → due A s x ≡ true
  due_known A W s x late own right is = elim (L.due_why (λ i. A i ++ W i) s x is) [
    | inl first ↦ L.due_initial A s x first
    | inr (inl r) ↦ elim (in_append r.0 (A s) (W s) r.1) [
      | inl a ↦ L.due_again A s x r.0 a r.2
      | inr b ↦ not_both P L (at r.0) x (L.again_later s r.0 x (found L.Right r.0 (W s) (right s) b) r.2) (found (λ u. le P x (at u)) r.0 (W s) own b)
    ]
    | inr (inr r) ↦ elim (in_append r.2 (A r.0) (W r.0) r.4) [
      | inl a ↦ L.due_called A s x r.0 r.1 r.2 r.3 a r.5
      | inr b ↦ not_both P L x (P.after (at r.2) r.1) (found (λ u. Late P s x r.0 (at u)) r.2 (W r.0) (late r.0) b r.1 (L.edge_link r.0 r.1 s r.3)) (L.calls_later r.0 r.1 s r.2 x r.3 r.5)
    ]
  ]

  module _ (R : ℕ → List Message) where
    -- the act that a visit adds to the acts of i, if it adds one
    abbrev pub here : Family P → Visit P → ℕ → List Act
    here A v i = cond (due A v.1 v.0) (cond (eqb i v.1) (act P A v.1 v.0 (A v.1) (R v.1) ∷ []) []) []

    pub visit_is : (A : Family P) (v : Visit P) (i : ℕ) → visit P R A v i ≡ A i ++ here A v i
    visit_is A v i = go (due A v.1 v.0)
      where
        f : Act
        f = act P A v.1 v.0 (A v.1) (R v.1)

        own : (e : Bool) → cond e (A i ++ f ∷ []) (A i) ≡ A i ++ cond e (f ∷ []) []
        own true = refl
        own false = sym (append-nil (A i))

        go : (d : Bool) → (cond d (grown P A v.1 f) A) i ≡ A i ++ cond d (cond (eqb i v.1) (f ∷ []) []) []
        go true = own (eqb i v.1)
        go false = sym (append-nil (A i))

    abbrev pub added : Family P → List (Visit P) → ℕ → List Act
    added A [] i = []
    added A (v ∷ vs) i = here A v i ++ added (visit P R A v) vs i

    pub growth : (A : Family P) (vs : List (Visit P)) (i : ℕ) → after_visits P R A vs i ≡ A i ++ added A vs i
    growth A [] i = sym (append-nil (A i))
    growth A (v ∷ vs) i = growth (visit P R A v) vs i ∙ ap (λ l. l ++ added (visit P R A v) vs i) (visit_is A v i) ∙ append_assoc (A i) (here A v i) (added (visit P R A v) vs i)

    pub walk_on : (A : Family P) (us vs : List (Visit P)) → after_visits P R A (us ++ vs) ≡ after_visits P R (after_visits P R A us) vs
    walk_on A [] vs = refl
    walk_on A (u ∷ us) vs = walk_on (visit P R A u) us vs

    -- what holds of every act that may be made at the visits holds of those that are added
    module _ (Q : ℕ → Act → Type 0) where
      here_kept : (A : Family P) (v : Visit P) (i : ℕ) → Q v.1 (act P A v.1 v.0 (A v.1) (R v.1)) → Every (Q i) (here A v i)
      here_kept A v i q = go (due A v.1 v.0) (eqb i v.1) refl
        where
          go : (d e : Bool) → eqb i v.1 ≡ e → Every (Q i) (cond d (cond e (act P A v.1 v.0 (A v.1) (R v.1) ∷ []) []) [])
          go false e is = tt
          go true false is = tt
          go true true is = (subst (λ (s : ℕ). Q s (act P A v.1 v.0 (A v.1) (R v.1))) (sym (eqb-true i v.1 is)) q, tt)

      pub added_kept : (A : Family P) (vs : List (Visit P)) (i : ℕ) → Every (λ v. (B : Family P) → Q v.1 (act P B v.1 v.0 (B v.1) (R v.1))) vs → Every (Q i) (added A vs i)
      added_kept A [] i all = tt
      added_kept A (v ∷ vs) i all = every_append (Q i) (here A v i) (added (visit P R A v) vs i) (here_kept A v i (all.0 A)) (added_kept (visit P R A v) vs i all.1)

    -- what holds of the visits holds where the acts are added
    module _ (T : Visit P → Type 0) where
      pub added_at : (A : Family P) (vs : List (Visit P)) (i : ℕ) → Every T vs → Every (λ a. T (at a, i)) (added A vs i)
      added_at A vs i all = added_kept (λ s a. T (at a, s)) A vs i
          (every_map T (λ v. (B : Family P) → T (at (act P B v.1 v.0 (B v.1) (R v.1)), v.1)) vs (λ v t B. subst (λ (x : Tier). T (x, v.1)) (sym (act_at B v.1 v.0 (B v.1) (R v.1))) t) all)

      pub here_at : (A : Family P) (v : Visit P) (i : ℕ) → T v → Every (λ a. T (at a, i)) (here A v i)
      here_at A v i t = here_kept (λ s a. T (at a, s)) A v i (subst (λ (x : Tier). T (x, v.1)) (sym (act_at A v.1 v.0 (A v.1) (R v.1))) t)

    -- the acts of one simulator rise
    pub added_rise : (A : Family P) (vs : List (Visit P)) (i : ℕ) → Rising (Prior P) vs → Rising (Sooner P) (added A vs i)
    added_rise A [] i rise = tt
    added_rise A (v ∷ vs) i rise = go (due A v.1 v.0) (eqb i v.1) refl (added (visit P R A v) vs i) (added_at (Prior P v) (visit P R A v) vs i rise.0) (added_rise (visit P R A v) vs i rise.1)
      where
        go : (d e : Bool) → eqb i v.1 ≡ e → (more : List Act) → Every (λ b. Prior P v (at b, i)) more → Rising (Sooner P) more →
            Rising (Sooner P) (cond d (cond e (act P A v.1 v.0 (A v.1) (R v.1) ∷ []) []) [] ++ more)
        go false e is more after rises = rises
        go true false is more after rises = rises
        go true true is more after rises = (
          every_map (λ b. Prior P v (at b, i)) (λ b. Sooner P (act P A v.1 v.0 (A v.1) (R v.1)) b) more
              (λ b prior. subst (λ (x : Tier). lt P x (at b)) (sym (act_at A v.1 v.0 (A v.1) (R v.1)))
              (prior_own P L v.0 (at b) i (subst (λ (s : ℕ). Prior P (v.0, s) (at b, i)) (sym (eqb-true i v.1 is)) prior))) after,
          rises,
        )

    pub seq_is : (i : ℕ) → seq P R i ≡ added (nothing P) visits i
    unfolding seq
    seq_is i = growth (nothing P) visits i

    pub seq_rises : (i : ℕ) → Rising (Sooner P) (seq P R i)
    seq_rises i = subst (λ (l : List Act). Rising (Sooner P) l) (sym (seq_is i)) (added_rise (nothing P) visits i L.visits_rise)

    pub seq_visited : (i : ℕ) → Every (λ a. In (at a, i) visits) (seq P R i)
    seq_visited i = subst (λ (l : List Act). Every (λ a. In (at a, i) visits) l) (sym (seq_is i)) (added_at (λ v. In v visits) (nothing P) visits i (every_of (λ v. In v visits) visits (λ v there. there)))

    pub seq_right : (i : ℕ) → Every L.Right (seq P R i)
    seq_right i = subst (λ (l : List Act). Every L.Right l) (sym (seq_is i)) (added_kept (λ s a. L.Right a) (nothing P) visits i
        (every_of (λ v. (B : Family P) → L.Right (act P B v.1 v.0 (B v.1) (R v.1))) visits (λ v there B. L.act_right B v.1 v.0 (B v.1) (R v.1) there)))

    walked : (vs : List (Visit P)) → visits ≡ vs → (i : ℕ) → seq P R i ≡ after_visits P R (nothing P) vs i
    unfolding seq
    walked vs is i = ap (λ l. after_visits P R (nothing P) l i) is

    -- what stands at the cut of sequential execution at the visit (x, s): the acts before it, and
    -- the others, which are late
    record Cut (s : ℕ) (x : Tier) : Type 0 where
      before : Family P
      others : Family P
      whole_is : (i : ℕ) → seq P R i ≡ before i ++ others i
      late : (i : ℕ) → Every (λ u. Late P s x i (at u)) (others i)
      own_before : Every (λ a. lt P (at a) x) (before s)
      own_others : Every (λ a. le P x (at a)) (others s)
      rest_of : List Act
      own_is : others s ≡ cond (due before s x) (act P before s x (before s) (R s) ∷ []) [] ++ rest_of
      own_rest : Every (λ a. lt P x (at a)) rest_of

    cut_at : (s : ℕ) (x : Tier) → In (x, s) visits → Cut s x
    cut_at s x there =
        let r : (front : List (Visit P)) × (back : List (Visit P)) × (visits ≡ front ++ (x, s) ∷ back) = parted (x, s) visits there in
        let rise : Rising (Prior P) (r.0 ++ (x, s) ∷ r.1) = subst (λ (l : List (Visit P)). Rising (Prior P) l) r.2 L.visits_rise in
        made r.0 r.1 r.2 rise
      where
        made : (front back : List (Visit P)) → visits ≡ front ++ (x, s) ∷ back → Rising (Prior P) (front ++ (x, s) ∷ back) → Cut s x
        made front back is rise = record {
          before = A;
          others = (λ i. added A ((x, s) ∷ back) i);
          whole_is = (λ i. walked (front ++ (x, s) ∷ back) is i ∙ ap (λ (F : Family P). F i) (walk_on (nothing P) front ((x, s) ∷ back)) ∙ growth A ((x, s) ∷ back) i);
          late = (λ i. every_map (λ u. Upto P L (x, s) (at u, i)) (λ u. Late P s x i (at u)) (added A ((x, s) ∷ back) i) (λ u upto. late_of P L x s (at u) i upto) (upto i));
          own_before = subst (λ (l : List Act). Every (λ a. lt P (at a) x) l) (sym (growth (nothing P) front s))
              (every_map (λ a. Prior P (at a, s) (x, s)) (λ a. lt P (at a) x) (added (nothing P) front s) (λ a prior. prior_own P L (at a) x s prior)
              (added_at (λ w. Prior P w (x, s)) (nothing P) front s (every_of (λ w. Prior P w (x, s)) front (λ w there. rising_across (Prior P) front ((x, s) ∷ back) w (x, s) rise there (inl refl)))));
          own_others = every_map (λ u. Upto P L (x, s) (at u, s)) (λ u. le P x (at u)) (added A ((x, s) ∷ back) s) (λ u upto. upto_own P L (x, s) (at u, s) upto) (upto s);
          rest_of = added (visit P R A (x, s)) back s;
          own_is = ap (λ e. cond (due A s x) (cond e (act P A s x (A s) (R s) ∷ []) []) [] ++ added (visit P R A (x, s)) back s) (eq-eqb s s refl);
          own_rest = every_map (λ a. Prior P (x, s) (at a, s)) (λ a. lt P x (at a)) (added (visit P R A (x, s)) back s) (λ a prior. prior_own P L x (at a) s prior)
              (added_at (Prior P (x, s)) (visit P R A (x, s)) back s after);
        }
          where
            A : Family P
            A = after_visits P R (nothing P) front

            after : Every (Prior P (x, s)) back
            after = (rising_right (Prior P) front ((x, s) ∷ back) rise).0

            upto : (i : ℕ) → Every (λ u. Upto P L (x, s) (at u, i)) (added A ((x, s) ∷ back) i)
            upto i = added_at (Upto P L (x, s)) A ((x, s) ∷ back) i (upto_self P L (x, s), every_map (Prior P (x, s)) (Upto P L (x, s)) back (λ w prior. upto_prior P L (x, s) w prior) after)

    whole_of : (s : ℕ) (x : Tier) (c : Cut s x) → seq P R ≡ (λ i. c.before i ++ c.others i)
    whole_of s x c k i = c.whole_is i k

    -- the right acts of a part
    others_right : (s : ℕ) (x : Tier) (c : Cut s x) (i : ℕ) → Every L.Right (c.others i)
    others_right s x c i = every_right L.Right (c.before i) (c.others i) (subst (λ (l : List Act). Every L.Right l) (c.whole_is i) (seq_right i))

    own_whole : (s : ℕ) (x : Tier) (c : Cut s x) (d : Bool) → due c.before s x ≡ d → seq P R s ≡ c.before s ++ (cond d (act P c.before s x (c.before s) (R s) ∷ []) [] ++ c.rest_of)
    own_whole s x c d is = c.whole_is s ∙ ap (λ l. c.before s ++ l) (c.own_is ∙ ap (λ e. cond e (act P c.before s x (c.before s) (R s) ∷ []) [] ++ c.rest_of) is)

    -- whoever is due acts
    pub acts_when_due : (s : ℕ) (x : Tier) → due (seq P R) s x ≡ true → (u : Act) × In u (seq P R s) × (at u ≡ x)
    acts_when_due s x is =
        let c : Cut s x = cut_at s x (L.due_visited (seq P R) s x seq_right is) in
        let f : Act = act P c.before s x (c.before s) (R s) in
        let known : due c.before s x ≡ true = due_known c.before c.others s x c.late c.own_others (others_right s x c) (subst (λ (F : Family P). due F s x ≡ true) (whole_of s x c) is) in
        (f, subst (λ (l : List Act). In f l) (sym (own_whole s x c true known)) (in_right f (c.before s) (f ∷ c.rest_of) (inl refl)), act_at c.before s x (c.before s) (R s))

    -- each act of sequential execution is due, and is made of the acts of its simulator before it
    -- and of the whole
    pub made_by : (s : ℕ) (K : List Act) (u : Act) (M : List Act) → seq P R s ≡ K ++ u ∷ M → (due (seq P R) s (at u) ≡ true) × (u ≡ act P (seq P R) s (at u) K (R s))
    made_by s K u M parts = go (due (cut).before s x) refl
      where
        x : Tier
        x = at u

        there : In u (seq P R s)
        there = subst (λ (l : List Act). In u l) (sym parts) (in_right u K (u ∷ M) (inl refl))

        cut : Cut s x
        cut = cut_at s x (found (λ a. In (at a, s) visits) u (seq P R s) (seq_visited s) there)

        rise : Rising (Sooner P) (K ++ u ∷ M)
        rise = subst (λ (l : List Act). Rising (Sooner P) l) parts (seq_rises s)

        go : (d : Bool) → due cut.before s x ≡ d → (due (seq P R) s x ≡ true) × (u ≡ act P (seq P R) s x K (R s))
        go true is =
            let f : Act = act P cut.before s x (cut.before s) (R s) in
            let r : (K ≡ cut.before s) × (u ≡ f) × (M ≡ cut.rest_of) = one_part (Sooner P) (λ a b. at a ≡ at b) (λ a b less e. lt_apart P L (at a) (at b) less e) (λ a b e. sym e)
            K M (cut.before s) cut.rest_of u f rise (sym parts ∙ own_whole s x cut true is) (sym (act_at cut.before s x (cut.before s) (R s))) in (
              subst (λ (F : Family P). due F s x ≡ true) (sym (whole_of s x cut)) (due_more cut.before cut.others s x is),
              r.1 ∙ ap (λ k. act P cut.before s x k (R s)) (sym r.0) ∙ sym (act_same cut.before cut.others s x cut.late K (R s))
                  ∙ ap (λ (F : Family P). act P F s x K (R s)) (sym (whole_of s x cut)),
            )
        go false is = absurd (elim (in_append u (cut.before s) cut.rest_of (subst (λ (l : List Act). In u l) (own_whole s x cut false is) there)) [
          | inl a ↦ lt_apart P L x x (found (λ a. lt P (at a) x) u (cut.before s) cut.own_before a) refl
          | inr b ↦ lt_apart P L x x (found (λ a. lt P x (at a)) u cut.rest_of cut.own_rest b) refl
        ])
