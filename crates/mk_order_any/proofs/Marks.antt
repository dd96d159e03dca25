-- The bounds of simulators never fall, and no trigger comes at or before the last step of its target.
use Rattle.std.proofs.Common.{◌≡◌, ◌⊎◌, inl, inr, ℕ, List, [], ◌∷◌, ◌++◌, refl, ap, sym, ◌∙◌, subst, append-nil}
use Rattle.std.specs.Prelude.{true, not, Option, Some, None}
use Rattle.mk_order_any.specs.Parts.{Parts, In, Every, le, lt, Family, seq, View, Turn, case_of, start, newer, last_after, fresh, last_step, Reach, nobody, Ready, Moves, Reached, heard_of}
use Rattle.mk_order_any.specs.Parts.Reach.{from_start, along}
use Rattle.mk_order_any.specs.Parts.Moves.{asked, went_on, answered, finished}
use Rattle.mk_order_any.specs.Parts.Reached.{at_first, then_moves}
use Rattle.mk_order_any.specs.Laws.{Laws}
use Rattle.mk_order_any.proofs.Lists.{none_some, some_same, same_or_not, in_append, in_right, found, every_left}
use Rattle.mk_order_any.proofs.Order.{le_refl, lt_le_trans}
use Rattle.mk_order_any.proofs.Folding.{seq_right}
use Rattle.mk_order_any.proofs.Frontier.{not_true}
use Rattle.mk_order_any.proofs.Bounds.{start_open, start_closed}
use Rattle.mk_order_any.proofs.Invariant.{Agreeing, invariant_holds}

module _ (P : Parts) (L : Laws P) where
  open P use {Tier, Via, Message, Act, at, due, pending, Edge, Link, after, leb, mk, heard}

  last_after_one : (p : Option Tier) (K : List Act) (f : Act) → last_after P p (K ++ f ∷ []) ≡ Some (at f)
  last_after_one p [] f = refl
  last_after_one p (a ∷ K) f = last_after_one (Some (at a)) K f

  start_same : (V W : View P) (i : ℕ) → W.open_at i ≡ V.open_at i → W.acts ≡ V.acts → start P W i ≡ start P V i
  start_same V W i e e' = ap (λ o. case_of o (pending W.acts i) (λ T. Some T.when)) e ∙ ap (λ (A : Family P). case_of (V.open_at i) (pending A i) (λ T. Some T.when)) e'

  -- an end of the view V that is not after y
  abbrev Before : View P → ℕ → Tier → Type 0
  Before V i y = (z : Tier) × Reach P V (nobody P) i z × le P z y

  by_start : (V : View P) (i : ℕ) (y : Tier) → start P V i ≡ Some y → Before V i y
  by_start V i y is = (y, from_start i y (λ z. z) is, le_refl P L y)

  -- a time at which i is due over the acts of V bounds it
  by_due : (V : View P) (i : ℕ) (y : Tier) → V.open_at i ≡ None → due V.acts i y ≡ true → fresh P (V.acts i) y ≡ true → Before V i y
  by_due V i y shut is new = let r : (x : Tier) × (pending V.acts i ≡ Some x) × le P x y = L.pending_least V.acts i y is new in
      (r.0, from_start i r.0 (λ z. z) (start_closed P L V i shut ∙ r.1), r.2)

  -- where a turn ends: what is due anew is called by its act
  module _ (V W : View P) (i : ℕ) (f : Act) (grown : W.acts i ≡ V.acts i ++ f ∷ []) (old : (j : ℕ) → (j ≡ i → ⊥) → W.acts j ≡ V.acts j) where
    in_old : (j : ℕ) (a : Act) → In a (W.acts j) → In a (V.acts j) ⊎ ((j ≡ i) × (a ≡ f))
    in_old j a there = elim (same_or_not j i) [
      | inl e ↦ elim (in_append a (V.acts i) (f ∷ []) (subst (λ (K : List Act). In a K) grown (subst (λ (k : ℕ). In a (W.acts k)) e there))) [
        | inl b ↦ inl (subst (λ (k : ℕ). In a (V.acts k)) (sym e) b)
        | inr (inl is) ↦ inr (e, is)
        | inr (inr none) ↦ absurd none
      ]
      | inr n ↦ inl (subst (λ (K : List Act). In a K) (old j n) there)
    ]

    -- of a simulator j that is due at y over the acts of W: it was due before, or the new act says so
    pub newly_due : (j : ℕ) (y : Tier) → due W.acts j y ≡ true → (due V.acts j y ≡ true) ⊎ (((j ≡ i) × L.Again j f y) ⊎ ((v : Via) × Edge i v j × L.Calls i v j f y))
    newly_due j y is = elim (L.due_why W.acts j y is) [
      | inl first ↦ inl (L.due_initial V.acts j y first)
      | inr (inl r) ↦ elim (in_old j r.0 r.1) [
        | inl a ↦ inl (L.due_again V.acts j y r.0 a r.2)
        | inr b ↦ inr (inl (b.0, subst (λ (a : Act). L.Again j a y) b.1 r.2))
      ]
      | inr (inr r) ↦ elim (in_old r.0 r.2 r.4) [
        | inl a ↦ inl (L.due_called V.acts j y r.0 r.1 r.2 r.3 a r.5)
        | inr b ↦ inr (inr (r.1, subst (λ (k : ℕ). Edge k r.1 j) b.0 r.3, subst (λ (k : ℕ). L.Calls k r.1 j f y) b.0 (subst (λ (a : Act). L.Calls r.0 r.1 j a y) b.1 r.5)))
      ]
    ]

  starts_rise : (V W : View P) → Moves P V W → (i : ℕ) (y : Tier) → start P W i ≡ Some y → Before V i y
  starts_rise V W (asked s x ready same is others) i y st = elim (same_or_not i s) [
    | inl e ↦ by_start V i y (ap (λ j. start P V j) e ∙ start_closed P L V s ready.closed ∙ ready.at_pending
        ∙ sym (start_open P L W s (record { when = x; messages = []; place = P.begin s x (V.acts s); lines = P.told (P.step V.acts s x (V.acts s)) ∷ []; owed = [] }) is) ∙ ap (λ j. start P W j) (sym e) ∙ st)
    | inr n ↦ by_start V i y (sym (start_same V W i (others i n) same) ∙ st)
  ]
  starts_rise V W (went_on i' m T q stands paid right goes same is others) i y st = elim (same_or_not i i') [
    | inl e ↦ by_start V i y (ap (λ j. start P V j) e ∙ start_open P L V i' T stands
        ∙ sym (start_open P L W i' (record { when = T.when; messages = T.messages ++ m ∷ []; place = q; lines = T.lines ++ heard m ∷ []; owed = P.told (P.answer V.acts i' T.when T.place m) ∷ [] }) is) ∙ ap (λ j. start P W j) (sym e) ∙ st)
    | inr n ↦ by_start V i y (sym (start_same V W i (others i n) same) ∙ st)
  ]
  starts_rise V W (answered i' T stands same is others) i y st = elim (same_or_not i i') [
    | inl e ↦ by_start V i y (ap (λ j. start P V j) e ∙ start_open P L V i' T stands
        ∙ sym (start_open P L W i' (record { when = T.when; messages = T.messages; place = T.place; lines = T.lines ++ T.owed; owed = [] }) is) ∙ ap (λ j. start P W j) (sym e) ∙ st)
    | inr n ↦ by_start V i y (sym (start_same V W i (others i n) same) ∙ st)
  ]
  starts_rise V W (finished i' m T stands paid right over grown shut old others) i y st = elim (same_or_not i i') [
    | inl e ↦ own e
    | inr n ↦ other n (V.open_at i) refl
  ]
    where
      f : Act
      f = mk T.when (T.messages ++ m ∷ []) true (T.lines ++ heard m ∷ [])

      at_f : at f ≡ T.when
      at_f = L.at_mk T.when (T.messages ++ m ∷ []) true (T.lines ++ heard m ∷ [])

      is_pending : W.open_at i ≡ None → pending W.acts i ≡ Some y
      is_pending closed = sym (start_closed P L W i closed) ∙ st

      own : i ≡ i' → Before V i y
      own e =
          let p : pending W.acts i ≡ Some y = is_pending (ap W.open_at e ∙ shut) in
          let late : newer P (Some (at f)) y ≡ true = subst (λ (q : Option Tier). newer P q y ≡ true) (ap (λ j. last_after P None (W.acts j)) e ∙ ap (λ K. last_after P None K) grown ∙ last_after_one None (V.acts i') f) (L.pending_fresh W.acts i y p) in
          (T.when, from_start i T.when (λ z. z) (ap (λ j. start P V j) e ∙ start_open P L V i' T stands), L.le_total T.when y (subst (λ (x : Tier). lt P x y) at_f (not_true P L (leb y (at f)) late)))

      other : (i ≡ i' → ⊥) → (o : Option (Turn P)) → V.open_at i ≡ o → Before V i y
      other n (Some S) is = by_start V i y (start_open P L V i S is ∙ sym (start_open P L W i S (others i n ∙ is)) ∙ st)
      other n None closed =
          let p : pending W.acts i ≡ Some y = is_pending (others i n ∙ closed) in
          let new : fresh P (V.acts i) y ≡ true = subst (λ (K : List Act). fresh P K y ≡ true) (old i n) (L.pending_fresh W.acts i y p) in
          elim (newly_due V W i' f grown old i y (L.pending_due W.acts i y p)) [
            | inl is ↦ by_due V i y closed is new
            | inr (inl r) ↦ absurd (n r.0)
            | inr (inr r) ↦ (
              after T.when r.0,
              along i' r.0 i T.when (after T.when r.0) (from_start i' T.when (λ z. z) (start_open P L V i' T stands)) r.1 (λ z. z) refl,
              subst (λ (x : Tier). le P (after x r.0) y) at_f (L.calls_later i' r.0 i f y r.1 r.2),
            )
          ]

  -- each end of a walk has one that is not after it before the entry
  pub bounds_never_fall : (V W : View P) → Moves P V W → (i : ℕ) (y : Tier) → Reach P W (nobody P) i y → (z : Tier) × Reach P V (nobody P) i z × le P z y
  bounds_never_fall V W moves i y (from_start _ _ _ is) = starts_rise V W moves i y is
  bounds_never_fall V W moves i y (along j v _ x _ walk edge out is) =
      let r : Before V j x = bounds_never_fall V W moves j x walk in
      (after r.0 v, along j v i r.0 (after r.0 v) r.1 edge out refl, subst (λ (u : Tier). le P (after r.0 v) u) (sym is) (L.after_mono r.0 x v r.2))

  last_open : (V : View P) (i : ℕ) (T : Turn P) → V.open_at i ≡ Some T → last_step P V i ≡ Some T.when
  last_open V i T is = ap (λ o. case_of o (last_after P None (V.acts i)) (λ T. Some T.when)) is

  last_closed : (V : View P) (i : ℕ) → V.open_at i ≡ None → last_step P V i ≡ last_after P None (V.acts i)
  last_closed V i is = ap (λ o. case_of o (last_after P None (V.acts i)) (λ T. Some T.when)) is

  last_same : (V W : View P) (i : ℕ) → W.open_at i ≡ V.open_at i → W.acts i ≡ V.acts i → last_step P W i ≡ last_step P V i
  last_same V W i e e' = ap (λ o. case_of o (last_after P None (W.acts i)) (λ T. Some T.when)) e ∙ ap (λ K. case_of (V.open_at i) (last_after P None K) (λ T. Some T.when)) e'

  -- an entry leaves the last step of a simulator as it is, or it is that simulator's Step
  last_moves : (V W : View P) → Moves P V W → (i : ℕ) → (last_step P W i ≡ last_step P V i) ⊎ ((x : Tier) × Ready P V i x × (last_step P W i ≡ Some x))
  last_moves V W (asked s x ready same is others) i = elim (same_or_not i s) [
    | inl e ↦ inr (x, subst (λ (j : ℕ). Ready P V j x) (sym e) ready, ap (λ j. last_step P W j) e ∙ last_open W s (record { when = x; messages = []; place = P.begin s x (V.acts s); lines = P.told (P.step V.acts s x (V.acts s)) ∷ []; owed = [] }) is)
    | inr n ↦ inl (last_same V W i (others i n) (ap (λ (A : Family P). A i) same))
  ]
  last_moves V W (went_on i' m T q stands paid right goes same is others) i = elim (same_or_not i i') [
    | inl e ↦ inl (ap (λ j. last_step P W j) e ∙ last_open W i' (record { when = T.when; messages = T.messages ++ m ∷ []; place = q; lines = T.lines ++ heard m ∷ []; owed = P.told (P.answer V.acts i' T.when T.place m) ∷ [] }) is ∙ sym (last_open V i' T stands) ∙ ap (λ j. last_step P V j) (sym e))
    | inr n ↦ inl (last_same V W i (others i n) (ap (λ (A : Family P). A i) same))
  ]
  last_moves V W (answered i' T stands same is others) i = elim (same_or_not i i') [
    | inl e ↦ inl (ap (λ j. last_step P W j) e ∙ last_open W i' (record { when = T.when; messages = T.messages; place = T.place; lines = T.lines ++ T.owed; owed = [] }) is ∙ sym (last_open V i' T stands) ∙ ap (λ j. last_step P V j) (sym e))
    | inr n ↦ inl (last_same V W i (others i n) (ap (λ (A : Family P). A i) same))
  ]
  last_moves V W (finished i' m T stands paid right over grown shut old others) i = elim (same_or_not i i') [
    | inl e ↦ inl (ap (λ j. last_step P W j) e ∙ last_closed W i' shut ∙ ap (λ K. last_after P None K) grown ∙ last_after_one None (V.acts i') (mk T.when (T.messages ++ m ∷ []) true (T.lines ++ heard m ∷ []))
        ∙ ap (λ x. Some x) (L.at_mk T.when (T.messages ++ m ∷ []) true (T.lines ++ heard m ∷ [])) ∙ sym (last_open V i' T stands) ∙ ap (λ j. last_step P V j) (sym e))
    | inr n ↦ inl (last_same V W i (others i n) (old i n))
  ]

  -- nothing that is still to come reaches a simulator at or before its last step
  pub nothing_late_is_missed : (V : View P) → Reached P V → (i : ℕ) (p : Tier) → last_step P V i ≡ Some p → (j : ℕ) (v : Via) (y : Tier) → Link j v i → Reach P V (nobody P) j y → lt P p (after y v)
  nothing_late_is_missed V (at_first _ empty shut) i p is j v y link walk =
      absurd (none_some p (sym (last_closed V i (shut i) ∙ ap (λ K. last_after P None K) (empty i)) ∙ is))
  nothing_late_is_missed W (then_moves V _ before moves) i p is j v y link walk =
      go (λ q e z walk'. nothing_late_is_missed V before i q e j v z link walk') (bounds_never_fall V W moves j y walk) (last_moves V W moves i)
    where
      go : ((q : Tier) → last_step P V i ≡ Some q → (z : Tier) → Reach P V (nobody P) j z → lt P q (after z v)) → Before V j y →
          (last_step P W i ≡ last_step P V i) ⊎ ((x : Tier) × Ready P V i x × (last_step P W i ≡ Some x)) → lt P p (after y v)
      go past r (inl same) = lt_le_trans P L p (after r.0 v) (after y v) (past p (sym same ∙ is) r.0 r.1) (L.after_mono r.0 y v r.2)
      go past r (inr step) = lt_le_trans P L p (after r.0 v) (after y v) (subst (λ (x : Tier). lt P x (after r.0 v)) (some_same (sym step.2 ∙ is)) (step.1.clear j v r.0 link r.1)) (L.after_mono r.0 y v r.2)

  -- all known acts are right
  pub acts_right : (V : View P) → Reached P V → (i : ℕ) → Every L.Right (V.acts i)
  acts_right V reached i =
      let a : Agreeing P L (seq P (heard_of P V)) V.acts V.open_at = (invariant_holds P L V reached).agreeing (heard_of P V) (λ j. ([], sym (append-nil (heard_of P V j)))) in
      every_left L.Right (V.acts i) (a.known i).0 (subst (λ (l : List Act). Every L.Right l) (a.known i).1 (seq_right P L (heard_of P V) i))

  -- what is due anew after an entry is later than the last step
  pub new_dues_are_later : (V W : View P) → Reached P V → Moves P V W → (j : ℕ) (y : Tier) → due W.acts j y ≡ true → (due V.acts j y ≡ true) ⊎ (newer P (last_step P W j) y ≡ true)
  new_dues_are_later V W reached (asked s x ready same is others) j y d = inl (subst (λ (A : Family P). due A j y ≡ true) same d)
  new_dues_are_later V W reached (went_on i m T q stands paid right goes same is others) j y d = inl (subst (λ (A : Family P). due A j y ≡ true) same d)
  new_dues_are_later V W reached (answered i T stands same is others) j y d = inl (subst (λ (A : Family P). due A j y ≡ true) same d)
  new_dues_are_later V W reached (finished i m T stands paid right over grown shut old others) j y d = elim (newly_due V W i f grown old j y d) [
    | inl was ↦ inl was
    | inr (inl r) ↦ inr (ap (λ o. newer P o y) (ap (λ k. last_step P W k) r.0 ∙ last_f) ∙ ap not (L.again_later j f y right_f r.1))
    | inr (inr r) ↦ inr (called r.0 r.1 r.2 (last_step P W j) refl (last_moves V W moves j))
  ]
    where
      f : Act
      f = mk T.when (T.messages ++ m ∷ []) true (T.lines ++ heard m ∷ [])

      at_f : at f ≡ T.when
      at_f = L.at_mk T.when (T.messages ++ m ∷ []) true (T.lines ++ heard m ∷ [])

      moves : Moves P V W
      moves = finished i m T stands paid right over grown shut old others

      last_f : last_step P W i ≡ Some (at f)
      last_f = last_closed W i shut ∙ ap (λ K. last_after P None K) grown ∙ last_after_one None (V.acts i) f

      right_f : L.Right f
      right_f = found L.Right f (W.acts i) (acts_right W (then_moves V W reached moves) i) (subst (λ (K : List Act). In f K) (sym grown) (in_right f (V.acts i) (f ∷ []) (inl refl)))

      from_i : Reach P V (nobody P) i T.when
      from_i = from_start i T.when (λ z. z) (start_open P L V i T stands)

      called : (v : Via) → Edge i v j → L.Calls i v j f y → (o : Option Tier) → last_step P W j ≡ o → (last_step P W j ≡ last_step P V j) ⊎ ((x : Tier) × Ready P V j x × (last_step P W j ≡ Some x)) → newer P (last_step P W j) y ≡ true
      called v edge calls None e kept = ap (λ o. newer P o y) e
      called v edge calls (Some p) e kept = ap (λ o. newer P o y) e ∙ ap not (lt_le_trans P L p (after T.when v) y less (subst (λ (x : Tier). le P (after x v) y) at_f (L.calls_later i v j f y edge calls)))
        where
          less : lt P p (after T.when v)
          less = elim kept [
            | inl same ↦ nothing_late_is_missed V reached j p (sym same ∙ e) i v T.when (L.edge_link i v j edge) from_i
            | inr step ↦ subst (λ (x : Tier). lt P x (after T.when v)) (some_same (sym step.2 ∙ e)) (step.1.clear i v T.when (L.edge_link i v j edge) from_i)
          ]

  -- many entries
  pub data GoesOn : View P → View P → Type 0 where
    here : (V : View P) → GoesOn V V
    then : (V W X : View P) → GoesOn V W → Moves P W X → GoesOn V X
