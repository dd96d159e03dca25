-- The invariant: what the scheduler knows is a part of sequential execution, for every continuation
-- of what was heard.
use Rattle.std.proofs.Common.{◌≡◌, inl, inr, ℕ, List, [], ◌∷◌, ◌++◌, refl, ap, sym, ◌∙◌, subst, append_assoc, append-nil}
use Rattle.std.specs.Prelude.{true, false, Option, Some, None}
use Rattle.mk_order_any.specs.Parts.{Parts, In, Every, Rising, Prefix, le, lt, Late, Family, act, seq, View, Turn, case_of, Ready, Moves, Reached, heard_in, heard_of, rest, used, whole, talk_of}
use Rattle.mk_order_any.specs.Parts.Moves.{asked, went_on, answered, finished}
use Rattle.mk_order_any.specs.Parts.Reached.{at_first, then_moves}
use Rattle.mk_order_any.specs.Laws.{Laws}
use Rattle.mk_order_any.proofs.Lists.{none_some, some_same, same_or_not, cancel, in_append, found, every_append, every_map, rising_left, rising_right}
use Rattle.mk_order_any.proofs.Order.{le_refl, not_both, lt_apart}
use Rattle.mk_order_any.proofs.Reading.{Reads, Ends, reads_on, ends_on, used_whole, is_whole, talk_on}
use Rattle.mk_order_any.proofs.Reading.Reads.{none, more}
use Rattle.mk_order_any.proofs.Reading.Ends.{last}
use Rattle.mk_order_any.proofs.ActLists.{heard_in-append, rest_whole}
use Rattle.mk_order_any.proofs.Folding.{Sooner, due_more, acts_when_due, made_by}
use Rattle.mk_order_any.proofs.Frontier.{fresh_all, all_rise}
use Rattle.mk_order_any.proofs.Bounds.{nothing_new_for_ready, own_not_before}

module _ (P : Parts) (L : Laws P) where
  open P use {Tier, Via, Message, Place, Act, Said, at, ended, due, pending, Edge, Link, after, begin, told, heard, step, answer, mk, msgs, talk, wrong, on}

  -- an open turn is the beginning of the first act that is not known yet
  pub record Opened (F : Family P) (K : List Act) (i : ℕ) (T : Turn P) : Type 0 where
    pub first : Act
    pub back : List Act
    pub parts : F i ≡ K ++ first ∷ back
    pub begun : at first ≡ T.when
    pub lines_are : T.lines ++ T.owed ≡ told (step F i T.when K) ∷ talk_of P F i T.when (begin i T.when K) T.messages

  -- the known acts are a part of the acts of F, and what is unknown is late for the open turns
  pub record Agreeing (F A : Family P) (O : ℕ → Option (Turn P)) : Type 0 where
    pub known : (i : ℕ) → (U : List Act) × (F i ≡ A i ++ U)
    pub opened : (i : ℕ) (T : Turn P) → O i ≡ Some T → Opened F (A i) i T
    pub late : (i : ℕ) (T : Turn P) → O i ≡ Some T → (j : ℕ) (U : List Act) → F j ≡ A j ++ U → Every (λ u. Late P i T.when j (at u)) U

  -- all known acts have ended, and an open turn has read its messages to its place
  pub record Shape (A : Family P) (O : ℕ → Option (Turn P)) : Type 0 where
    pub whole_acts : (i : ℕ) → Every (λ a. ended a ≡ true) (A i)
    pub reads : (i : ℕ) (T : Turn P) → O i ≡ Some T → Reads P i (begin i T.when (A i)) T.messages T.place

  pub record Invariant (V : View P) : Type 0 where
    pub shape : Shape V.acts V.open_at
    pub agreeing : (R : ℕ → List Message) → ((i : ℕ) → Prefix (heard_of P V i) (R i)) → Agreeing (seq P R) V.acts V.open_at

  -- one simulator's turn is new or has changed
  changed : (F A : Family P) (O O' : ℕ → Option (Turn P)) (s : ℕ) (T' : Turn P) → O' s ≡ Some T' → ((j : ℕ) → (j ≡ s → ⊥) → O' j ≡ O j) → Agreeing F A O → Opened F (A s) s T' →
      ((j : ℕ) (U : List Act) → F j ≡ A j ++ U → Every (λ u. Late P s T'.when j (at u)) U) → Agreeing F A O'
  changed F A O O' s T' is same old new news = record {
    known = old.known;
    opened = (λ i T e. elim (same_or_not i s) [
      | inl q ↦ subst (λ (j : ℕ). Opened F (A j) j T) (sym q) (subst (λ (t : Turn P). Opened F (A s) s t) (some_same (sym is ∙ ap O' (sym q) ∙ e)) new)
      | inr n ↦ old.opened i T (sym (same i n) ∙ e)
    ]);
    late = (λ i T e j U parts. elim (same_or_not i s) [
      | inl q ↦ subst (λ (k : ℕ). Every (λ u. Late P k T.when j (at u)) U) (sym q) (subst (λ (t : Turn P). Every (λ u. Late P s t.when j (at u)) U) (some_same (sym is ∙ ap O' (sym q) ∙ e)) (news j U parts))
      | inr n ↦ old.late i T (sym (same i n) ∙ e) j U parts
    ]);
  }

  changed_shape : (A : Family P) (O O' : ℕ → Option (Turn P)) (s : ℕ) (T' : Turn P) → O' s ≡ Some T' → ((j : ℕ) → (j ≡ s → ⊥) → O' j ≡ O j) → Shape A O →
      Reads P s (begin s T'.when (A s)) T'.messages T'.place → Shape A O'
  changed_shape A O O' s T' is same old new = record {
    whole_acts = old.whole_acts;
    reads = (λ i T e. elim (same_or_not i s) [
      | inl q ↦ subst (λ (j : ℕ). Reads P j (begin j T.when (A j)) T.messages T.place) (sym q)
          (subst (λ (t : Turn P). Reads P s (begin s t.when (A s)) t.messages t.place) (some_same (sym is ∙ ap O' (sym q) ∙ e)) new)
      | inr n ↦ old.reads i T (sym (same i n) ∙ e)
    ]);
  }

  -- the acts of an open simulator that are not known begin at its turn's time
  pub begun_of : (R : ℕ → List Message) (V : View P) (a : Agreeing (seq P R) V.acts V.open_at) (i : ℕ) (T : Turn P) → V.open_at i ≡ Some T → Every (λ u. le P T.when (at u)) (a.known i).0
  begun_of R V a i T is =
      let o : Opened (seq P R) (V.acts i) i T = a.opened i T is in
      let U : List Act = (a.known i).0 in
      let same : o.first ∷ o.back ≡ U = cancel (V.acts i) (o.first ∷ o.back) U (sym o.parts ∙ (a.known i).1) in
      let rise : Rising (Sooner P) (V.acts i ++ o.first ∷ o.back) = subst (λ (l : List Act). Rising (Sooner P) (V.acts i ++ l)) (sym same) (all_rise P L R V (λ j. (a.known j).0) (λ j. (a.known j).1) i) in
      let front : Every (λ b. lt P (at o.first) (at b)) o.back = (rising_right (Sooner P) (V.acts i) (o.first ∷ o.back) rise).0 in
      subst (λ (l : List Act). Every (λ u. le P T.when (at u)) l) same (
        subst (λ (x : Tier). le P T.when x) (sym o.begun) (le_refl P L T.when),
        every_map (λ b. lt P (at o.first) (at b)) (λ u. le P T.when (at u)) o.back (λ b less. subst (λ (x : Tier). le P x (at b)) o.begun (L.le_total (at o.first) (at b) less)) front,
      )

  -- a Step is sent to a simulator that is Ready
  module _ (R : ℕ → List Message) (V : View P) (a : Agreeing (seq P R) V.acts V.open_at) (s : ℕ) (x : Tier) (ready : Ready P V s x) where
    left : Family P
    left i = (a.known i).0

    left_is : (i : ℕ) → seq P R i ≡ V.acts i ++ left i
    unfolding left
    left_is i = (a.known i).1

    all_of : seq P R ≡ (λ i. V.acts i ++ left i)
    all_of k i = left_is i k

    begins : (i : ℕ) (T : Turn P) → V.open_at i ≡ Some T → Every (λ u. le P T.when (at u)) (left i)
    unfolding left
    begins i T is = begun_of R V a i T is

    late_left : (i : ℕ) → Every (λ u. Late P s x i (at u)) (left i)
    late_left = nothing_new_for_ready P L R V left left_is begins s x ready

    own_left : Every (λ u. le P x (at u)) (left s)
    own_left = own_not_before P L R V left left_is begins s x ready

    rises : Rising (Sooner P) (V.acts s ++ left s)
    rises = all_rise P L R V left left_is s

    -- the simulator acts at x, and that act is its first unknown one
    its_act : (f : Act) × (back : List Act) × (left s ≡ f ∷ back) × (at f ≡ x)
    its_act = go (left s) refl
      where
        is_due : due (seq P R) s x ≡ true
        is_due = subst (λ (F : Family P). due F s x ≡ true) (sym all_of) (due_more P L V.acts left s x (L.pending_due V.acts s x ready.at_pending))

        u : Act
        u = (acts_when_due P L R s x is_due).0

        at_x : at u ≡ x
        at_x = (acts_when_due P L R s x is_due).2

        there : In u (left s)
        there = elim (in_append u (V.acts s) (left s) (subst (λ (l : List Act). In u l) (left_is s) (acts_when_due P L R s x is_due).1)) [
          | inl b ↦ absurd (lt_apart P L (at u) x (found (λ b. lt P (at b) x) u (V.acts s) (fresh_all P L (V.acts s) x (rising_left (Sooner P) (V.acts s) (left s) rises) (L.pending_fresh V.acts s x ready.at_pending)) b) at_x)
          | inr b ↦ b
        ]

        go : (l : List Act) → left s ≡ l → (f : Act) × (back : List Act) × (left s ≡ f ∷ back) × (at f ≡ x)
        go [] is = absurd (subst (λ (l : List Act). In u l) is there)
        go (f ∷ back) is = elim (subst (λ (l : List Act). In u l) is there) [
          | inl e ↦ (f, back, is, ap at (sym e) ∙ at_x)
          | inr b ↦
              let rise : Rising (Sooner P) (f ∷ back) = subst (λ (l : List Act). Rising (Sooner P) l) is (rising_right (Sooner P) (V.acts s) (left s) rises) in
              let less : lt P (at f) x = subst (λ (y : Tier). lt P (at f) y) at_x (found (λ b. lt P (at f) (at b)) u back rise.0 b) in
              not_both P L (at f) x less (subst (λ (l : List Act). Every (λ u. le P x (at u)) l) is own_left).0
        ]

    asked_turn : Opened (seq P R) (V.acts s) s (record { when = x; messages = []; place = begin s x (V.acts s); lines = told (step V.acts s x (V.acts s)) ∷ []; owed = [] })
    asked_turn = record {
      first = its_act.0;
      back = its_act.1;
      parts = left_is s ∙ ap (λ l. V.acts s ++ l) its_act.2;
      begun = its_act.3;
      lines_are = ap (λ e. told e ∷ []) (sym (L.step_same V.acts left s x (V.acts s) late_left) ∙ ap (λ (F : Family P). step F s x (V.acts s)) (sym all_of));
    }

    late_for_asked : (j : ℕ) (U : List Act) → seq P R j ≡ V.acts j ++ U → Every (λ u. Late P s x j (at u)) U
    late_for_asked j U parts = subst (λ (l : List Act). Every (λ u. Late P s x j (at u)) l) (cancel (V.acts j) (left j) U (sym (left_is j) ∙ parts)) (late_left j)

  -- a right message comes to an open turn
  module _ (R : ℕ → List Message) (A : Family P) (O : ℕ → Option (Turn P)) (a : Agreeing (seq P R) A O) (shape : Shape A O) (i : ℕ) (m : Message) (T : Turn P) (is : O i ≡ Some T)
      (paid : T.owed ≡ []) (right : wrong i T.place m ≡ false) where
    o : Opened (seq P R) (A i) i T
    o = a.opened i T is

    lines_before : T.lines ≡ told (step (seq P R) i T.when (A i)) ∷ talk_of P (seq P R) i T.when (begin i T.when (A i)) T.messages
    lines_before = sym (append-nil T.lines) ∙ ap (λ l. T.lines ++ l) (sym paid) ∙ (a.opened i T is).lines_are

    lines_after : (q : Option Place) → on i T.place m ≡ q →
        T.lines ++ (heard m ∷ case_of q [] (λ p. told (answer (seq P R) i T.when T.place m) ∷ [])) ≡ told (step (seq P R) i T.when (A i)) ∷ talk_of P (seq P R) i T.when (begin i T.when (A i)) (T.messages ++ m ∷ [])
    lines_after q goes =
        ap (λ l. l ++ (heard m ∷ case_of q [] (λ p. told (answer (seq P R) i T.when T.place m) ∷ []))) lines_before
        ∙ ap (λ l. told (step (seq P R) i T.when (A i)) ∷ l)
        (ap (λ r. talk_of P (seq P R) i T.when (begin i T.when (A i)) T.messages ++ (heard m ∷ case_of r [] (λ p. told (answer (seq P R) i T.when T.place m) ∷ []))) (sym goes)
        ∙ sym (talk_on P i (seq P R) T.when (begin i T.when (A i)) T.place T.messages (m ∷ []) (shape.reads i T is)))

    answer_is : answer A i T.when T.place m ≡ answer (seq P R) i T.when T.place m
    answer_is =
        sym (L.answer_same A (λ j. (a.known j).0) i T.when T.place m (λ j. a.late i T is j (a.known j).0 (a.known j).1))
        ∙ ap (λ (F : Family P). answer F i T.when T.place m) (sym all_of')
      where
        all_of' : seq P R ≡ (λ j. A j ++ (a.known j).0)
        all_of' k j = (a.known j).1 k

    went_turn : (q : Place) → on i T.place m ≡ Some q →
        Opened (seq P R) (A i) i (record { when = T.when; messages = T.messages ++ m ∷ []; place = q; lines = T.lines ++ heard m ∷ []; owed = told (answer A i T.when T.place m) ∷ [] })
    went_turn q goes = let p : Opened (seq P R) (A i) i T = a.opened i T is in record {
      first = p.first;
      back = p.back;
      parts = p.parts;
      begun = p.begun;
      lines_are = append_assoc T.lines (heard m ∷ []) (told (answer A i T.when T.place m) ∷ [])
          ∙ ap (λ e. T.lines ++ (heard m ∷ told e ∷ [])) answer_is ∙ lines_after (Some q) goes;
    }

    went_reads : (q : Place) → on i T.place m ≡ Some q → Reads P i (begin i T.when (A i)) (T.messages ++ m ∷ []) q
    went_reads q goes = reads_on P i (begin i T.when (A i)) T.place q T.messages (m ∷ []) (shape.reads i T is) (more T.place q q m [] right goes (none q))

    -- the turn ends: the act is the one of sequential execution
    finished_act : on i T.place m ≡ None → (later : List Message) → R i ≡ heard_in P (A i) ++ ((T.messages ++ m ∷ []) ++ later) →
        (back : List Act) × (seq P R i ≡ A i ++ mk T.when (T.messages ++ m ∷ []) true (T.lines ++ heard m ∷ []) ∷ back)
    finished_act over later heard_is = (p.back, p.parts ∙ ap (λ f. A i ++ f ∷ p.back) (made ∙ same))
      where
        p : Opened (seq P R) (A i) i T
        p = a.opened i T is

        ms : List Message
        ms = T.messages ++ m ∷ []

        b : Place
        b = begin i T.when (A i)

        ends : Ends P i b ms
        ends = ends_on P i b T.place T.messages (m ∷ []) (shape.reads i T is) (last T.place m right over)

        made : p.first ≡ act P (seq P R) i T.when (A i) (R i)
        made = (made_by P L R i (A i) p.first p.back p.parts).1 ∙ ap (λ (x : Tier). act P (seq P R) i x (A i) (R i)) p.begun

        left_is' : rest P (A i) (R i) ≡ ms ++ later
        left_is' = ap (λ r. rest P (A i) r) heard_is ∙ rest_whole P (A i) (ms ++ later) (shape.whole_acts i)

        same : act P (seq P R) i T.when (A i) (R i) ≡ mk T.when ms true (T.lines ++ heard m ∷ [])
        same =
            ap (λ r. mk T.when (used P i b r) (whole P i b r) (told (step (seq P R) i T.when (A i)) ∷ talk_of P (seq P R) i T.when b (used P i b r))) left_is'
            ∙ ap (λ u. mk T.when u (whole P i b (ms ++ later)) (told (step (seq P R) i T.when (A i)) ∷ talk_of P (seq P R) i T.when b u)) (used_whole P i b ms later ends)
            ∙ ap (λ w. mk T.when ms w (told (step (seq P R) i T.when (A i)) ∷ talk_of P (seq P R) i T.when b ms)) (is_whole P i b ms later ends)
            ∙ ap (λ l. mk T.when ms true l) (sym (lines_after None over))

  answered_turn : (F : Family P) (K : List Act) (i : ℕ) (T : Turn P) → Opened F K i T →
      Opened F K i (record { when = T.when; messages = T.messages; place = T.place; lines = T.lines ++ T.owed; owed = [] })
  answered_turn F K i T o = record {
    first = o.first;
    back = o.back;
    parts = o.parts;
    begun = o.begun;
    lines_are = append-nil (T.lines ++ T.owed) ∙ o.lines_are;
  }

  -- the messages heard of a simulator, from its acts and its open turn
  abbrev heard_by : List Act → Option (Turn P) → List Message
  heard_by K o = heard_in P K ++ case_of o [] (λ T. T.messages)

  pub heard_same : (V W : View P) (j : ℕ) → W.acts j ≡ V.acts j → W.open_at j ≡ V.open_at j → heard_of P W j ≡ heard_of P V j
  heard_same V W j e e' = ap (λ K. heard_by K (W.open_at j)) e ∙ ap (λ o. heard_by (V.acts j) o) e'

  pub heard_open : (V : View P) (i : ℕ) (T : Turn P) → V.open_at i ≡ Some T → heard_of P V i ≡ heard_in P (V.acts i) ++ T.messages
  heard_open V i T is = ap (λ o. heard_by (V.acts i) o) is

  pub heard_closed : (V : View P) (i : ℕ) → V.open_at i ≡ None → heard_of P V i ≡ heard_in P (V.acts i)
  heard_closed V i is = ap (λ o. heard_by (V.acts i) o) is ∙ append-nil (heard_in P (V.acts i))

  -- what was heard at the end of a turn
  heard_finished : (V W : View P) (i : ℕ) (m : Message) (T : Turn P) → W.acts i ≡ V.acts i ++ mk T.when (T.messages ++ m ∷ []) true (T.lines ++ heard m ∷ []) ∷ [] → W.open_at i ≡ None →
      heard_of P W i ≡ heard_in P (V.acts i) ++ (T.messages ++ m ∷ [])
  heard_finished V W i m T grown shut =
      let a : Act = mk T.when (T.messages ++ m ∷ []) true (T.lines ++ heard m ∷ []) in
      heard_closed W i shut ∙ ap (λ K. heard_in P K) grown ∙ heard_in-append P (V.acts i) (a ∷ [])
      ∙ ap (λ l. heard_in P (V.acts i) ++ l) (append-nil (msgs a) ∙ L.msgs_mk T.when (T.messages ++ m ∷ []) true (T.lines ++ heard m ∷ []))

  prefix_same : (K M : List Message) → M ≡ K → Prefix K M
  prefix_same K M e = ([], e ∙ sym (append-nil K))

  pub prefix_trans : (K M N : List Message) → Prefix K M → Prefix M N → Prefix K N
  prefix_trans K M N a b = (a.0 ++ b.0, b.1 ∙ ap (λ l. l ++ b.0) a.1 ∙ append_assoc K a.0 b.0)

  -- nothing that was heard is forgotten
  pub heard_grows : (V W : View P) → Moves P V W → (i : ℕ) → Prefix (heard_of P V i) (heard_of P W i)
  heard_grows V W (asked s x ready same is others) i = elim (same_or_not i s) [
    | inl e ↦ subst (λ (j : ℕ). Prefix (heard_of P V j) (heard_of P W j)) (sym e)
        (prefix_same (heard_of P V s) (heard_of P W s) (heard_open W s (record { when = x; messages = []; place = begin s x (V.acts s); lines = told (step V.acts s x (V.acts s)) ∷ []; owed = [] }) is
        ∙ append-nil (heard_in P (W.acts s)) ∙ ap (λ (A : Family P). heard_in P (A s)) same ∙ sym (heard_closed V s ready.closed)))
    | inr n ↦ prefix_same (heard_of P V i) (heard_of P W i) (heard_same V W i (ap (λ (A : Family P). A i) same) (others i n))
  ]
  heard_grows V W (went_on i' m T q stands paid right goes same is others) i = elim (same_or_not i i') [
    | inl e ↦ subst (λ (j : ℕ). Prefix (heard_of P V j) (heard_of P W j)) (sym e) (
      m ∷ [],
      heard_open W i' (record { when = T.when; messages = T.messages ++ m ∷ []; place = q; lines = T.lines ++ heard m ∷ []; owed = told (answer V.acts i' T.when T.place m) ∷ [] }) is
          ∙ ap (λ (A : Family P). heard_in P (A i') ++ (T.messages ++ m ∷ [])) same ∙ sym (append_assoc (heard_in P (V.acts i')) T.messages (m ∷ [])) ∙ ap (λ l. l ++ m ∷ []) (sym (heard_open V i' T stands)),
    )
    | inr n ↦ prefix_same (heard_of P V i) (heard_of P W i) (heard_same V W i (ap (λ (A : Family P). A i) same) (others i n))
  ]
  heard_grows V W (answered i' T stands same is others) i = elim (same_or_not i i') [
    | inl e ↦ subst (λ (j : ℕ). Prefix (heard_of P V j) (heard_of P W j)) (sym e)
        (prefix_same (heard_of P V i') (heard_of P W i') (heard_open W i' (record { when = T.when; messages = T.messages; place = T.place; lines = T.lines ++ T.owed; owed = [] }) is
        ∙ ap (λ (A : Family P). heard_in P (A i') ++ T.messages) same ∙ sym (heard_open V i' T stands)))
    | inr n ↦ prefix_same (heard_of P V i) (heard_of P W i) (heard_same V W i (ap (λ (A : Family P). A i) same) (others i n))
  ]
  heard_grows V W (finished i' m T stands paid right over grown shut old others) i = elim (same_or_not i i') [
    | inl e ↦ subst (λ (j : ℕ). Prefix (heard_of P V j) (heard_of P W j)) (sym e)
        (m ∷ [], heard_finished V W i' m T grown shut ∙ sym (append_assoc (heard_in P (V.acts i')) T.messages (m ∷ [])) ∙ ap (λ l. l ++ m ∷ []) (sym (heard_open V i' T stands)))
    | inr n ↦ prefix_same (heard_of P V i) (heard_of P W i) (heard_same V W i (old i n) (others i n))
  ]

  at_start : (V : View P) → ((i : ℕ) → V.acts i ≡ []) → ((i : ℕ) → V.open_at i ≡ None) → Invariant V
  at_start V empty shut = record {
    shape = record {
      whole_acts = (λ i. subst (λ (K : List Act). Every (λ a. ended a ≡ true) K) (sym (empty i)) tt);
      reads = (λ i T is. absurd (none_some T (sym (shut i) ∙ is)));
    };
    agreeing = (λ R more. record {
      known = (λ i. (seq P R i, ap (λ K. K ++ seq P R i) (sym (empty i))));
      opened = (λ i T is. absurd (none_some T (sym (shut i) ∙ is)));
      late = (λ i T is. absurd (none_some T (sym (shut i) ∙ is)));
    });
  }

  -- the invariant is kept
  pub invariant_moves : (V W : View P) → Invariant V → Moves P V W → Invariant W
  invariant_moves V W inv (asked s x ready same is others) = record {
    shape = subst (λ (A : Family P). Shape A W.open_at) (sym same)
        (changed_shape V.acts V.open_at W.open_at s (record { when = x; messages = []; place = begin s x (V.acts s); lines = told (step V.acts s x (V.acts s)) ∷ []; owed = [] }) is others inv.shape (none (begin s x (V.acts s))));
    agreeing = (λ R cont. let a : Agreeing (seq P R) V.acts V.open_at = inv.agreeing R (λ i. prefix_trans (heard_of P V i) (heard_of P W i) (R i) (heard_grows V W (asked s x ready same is others) i) (cont i)) in
        subst (λ (A : Family P). Agreeing (seq P R) A W.open_at) (sym same)
        (changed (seq P R) V.acts V.open_at W.open_at s (record { when = x; messages = []; place = begin s x (V.acts s); lines = told (step V.acts s x (V.acts s)) ∷ []; owed = [] }) is others a
        (asked_turn R V a s x ready) (late_for_asked R V a s x ready)));
  }
  invariant_moves V W inv (went_on i m T q stands paid right goes same is others) = record {
    shape = subst (λ (A : Family P). Shape A W.open_at) (sym same)
        (changed_shape V.acts V.open_at W.open_at i (record { when = T.when; messages = T.messages ++ m ∷ []; place = q; lines = T.lines ++ heard m ∷ []; owed = told (answer V.acts i T.when T.place m) ∷ [] }) is others inv.shape
        (reads_on P i (begin i T.when (V.acts i)) T.place q T.messages (m ∷ []) (inv.shape.reads i T stands) (more T.place q q m [] right goes (none q))));
    agreeing = (λ R cont. let a : Agreeing (seq P R) V.acts V.open_at = inv.agreeing R (λ j. prefix_trans (heard_of P V j) (heard_of P W j) (R j) (heard_grows V W (went_on i m T q stands paid right goes same is others) j) (cont j)) in
        subst (λ (A : Family P). Agreeing (seq P R) A W.open_at) (sym same)
        (changed (seq P R) V.acts V.open_at W.open_at i (record { when = T.when; messages = T.messages ++ m ∷ []; place = q; lines = T.lines ++ heard m ∷ []; owed = told (answer V.acts i T.when T.place m) ∷ [] }) is others a
        (went_turn R V.acts V.open_at a inv.shape i m T stands paid right q goes) (a.late i T stands)));
  }
  invariant_moves V W inv (answered i T stands same is others) = record {
    shape = subst (λ (A : Family P). Shape A W.open_at) (sym same)
        (changed_shape V.acts V.open_at W.open_at i (record { when = T.when; messages = T.messages; place = T.place; lines = T.lines ++ T.owed; owed = [] }) is others inv.shape (inv.shape.reads i T stands));
    agreeing = (λ R cont. let a : Agreeing (seq P R) V.acts V.open_at = inv.agreeing R (λ j. prefix_trans (heard_of P V j) (heard_of P W j) (R j) (heard_grows V W (answered i T stands same is others) j) (cont j)) in
        subst (λ (A : Family P). Agreeing (seq P R) A W.open_at) (sym same)
        (changed (seq P R) V.acts V.open_at W.open_at i (record { when = T.when; messages = T.messages; place = T.place; lines = T.lines ++ T.owed; owed = [] }) is others a
        (answered_turn (seq P R) (V.acts i) i T (a.opened i T stands)) (a.late i T stands)));
  }
  invariant_moves V W inv (finished i m T stands paid right over grown shut old others) = record {
    shape = record {
      whole_acts = (λ j. elim (same_or_not j i) [
        | inl e ↦ subst (λ (k : ℕ). Every (λ a. ended a ≡ true) (W.acts k)) (sym e) (subst (λ (K : List Act). Every (λ a. ended a ≡ true) K) (sym grown)
            (every_append (λ a. ended a ≡ true) (V.acts i) (f ∷ []) (inv.shape.whole_acts i) (L.ended_mk T.when (T.messages ++ m ∷ []) true (T.lines ++ heard m ∷ []), tt)))
        | inr n ↦ subst (λ (K : List Act). Every (λ a. ended a ≡ true) K) (sym (old j n)) (inv.shape.whole_acts j)
      ]);
      reads = (λ j S is. elim (same_or_not j i) [
        | inl e ↦ absurd (none_some S (sym shut ∙ ap W.open_at (sym e) ∙ is))
        | inr n ↦ subst (λ (K : List Act). Reads P j (begin j S.when K) S.messages S.place) (sym (old j n)) (inv.shape.reads j S (sym (others j n) ∙ is))
      ]);
    };
    agreeing = after;
  }
    where
      f : Act
      f = mk T.when (T.messages ++ m ∷ []) true (T.lines ++ heard m ∷ [])

      after : (R : ℕ → List Message) → ((j : ℕ) → Prefix (heard_of P W j) (R j)) → Agreeing (seq P R) W.acts W.open_at
      after R cont = record {
        known = (λ j. elim (same_or_not j i) [
          | inl e ↦ (new.0, subst (λ (k : ℕ). seq P R k ≡ W.acts k ++ new.0) (sym e) (new.1 ∙ sym (append_assoc (V.acts i) (f ∷ []) new.0) ∙ ap (λ K. K ++ new.0) (sym grown)))
          | inr n ↦ ((a.known j).0, (a.known j).1 ∙ ap (λ K. K ++ (a.known j).0) (sym (old j n)))
        ]);
        opened = (λ j S is. elim (same_or_not j i) [
          | inl e ↦ absurd (none_some S (sym shut ∙ ap W.open_at (sym e) ∙ is))
          | inr n ↦ subst (λ (K : List Act). Opened (seq P R) K j S) (sym (old j n)) (a.opened j S (sym (others j n) ∙ is))
        ]);
        late = (λ j S is k U parts. elim (same_or_not j i) [
          | inl e ↦ absurd (none_some S (sym shut ∙ ap W.open_at (sym e) ∙ is))
          | inr n ↦ elim (same_or_not k i) [
            | inl e ↦ (a.late j S (sym (others j n) ∙ is) k (f ∷ U) (parts ∙ ap (λ (l : List Act). l ++ U) (ap W.acts e ∙ grown ∙ ap (λ (x : ℕ). V.acts x ++ f ∷ []) (sym e)) ∙ append_assoc (V.acts k) (f ∷ []) U)).1
            | inr n' ↦ a.late j S (sym (others j n) ∙ is) k U (parts ∙ ap (λ l. l ++ U) (old k n'))
          ]
        ]);
      }
        where
          a : Agreeing (seq P R) V.acts V.open_at
          a = inv.agreeing R (λ j. prefix_trans (heard_of P V j) (heard_of P W j) (R j) (heard_grows V W (finished i m T stands paid right over grown shut old others) j) (cont j))

          new : (back : List Act) × (seq P R i ≡ V.acts i ++ f ∷ back)
          new = finished_act R V.acts V.open_at a inv.shape i m T stands paid right over (cont i).0
              ((cont i).1 ∙ ap (λ l. l ++ (cont i).0) (heard_finished V W i m T grown shut) ∙ append_assoc (heard_in P (V.acts i)) (T.messages ++ m ∷ []) (cont i).0)

  pub invariant_holds : (V : View P) → Reached P V → Invariant V
  invariant_holds V (at_first _ empty shut) = at_start V empty shut
  invariant_holds W (then_moves V _ before moves) = invariant_moves V W (invariant_holds V before) moves
