-- What each kind of entry does to acts, last Steps, starts and the supply.
use Rattle.std.proofs.Common.{◌≡◌, ℕ, ℤ, true, false, List, [], ◌∷◌, ◌++◌, Option, Some, None, option_map, refl, sym, ap, ◌∙◌, subst, ◌⊎◌, inl, inr, true≢false, int_lt, ◌==◌, ◌<◌, nat_le, if◌then◌else◌}
use Rattle.std.proofs.lemmas.Bool.{eqb-true, eq-eqb}
use Rattle.std.proofs.lemmas.List.Sums.{fold-append}
use Rattle.mk_base.specs.declared.tier.Tier.{Tier}
use Rattle.mk_base.specs.Lists.{IsIn}
use Rattle.mk_base.specs.Tiers.{delayed}
use Rattle.mk_base.proofs.Lists.{in_front, in_back, in_either, below_get, filter_map_append, flat_map_append}
use Rattle.mk_plan.specs.declared.Plan.{Plan}
use Rattle.mk_plan.specs.declared.Conn.{Conn}
use Rattle.mk_plan.specs.declared.Input.{Input}
use Rattle.mk_plan.specs.declared.Item.{Item}
use Rattle.mk_plan.specs.declared.Item.TheVariants.{Step}
use Rattle.mk_plan.specs.declared.Message.{Message}
use Rattle.mk_plan.specs.declared.Place.{Place}
use Rattle.mk_plan.specs.Plans.{owner, sim_count}
use Rattle.mk_plan.specs.Acts.{Act, Family, made, output}
use Rattle.mk_plan.specs.Deliveries.{Timed, supply, outputs_of, gifts_of, triggers, triggering_to}
use Rattle.mk_plan.specs.Due.{is_in_run, is_due}
use Rattle.mk_plan.specs.Sequential.{grown, last_time}
use Rattle.mk_plan.specs.Journals.{OpenTurn, View, with_open, open_after, begun, told_more, note_sent, ended_turn, note_right}
use Rattle.mk_plan.specs.Ready.{pending, start, step_at, last_step, IsReady}
use Rattle.mk_plan.specs.Report.{is_step}
use Rattle.mk_order.proofs.Reasons.{IsNextOf, in_triggers, triggers_in, triggers_early, due_why, due_first, due_next, due_triggered}
use Rattle.mk_order.proofs.Seen.{open_after_is}
use Rattle.mk_order.proofs.Limits.{IsInLimit, trigger_in_limit}
use Rattle.mk_base.proofs.Bools.{both_hold}

-- ---- at the simulator of an entry, and at the others

pub opened_case : (Q : Option OpenTurn → Type 0) (V : View) (s : ℕ) (o : Option OpenTurn) (j : ℕ) → (j ≡ s → Q o) → ((j ≡ s → ⊥) → Q (V.open_at j)) → Q (with_open V s o j)
opened_case Q V s o j here apart = elim (j == s) as (λ b. (j == s) ≡ b → Q (if b then o else V.open_at j)) [
  | true ↦ λ e. here (eqb-true j s e)
  | false ↦ λ e. apart (λ q. true≢false (sym (eq-eqb j s q) ∙ e))
] refl

pub grown_case : (Q : List Act → Type 0) (A : Family) (s : ℕ) (f : Act) (j : ℕ) → (j ≡ s → Q (A j ++ f ∷ [])) → ((j ≡ s → ⊥) → Q (A j)) → Q (grown A s f j)
grown_case Q A s f j here apart = elim (j == s) as (λ b. (j == s) ≡ b → Q (if b then A j ++ f ∷ [] else A j)) [
  | true ↦ λ e. here (eqb-true j s e)
  | false ↦ λ e. apart (λ q. true≢false (sym (eq-eqb j s q) ∙ e))
] refl

module _ (P : Plan) (V : View) where
  -- ---- a Step: acts stay, and so do all starts

  module _ (s : ℕ) (x : Tier) (ins : List Input) (advance : ℤ) where
    pub step_last : last_step (note_sent P V s (Step x ins advance)) s ≡ Some x
    step_last = opened_case (λ o. step_at o (last_time (V.acts s)) ≡ Some x) V s (Some (begun P V s x (Step x ins advance))) s (λ e. refl) (λ n. absurd (n refl))

    pub step_last_apart : (j : ℕ) → (j ≡ s → ⊥) → last_step (note_sent P V s (Step x ins advance)) j ≡ last_step V j
    step_last_apart j n = opened_case (λ o. step_at o (last_time (V.acts j)) ≡ last_step V j) V s (Some (begun P V s x (Step x ins advance))) j (λ e. absurd (n e)) (λ _. refl)

    pub step_start : IsReady P V s x → (j : ℕ) → start P (note_sent P V s (Step x ins advance)) j ≡ start P V j
    step_start ready j = opened_case (λ o. step_at o (pending P V.acts j) ≡ start P V j) V s (Some (begun P V s x (Step x ins advance))) j
        (λ e. sym (ap (λ (o : Option OpenTurn). step_at o (pending P V.acts j)) (ap V.open_at e ∙ ready.closed) ∙ ap (pending P V.acts) e ∙ ready.at_pending)) (λ n. refl)

  -- ---- another item: nothing moves

  told_at : (item : Item) (o : Option OpenTurn) (other : Option Tier) → step_at (option_map (told_more item) o) other ≡ step_at o other
  told_at item None other = refl
  told_at item (Some T) other = refl

  told_same : (s : ℕ) (item : Item) → is_step item ≡ false → (j : ℕ) (other : Option Tier) → step_at (with_open V s (open_after P V s item) j) other ≡ step_at (V.open_at j) other
  told_same s item late j other = opened_case (λ o. step_at o other ≡ step_at (V.open_at j) other) V s (open_after P V s item) j
      (λ e. ap (λ (o : Option OpenTurn). step_at o other) (open_after_is P V s item late) ∙ told_at item (V.open_at s) other ∙ ap (λ (i : ℕ). step_at (V.open_at i) other) (sym e)) (λ n. refl)

  pub told_start : (s : ℕ) (item : Item) → is_step item ≡ false → (j : ℕ) → start P (note_sent P V s item) j ≡ start P V j
  told_start s item late j = told_same s item late j (pending P V.acts j)

  pub told_last : (s : ℕ) (item : Item) → is_step item ≡ false → (j : ℕ) → last_step (note_sent P V s item) j ≡ last_step V j
  told_last s item late j = told_same s item late j (last_time (V.acts j))

  -- ---- a right message after which the turn goes on: nothing moves

  module _ (i : ℕ) (m : Message) (T : OpenTurn) (q : Place) (is : V.open_at i ≡ Some T) where
    went_same : (j : ℕ) (other : Option Tier) → step_at ((note_right P V i m T (Some q)).open_at j) other ≡ step_at (V.open_at j) other
    went_same j other = opened_case (λ o. step_at o other ≡ step_at (V.open_at j) other) V i _ j (λ e. sym (ap (λ (o : Option OpenTurn). step_at o other) (ap V.open_at e ∙ is))) (λ n. refl)

    pub went_start : (j : ℕ) → start P (note_right P V i m T (Some q)) j ≡ start P V j
    went_start j = went_same j (pending P V.acts j)

    pub went_last : (j : ℕ) → last_step (note_right P V i m T (Some q)) j ≡ last_step V j
    went_last j = went_same j (last_time (V.acts j))

  -- ---- a message by which a turn ends: last Steps stay, and each start but those of open turns is the pending time over the acts grown

  module _ (i : ℕ) (m : Message) (T : OpenTurn) (is : V.open_at i ≡ Some T) where
    pub ended_last : (j : ℕ) → last_step (note_right P V i m T None) j ≡ last_step V j
    ended_last j = opened_case (λ o. step_at o (last_time (grown V.acts i (ended_turn T m) j)) ≡ last_step V j) V i None j here apart
      where
        here : j ≡ i → last_time (grown V.acts i (ended_turn T m) j) ≡ last_step V j
        here e = grown_case (λ (l : List Act). last_time l ≡ last_step V j) V.acts i (ended_turn T m) j
            (λ _. fold-append (λ (p : Option Tier) (a : Act). Some a.at) None (V.acts j) (ended_turn T m ∷ []) ∙ sym (ap (λ (o : Option OpenTurn). step_at o (last_time (V.acts j))) (ap V.open_at e ∙ is)))
            (λ n. absurd (n e))

        apart : (j ≡ i → ⊥) → step_at (V.open_at j) (last_time (grown V.acts i (ended_turn T m) j)) ≡ last_step V j
        apart n = ap (λ (l : List Act). step_at (V.open_at j) (last_time l)) (grown_case (λ (l : List Act). l ≡ V.acts j) V.acts i (ended_turn T m) j (λ e. absurd (n e)) (λ _. refl))

    pub ended_start : start P (note_right P V i m T None) i ≡ pending P (grown V.acts i (ended_turn T m)) i
    ended_start = opened_case (λ o. step_at o (pending P (grown V.acts i (ended_turn T m)) i) ≡ pending P (grown V.acts i (ended_turn T m)) i) V i None i (λ e. refl) (λ n. absurd (n refl))

    pub ended_start_apart : (j : ℕ) → (j ≡ i → ⊥) → start P (note_right P V i m T None) j ≡ step_at (V.open_at j) (pending P (grown V.acts i (ended_turn T m)) j)
    ended_start_apart j n = opened_case (λ o. step_at o (pending P (grown V.acts i (ended_turn T m)) j) ≡ step_at (V.open_at j) (pending P (grown V.acts i (ended_turn T m)) j)) V i None j (λ e. absurd (n e)) (λ _. refl)

    -- an open turn's start stays
    pub ended_start_open : (j : ℕ) (U : OpenTurn) → (j ≡ i → ⊥) → V.open_at j ≡ Some U → start P (note_right P V i m T None) j ≡ start P V j
    ended_start_open j U n e = ended_start_apart j n ∙ ap (λ (o : Option OpenTurn). step_at o (pending P (grown V.acts i (ended_turn T m)) j)) e ∙ sym (ap (λ (o : Option OpenTurn). step_at o (pending P V.acts j)) e)
    -- ---- a wrong message: the fault alone

-- ---- acts with one more of s: what is due, what triggers, and what they supply

pub in_grown : (A : Family) (s : ℕ) (f : Act) (j : ℕ) (a : Act) → IsIn a (grown A s f j) → IsIn a (A j) ⊎ ((j ≡ s) × (a ≡ f))
in_grown A s f j a = grown_case (λ (l : List Act). IsIn a l → IsIn a (A j) ⊎ ((j ≡ s) × (a ≡ f))) A s f j
    (λ e m. elim (in_either a (A j) (f ∷ []) m) [ inl o ↦ inl o | inr (inl q) ↦ inr (e, q) | inr (inr z) ↦ absurd z ]) (λ n m. inl m)

pub grown_old : (A : Family) (s : ℕ) (f : Act) (j : ℕ) (a : Act) → IsIn a (A j) → IsIn a (grown A s f j)
grown_old A s f j a m = grown_case (λ (l : List Act). IsIn a l) A s f j (λ e. in_front a (A j) (f ∷ []) m) (λ n. m)

pub grown_new : (A : Family) (s : ℕ) (f : Act) → IsIn f (grown A s f s)
grown_new A s f = grown_case (λ (l : List Act). IsIn f l) A s f s (λ e. in_back f (A s) (f ∷ []) (inl refl)) (λ n. absurd (n refl))

module _ (P : Plan) (s : ℕ) (f : Act) where
  -- a connection brings an output of this act of s to j, and triggers it at y
  pub record Brings (j : ℕ) (y : Tier) (c : Conn) : Type 0 where
    pub to : IsIn c (triggering_to P j)
    pub from : owner P c.from ≡ s
    pub value : List ℕ
    pub given : output P f c.from c.from_attr ≡ Some value
    pub is : y ≡ delayed (made f) c.via
    pub early : int_lt y.time P.until ≡ true

  -- j is due anew at y: by the act's next time, or by an output that is brought to it
  pub data IsNew (j : ℕ) (y : Tier) : Type 0 where
    by_itself : j ≡ s → IsNextOf P s f y → IsNew j y
    by_output : (c : Conn) → Brings j y c → IsNew j y

  pub brought_at : (j : ℕ) (y z : Tier) (c : Conn) → Brings j y c → Brings j z c → y ≡ z
  brought_at j y z c b d = b.is ∙ sym d.is

  -- what an act within the limit brings is within the run and the loop limit
  pub brought_within : IsInLimit P s f → (j : ℕ) (y : Tier) (c : Conn) → Brings j y c → is_in_run P y ≡ true
  brought_within kept j y c b = ap (is_in_run P) b.is ∙ trigger_in_limit P f c j b.value (subst (λ (i : ℕ). IsInLimit P i f) (sym b.from) kept) b.to b.given (ap (λ (x : Tier). int_lt x.time P.until) (sym b.is) ∙ b.early)

  module _ (A : Family) where
    -- what triggers after one more act of s: what did before, and what the act brings
    pub triggers_after : (j : ℕ) (y : Tier) → IsIn y (triggers P (supply P (grown A s f)) j) → IsIn y (triggers P (supply P A) j) ⊎ ((c : Conn) × Brings j y c)
    triggers_after j y m =
        let t = in_triggers P (grown A s f) j y m in
        let early : int_lt y.time P.until ≡ true = triggers_early P (grown A s f) j y m in
        elim (in_grown A s f (owner P t.0.from) t.2.0 t.2.1) [
          | inl old ↦ inl (triggers_in P A j y t.0 t.2.0 t.2.2.0 t.1 old t.2.2.1 t.2.2.2 early)
          | inr new ↦ inr (
            t.0,
            record {
              to = t.1;
              from = new.0;
              value = t.2.2.0;
              given = subst (λ (a : Act). output P a t.0.from t.0.from_attr ≡ Some t.2.2.0) new.1 t.2.2.1;
              is = subst (λ (a : Act). y ≡ delayed (made a) t.0.via) new.1 t.2.2.2;
              early = early;
            },
          )
        ]

    pub triggers_kept : (j : ℕ) (y : Tier) → IsIn y (triggers P (supply P A) j) → IsIn y (triggers P (supply P (grown A s f)) j)
    triggers_kept j y m =
        let t = in_triggers P A j y m in
        triggers_in P (grown A s f) j y t.0 t.2.0 t.2.2.0 t.1 (grown_old A s f (owner P t.0.from) t.2.0 t.2.1) t.2.2.1 t.2.2.2 (triggers_early P A j y m)

    pub triggers_new : (j : ℕ) (y : Tier) (c : Conn) → Brings j y c → IsIn y (triggers P (supply P (grown A s f)) j)
    triggers_new j y c b = triggers_in P (grown A s f) j y c f b.value b.to (subst (λ (i : ℕ). IsIn f (grown A s f i)) (sym b.from) (grown_new A s f)) b.given b.is b.early

    -- when a simulator is due after one more act of s: when it was before, and anew
    pub due_after : (j : ℕ) (y : Tier) → is_due P (grown A s f) j y ≡ true → (is_due P A j y ≡ true) ⊎ IsNew j y
    due_after j y due = elim (due_why P (grown A s f) j y due) [
      | inl first ↦ inl (due_first P A j y first)
      | inr (inl r) ↦ elim (in_grown A s f j r.0 r.1) [
        | inl old ↦ inl (due_next P A j y r.0 old r.2)
        | inr new ↦ inr (by_itself new.0 (subst (λ (i : ℕ). IsNextOf P i f y) new.0 (subst (λ (a : Act). IsNextOf P j a y) new.1 r.2)))
      ]
      | inr (inr r) ↦ elim (in_grown A s f r.0 r.2 r.4) [
        | inl old ↦ inl (due_triggered P A j y r.0 r.1 r.2 old r.5)
        | inr new ↦ inr (by_output r.5.by (record {
          to = r.5.to_s;
          from = r.5.from_j ∙ new.0;
          value = r.5.value;
          given = subst (λ (a : Act). output P a r.5.by.from r.5.by.from_attr ≡ Some r.5.value) new.1 r.5.given;
          is = subst (λ (a : Act). y ≡ delayed (made a) r.1) new.1 r.5.is ∙ ap (delayed (made f)) (sym r.5.via);
          early = (both_hold (int_lt y.time P.until) (nat_le y.tier P.loops) r.5.within).0;
        }))
      ]
    ]

    pub due_kept : (j : ℕ) (y : Tier) → is_due P A j y ≡ true → is_due P (grown A s f) j y ≡ true
    due_kept j y due = elim (due_why P A j y due) [
      | inl first ↦ due_first P (grown A s f) j y first
      | inr (inl r) ↦ due_next P (grown A s f) j y r.0 (grown_old A s f j r.0 r.1) r.2
      | inr (inr r) ↦ due_triggered P (grown A s f) j y r.0 r.1 r.2 (grown_old A s f r.0 r.2 r.4) r.5
    ]

    pub due_new : IsInLimit P s f → (j : ℕ) (y : Tier) → j < sim_count P → IsNew j y → is_due P (grown A s f) j y ≡ true
    due_new kept j y low (by_itself e n) = due_next P (grown A s f) j y f (subst (λ (i : ℕ). IsIn f (grown A s f i)) (sym e) (grown_new A s f)) (subst (λ (i : ℕ). IsNextOf P i f y) (sym e) n)
    due_new kept j y low (by_output c b) =
        let t = below_get P.sims j low in
        due_triggered P (grown A s f) j y s c.via f (grown_new A s f) (record { sim = t.0; at = t.1; within = brought_within kept j y c b; by = c; to_s = b.to; from_j = b.from; via = refl; value = b.value; given = b.given; is = b.is })

    -- what acts supply with one more of s: at its end what the act gives, where s is the owner
    pub outputs_after : (e : ℕ) (attr : List ℕ) → owner P e ≡ s → (supply P (grown A s f)).outputs e attr ≡ (supply P A).outputs e attr ++ outputs_of P e attr (f ∷ [])
    outputs_after e attr is = grown_case (λ (l : List Act). outputs_of P e attr l ≡ outputs_of P e attr (A (owner P e)) ++ outputs_of P e attr (f ∷ [])) A s f (owner P e)
        (λ _. filter_map_append _ (A (owner P e)) (f ∷ [])) (λ n. absurd (n is))

    pub outputs_apart : (e : ℕ) (attr : List ℕ) → (owner P e ≡ s → ⊥) → (supply P (grown A s f)).outputs e attr ≡ (supply P A).outputs e attr
    outputs_apart e attr n = grown_case (λ (l : List Act). outputs_of P e attr l ≡ outputs_of P e attr (A (owner P e))) A s f (owner P e) (λ is. absurd (n is)) (λ _. refl)

    pub gifts_after : (e : ℕ) → owner P e ≡ s → (supply P (grown A s f)).gifts e ≡ (supply P A).gifts e ++ gifts_of P e (f ∷ [])
    gifts_after e is = grown_case (λ (l : List Act). gifts_of P e l ≡ gifts_of P e (A (owner P e)) ++ gifts_of P e (f ∷ [])) A s f (owner P e)
        (λ _. flat_map_append _ (A (owner P e)) (f ∷ [])) (λ n. absurd (n is))

    pub gifts_apart : (e : ℕ) → (owner P e ≡ s → ⊥) → (supply P (grown A s f)).gifts e ≡ (supply P A).gifts e
    gifts_apart e n = grown_case (λ (l : List Act). gifts_of P e l ≡ gifts_of P e (A (owner P e))) A s f (owner P e) (λ is. absurd (n is)) (λ _. refl)

  -- what the act itself gives of one attribute
  pub output_given : (e : ℕ) (attr w : List ℕ) → output P f e attr ≡ Some w → outputs_of P e attr (f ∷ []) ≡ (let t : Timed = record { at = made f; value = w } in t) ∷ []
  output_given e attr w is = rw is refl

  pub output_missing : (e : ℕ) (attr : List ℕ) → output P f e attr ≡ None → outputs_of P e attr (f ∷ []) ≡ []
  output_missing e attr is = rw is refl
