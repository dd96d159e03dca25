-- Tables of starts that mirror a view: who may be asked for a step, and the max_advance of that step.
use Rattle.std.proofs.Common.{◌≡◌, ℕ, ◌<◌, ◌≤◌, ℤ, pos, ◌-ℤ◌, ◌≤ℤ◌, Bool, true, false, List, Option, Some, None, is_some, option_map, refl, sym, ap, ◌∙◌, subst, ◌⊎◌, inl, inr, true≢false, arith}
use Rattle.std.specs.Prelude.{MatchOption}
use Rattle.std.proofs.lemmas.Int.{ints, clamps}
use Rattle.std.specs.Int.{int_min, int_max}
use Rattle.mk_order_any.proofs.Talks.{above}
use Rattle.mk_base.specs.declared.tier.Tier.{Tier}
use Rattle.mk_base.specs.Lists.{IsIn}
use Rattle.mk_base.specs.Tiers.{IsUpTo, IsBefore}
use Rattle.mk_base.proofs.Lists.{none_some}
use Rattle.mk_plan.specs.declared.Plan.{Plan}
use Rattle.mk_plan.specs.declared.Entry.{Entry}
use Rattle.mk_plan.specs.declared.Input.{Input}
use Rattle.mk_plan.specs.declared.Item.{Item}
use Rattle.mk_plan.specs.declared.Item.TheVariants.{Step}
use Rattle.mk_plan.specs.declared.Message.{Message}
use Rattle.mk_plan.specs.declared.Place.{Place}
use Rattle.mk_plan.specs.Plans.{sim_count, IsValidPlan}
use Rattle.mk_plan.specs.Deliveries.{supply, triggers}
use Rattle.mk_plan.specs.Inputs.{is_since}
use Rattle.mk_plan.specs.Sequential.{last_time}
use Rattle.mk_plan.specs.Journals.{OpenTurn, View, view, open_after, begun, told_more, note_sent, note_right}
use Rattle.mk_plan.specs.Walks.{Reach, nobody, IsEarliest}
use Rattle.mk_plan.specs.Ready.{least, pending, start, step_at, IsClear, IsReady}
use Rattle.mk_plan.specs.Advance.{IsOuter, IsAdvance, bounded, unbounded}
use Rattle.mk_plan.specs.Orderly.{IsOrderlySoFar}
use Rattle.mk_plan.specs.Report.{is_step}
use Rattle.mk_order.proofs.Reasons.{pending_below, pending_since}
use Rattle.mk_order.proofs.Theory.{parts, laws}
use Rattle.mk_order.proofs.Seen.{seen, turn_of, reached, open_after_is}
use Rattle.mk_order.proofs.Entries.{opened_case, step_start, told_start, went_start, ended_start_open}
use Rattle.mk_order.proofs.Queues.{IsLeastFlagged, no_flag, has_flag}
use Rattle.mk_order.proofs.Pends.{since_past, closed_last}
use Rattle.mk_order.specs.Pending.{IsPendingAt, IsTriggeredAt, Pends, StartsOf}
use Rattle.mk_order.proofs.EndedTurns.{triggered_pends}
use Rattle.mk_base.proofs.Counts.{time_up_to}

-- no simulator beyond the count has a start
pub start_beyond : (P : Plan) → IsValidPlan P → (J : List Entry) → IsOrderlySoFar IsReady IsAdvance P J → (i : ℕ) → sim_count P ≤ i → (start P (view P J) i ≡ None) × ((view P J).open_at i ≡ None)
start_beyond P valid J orderly i high = (ap (λ (o : Option OpenTurn). step_at o (pending P (view P J).acts i)) shut ∙ none (pending P (view P J).acts i) refl, shut)
  where
    closed : (o : Option OpenTurn) → (view P J).open_at i ≡ o → option_map (turn_of P (view P J).owed i) o ≡ None → (view P J).open_at i ≡ None
    closed None e h = e
    closed (Some T) e h = absurd (none_some (sym h))

    shut : (view P J).open_at i ≡ None
    shut = closed ((view P J).open_at i) refl (above (parts P) (laws P valid) (seen P (view P J)) (reached IsReady IsAdvance P (λ V s x r. r) J orderly) i high).0

    none : (o : Option Tier) → pending P (view P J).acts i ≡ o → o ≡ None
    none None e = refl
    none (Some x) e = absurd (let low = pending_below P (view P J).acts i x e in omega (arith, low, high))

module _ (P : Plan) (V : View) (starts : ℕ → Option Tier) (busy : ℕ → Bool) (mirror : StartsOf P V starts busy) where
  pub same_starts : starts ≡ start P V
  same_starts = λ k i. mirror.at i k

  closed_by : (s : ℕ) → busy s ≡ false → V.open_at s ≡ None
  closed_by s idle = go (V.open_at s) refl
    where
      go : (o : Option OpenTurn) → V.open_at s ≡ o → o ≡ None
      go None e = refl
      go (Some T) e = absurd (true≢false (ap is_some (sym e) ∙ sym (mirror.opened s) ∙ idle))

  -- ---- ready, by the tables

  pub ready_by : (s : ℕ) (x : Tier) → busy s ≡ false → starts s ≡ Some x → IsClear P starts s x → IsReady P V s x
  ready_by s x idle at clear = record {
    closed = closed_by s idle;
    at_pending = ap (λ (o : Option OpenTurn). step_at o (pending P V.acts s)) (sym (closed_by s idle)) ∙ sym (mirror.at s) ∙ at;
    clear = subst (λ (f : ℕ → Option Tier). IsClear P f s x) same_starts clear;
  }

  pub ready_why : (s : ℕ) (x : Tier) → IsReady P V s x → (busy s ≡ false) × (starts s ≡ Some x) × IsClear P starts s x
  ready_why s x r = (
    mirror.opened s ∙ ap is_some r.closed,
    mirror.at s ∙ ap (λ (o : Option OpenTurn). step_at o (pending P V.acts s)) r.closed ∙ r.at_pending,
    subst (λ (f : ℕ → Option Tier). IsClear P f s x) (sym same_starts) r.clear,
  )

  -- where none below the count is ready by the tables, nobody is
  pub nobody_by : ((i : ℕ) (y : Tier) → i < sim_count P → busy i ≡ false → starts i ≡ Some y → IsClear P starts i y → ⊥) → (i : ℕ) (y : Tier) → IsReady P V i y → ⊥
  nobody_by none i y r = let t = ready_why i y r in none i y (pending_below P V.acts i y r.at_pending) t.0 t.1 t.2

  -- ---- bounds, by the tables

  pub earliest_by : (s : ℕ) (e : Tier) → IsEarliest P starts s e → IsEarliest P (start P V) s e
  earliest_by s e = subst (λ (f : ℕ → Option Tier). IsEarliest P f s e → IsEarliest P (start P V) s e) (sym same_starts) (λ r. r)

  pub unreached_by : (s : ℕ) → ((y : Tier) → Reach P starts nobody s y → ⊥) → (y : Tier) → Reach P (start P V) nobody s y → ⊥
  unreached_by s = subst (λ (f : ℕ → Option Tier). ((y : Tier) → Reach P f nobody s y → ⊥) → (y : Tier) → Reach P (start P V) nobody s y → ⊥) (sym same_starts) (λ r. r)

-- ---- tables after an entry

module _ (P : Plan) (V : View) (starts : ℕ → Option Tier) (busy : ℕ → Bool) (mirror : StartsOf P V starts busy) where
  pub starts_stepped : (s : ℕ) (x : Tier) (ins : List Input) (advance : ℤ) → IsReady P V s x → (flags : ℕ → Bool) → flags s ≡ true → ((j : ℕ) → (j ≡ s → ⊥) → flags j ≡ busy j) → StartsOf P (note_sent P V s (Step x ins advance)) starts flags
  starts_stepped s x ins advance ready flags here others = record {
    at = λ j. mirror.at j ∙ sym (step_start P V s x ins advance ready j);
    opened = λ j. opened_case (λ (o : Option OpenTurn). flags j ≡ is_some o) V s (Some (begun P V s x (Step x ins advance))) j (λ e. ap flags e ∙ here) (λ n. others j n ∙ mirror.opened j);
  }

  still_some : (item : Item) (o : Option OpenTurn) → is_some (option_map (told_more item) o) ≡ is_some o
  still_some item None = refl
  still_some item (Some T) = refl

  pub starts_told : (s : ℕ) (item : Item) → is_step item ≡ false → StartsOf P (note_sent P V s item) starts busy
  starts_told s item late = record {
    at = λ j. mirror.at j ∙ sym (told_start P V s item late j);
    opened = λ j. mirror.opened j ∙ opened_case (λ (o : Option OpenTurn). is_some (V.open_at j) ≡ is_some o) V s (open_after P V s item) j
        (λ e. ap (λ (i : ℕ). is_some (V.open_at i)) e ∙ sym (ap is_some (open_after_is P V s item late) ∙ still_some item (V.open_at s))) (λ n. refl);
  }

  pub starts_went : (i : ℕ) (m : Message) (T : OpenTurn) (q : Place) → V.open_at i ≡ Some T → StartsOf P (note_right P V i m T (Some q)) starts busy
  starts_went i m T q is = record {
    at = λ j. mirror.at j ∙ sym (went_start P V i m T q is j);
    opened = λ j. mirror.opened j ∙ opened_case (λ (o : Option OpenTurn). is_some (V.open_at j) ≡ is_some o) V i _ j (λ e. ap is_some (ap V.open_at e ∙ is)) (λ n. refl);
  }

  -- who is busy after the end of a turn of i; its starts are those of closed queues, and stay where
  -- a turn is open
  pub busy_ended : (i : ℕ) (m : Message) (T : OpenTurn) → (flags : ℕ → Bool) → flags i ≡ false → ((j : ℕ) → (j ≡ i → ⊥) → flags j ≡ busy j) → (j : ℕ) → flags j ≡ is_some ((note_right P V i m T None).open_at j)
  busy_ended i m T flags here others j = opened_case (λ (o : Option OpenTurn). flags j ≡ is_some o) V i None j (λ e. ap flags e ∙ here) (λ n. others j n ∙ mirror.opened j)

  -- after the end of a turn of i: where one is open the start stays, and where none is it is the
  -- pending time over the acts grown
  pub starts_ended : (i : ℕ) (m : Message) (T : OpenTurn) → V.open_at i ≡ Some T → (news : ℕ → Option Tier) (flags : ℕ → Bool) → flags i ≡ false → ((j : ℕ) → (j ≡ i → ⊥) → flags j ≡ busy j)
      → ((j : ℕ) (U : OpenTurn) → (j ≡ i → ⊥) → V.open_at j ≡ Some U → news j ≡ starts j) → ((j : ℕ) → (note_right P V i m T None).open_at j ≡ None → news j ≡ pending P (note_right P V i m T None).acts j)
      → StartsOf P (note_right P V i m T None) news flags
  starts_ended i m T is news flags here others stay pend = record {
    at = λ j. go j ((note_right P V i m T None).open_at j) refl;
    opened = busy_ended i m T flags here others;
  }
    where
      W : View
      W = note_right P V i m T None

      kept : (j : ℕ) (U : OpenTurn) → W.open_at j ≡ Some U → (j ≡ i → ⊥) × (V.open_at j ≡ Some U)
      kept j U = opened_case (λ (o : Option OpenTurn). o ≡ Some U → (j ≡ i → ⊥) × (V.open_at j ≡ Some U)) V i None j (λ e h. absurd (none_some h)) (λ n h. (n, h))

      go : (j : ℕ) (o : Option OpenTurn) → W.open_at j ≡ o → news j ≡ start P W j
      go j None e = pend j e ∙ sym (ap (λ (o : Option OpenTurn). step_at o (pending P W.acts j)) e)
      go j (Some U) e = let t = kept j U e in stay j U t.0 t.1 ∙ mirror.at j ∙ sym (ended_start_open P V i m T is j U t.0 t.1)

-- ---- max_advance

-- the answer is the least time of the ends of walks to s that touch s at their end alone
abbrev pub IsOuterTime : Plan → (ℕ → Option Tier) → ℕ → Option ℤ → Type 0
IsOuterTime P starts s answer = MatchOption answer ((w : Tier) → IsOuter P starts s w → ⊥) (λ t. ((w : Tier) × IsOuter P starts s w × (w.time ≡ t)) × ((w : Tier) → IsOuter P starts s w → t ≤ℤ w.time))

-- the sooner time of a trigger and such a walk
abbrev pub sooner : Option Tier → Option ℤ → Option ℤ
sooner None outer = outer
sooner (Some d) None = Some d.time
sooner (Some d) (Some t) = Some (int_min d.time t)

-- max_advance of a step at this time, by the sooner one
abbrev pub advance_by : ℤ → ℤ → Option ℤ → ℤ
advance_by until time None = until
advance_by until time (Some t) = int_min until (int_max time (t -ℤ pos 1))

-- the least trigger of s that came and is after x, if there is one
pub data IsLeastTrigger (P : Plan) (V : View) (s : ℕ) (x : Tier) : Option Tier → Type 0 where
  no_trigger : ((y : Tier) → IsIn y (triggers P (supply P V.acts) s) → IsBefore x y → ⊥) → IsLeastTrigger P V s x None
  has_trigger : (d : Tier) → IsIn d (triggers P (supply P V.acts) s) → IsBefore x d → ((y : Tier) → IsIn y (triggers P (supply P V.acts) s) → IsBefore x y → IsUpTo d y) → IsLeastTrigger P V s x (Some d)

module _ (P : Plan) (V : View) (s : ℕ) (x : Tier) where
  -- the queue's least flagged time is the answer
  pub trigger_by : {X : Type 0} (time : X → Tier) (flag : X → Bool) (q : List X) → Pends P time flag V s q → ((y : Tier) → IsTriggeredAt P V s y → IsBefore x y → IsPendingAt P V s y)
      → (o : Option Tier) → IsLeastFlagged time flag q x o → IsLeastTrigger P V s x o
  trigger_by time flag q h pends None (no_flag none) = no_trigger (λ y m b. none y (h.flagged y (pends y (record { by = m }) b) (record { by = m })) b)
  trigger_by time flag q h pends (Some d) (has_flag _ on after least) = has_trigger d (h.flags d on).by after (λ y m b. least y (h.flagged y (pends y (record { by = m }) b) (record { by = m })) b)

  -- max_advance by the least trigger and the outer bound
  pub advance_is : (trigger : Option Tier) (outer : Option ℤ) → IsLeastTrigger P V s x trigger → IsOuterTime P (start P V) s outer → IsAdvance P V s x (advance_by P.until x.time (sooner trigger outer))
  advance_is None None (no_trigger none) out = unbounded P.until (λ d c. elim c [ inl k ↦ none d k.0 k.1 | inr o ↦ out d o ]) refl
  advance_is None (Some t) (no_trigger none) out =
      let w : Tier = out.0.0 in
      bounded w _ (inr out.0.1) (λ e c. elim c [ inl k ↦ absurd (none e k.0 k.1) | inr o ↦ subst (λ (n : ℤ). n ≤ℤ e.time) (sym out.0.2) (out.1 e o) ]) (ap (λ (n : ℤ). int_min P.until (int_max x.time (n -ℤ pos 1))) (sym out.0.2))
  advance_is (Some d) None (has_trigger _ m b least) out = bounded d _ (inl (m, b)) (λ e c. elim c [ inl k ↦ time_up_to d e (least e k.0 k.1) | inr o ↦ absurd (out e o) ]) refl
  advance_is (Some d) (Some t) (has_trigger _ m b least) out = elim (which d.time t) [
    | inl l ↦ bounded d _ (inl (m, b)) (λ e c. elim c [ inl k ↦ time_up_to d e (least e k.0 k.1) | inr o ↦ trans d.time t e.time l.0 (out.1 e o) ]) (ap (λ (n : ℤ). int_min P.until (int_max x.time (n -ℤ pos 1))) l.1)
    | inr l ↦ let w : Tier = out.0.0 in
        bounded w _ (inr out.0.1) (λ e c. elim c [
          | inl k ↦ subst (λ (n : ℤ). n ≤ℤ e.time) (sym out.0.2) (trans t d.time e.time l.0 (time_up_to d e (least e k.0 k.1)))
          | inr o ↦ subst (λ (n : ℤ). n ≤ℤ e.time) (sym out.0.2) (out.1 e o)
        ]) (ap (λ (n : ℤ). int_min P.until (int_max x.time (n -ℤ pos 1))) (l.1 ∙ sym out.0.2))
  ]
    where
      which : (a b : ℤ) → ((a ≤ℤ b) × (int_min a b ≡ a)) ⊎ ((b ≤ℤ a) × (int_min a b ≡ b))
      which a b = grind (arith, ints, clamps)

      trans : (a b c : ℤ) → a ≤ℤ b → b ≤ℤ c → a ≤ℤ c
      trans a b c h k = grind (arith, ints)

-- at a journal: the queue's least flagged time after the step and the outer bound give its max_advance
pub advance_by_queue : {X : Type 0} (time : X → Tier) (flag : X → Bool) (P : Plan) → IsValidPlan P → (J : List Entry) → IsOrderlySoFar IsReady IsAdvance P J → (view P J).fault ≡ None → (s : ℕ) (x : Tier) → IsReady P (view P J) s x
    → (q : List X) → Pends P time flag (view P J) s q → (trigger : Option Tier) → IsLeastFlagged time flag q x trigger → (outer : Option ℤ) → IsOuterTime P (start P (view P J)) s outer
    → IsAdvance P (view P J) s x (advance_by P.until x.time (sooner trigger outer))
advance_by_queue time flag P valid J orderly fine s x ready q h trigger least outer out =
    advance_is P (view P J) s x trigger outer (trigger_by P (view P J) s x time flag q h pends trigger least) out
  where
    pends : (y : Tier) → IsTriggeredAt P (view P J) s y → IsBefore x y → IsPendingAt P (view P J) s y
    pends y b after = triggered_pends P valid J orderly fine s (pending_below P (view P J).acts s x ready.at_pending) y b
        (ap (λ (p : Option Tier). is_since p y) (closed_last P (view P J) s ready.closed) ∙ since_past (last_time ((view P J).acts s)) x y (pending_since P (view P J).acts s x ready.at_pending) after)
