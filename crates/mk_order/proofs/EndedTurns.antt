-- What becomes due by the end of a turn is new to its simulator, and what connections of that
-- simulator bring by it.
use Rattle.std.proofs.Common.{◌≡◌, ℕ, ◌<◌, ℤ, Bool, true, false, ◌&&◌, List, [], ◌∷◌, ◌++◌, Option, Some, None, refl, sym, ap, ◌∙◌, subst, true≢false, int_lt, ◌==◌}
use Rattle.std.proofs.lemmas.Bool.{eqb-true, eq-eqb}
use Rattle.mk_base.specs.declared.SimNo.{SimNo}
use Rattle.mk_base.specs.declared.tier.Tier.{Tier}
use Rattle.mk_base.specs.Lists.{IsIn}
use Rattle.mk_base.specs.Tiers.{moment, delayed, IsUpTo, IsBefore}
use Rattle.mk_base.proofs.Lists.{below_get, in_back, in_filter, filter_in, in_each, none_some, some_same}
use Rattle.mk_base.proofs.TierOrder.{delayed_keeps}
use Rattle.mk_plan.specs.declared.Plan.{Plan}
use Rattle.mk_plan.specs.declared.Conn.{Conn}
use Rattle.mk_plan.specs.declared.Message.{Message}
use Rattle.mk_plan.specs.declared.Entry.{Entry}
use Rattle.mk_plan.specs.declared.Entry.TheVariants.{Got}
use Rattle.mk_plan.specs.declared.Place.{Place}
use Rattle.mk_plan.specs.declared.Cause.{Cause}
use Rattle.mk_plan.specs.Plans.{owner, sim_count, IsValidPlan}
use Rattle.mk_plan.specs.Turns.{wrong, next_place}
use Rattle.mk_plan.specs.Acts.{Act, made, next_time, output}
use Rattle.mk_plan.specs.Deliveries.{supply, triggers}
use Rattle.mk_plan.specs.Due.{is_in_run, first_times, own_times}
use Rattle.mk_plan.specs.Inputs.{is_since}
use Rattle.mk_plan.specs.Sequential.{grown, last_time}
use Rattle.mk_plan.specs.Journals.{OpenTurn, View, view, note, note_right, note_got, place_at, ended_turn, loop_fault}
use Rattle.mk_plan.specs.Ready.{pending, step_at, last_step, IsReady}
use Rattle.mk_plan.specs.Advance.{IsAdvance}
use Rattle.mk_plan.specs.Orderly.{IsAllowed, IsOrderlySoFar}
use Rattle.mk_plan.specs.Walks.{IsLink, from_start}
use Rattle.mk_order.proofs.Reasons.{IsNextOf, finds, due_in, edge_of}
use Rattle.mk_order.proofs.RightActs.{IsRight, made_no_earlier}
use Rattle.mk_order.proofs.Theory.{edge_link, next_after}
use Rattle.mk_order.proofs.Limits.{IsInLimit, view_kept, triggers_within}
use Rattle.mk_order.proofs.Past.{nothing_missed, view_right}
use Rattle.mk_order.proofs.Pushing.{view_push, orderly_push}
use Rattle.mk_order.proofs.Entries.{Brings, IsNew, by_itself, by_output, grown_new, ended_last}
use Rattle.mk_order.proofs.Queues.{is_before, before_then_up_to}
use Rattle.mk_order.proofs.Pends.{PendsWith, pends_ended}
use Rattle.mk_order.specs.Pending.{IsPendingAt, IsTriggeredAt, Pends}
use Rattle.mk_base.proofs.Bools.{and_holds, both_hold}

-- ---- what a connection brings

module _ (P : Plan) (s : ℕ) (f : Act) where
  pub brings_by : (c : Conn) (w : List ℕ) → IsIn c P.conns → c.triggering ≡ true → owner P c.from ≡ s → output P f c.from c.from_attr ≡ Some w → int_lt (delayed (made f) c.via).time P.until ≡ true → Brings P s f (owner P c.to) (delayed (made f) c.via) c
  brings_by c w m on from given early = record {
    to = filter_in (λ (d : Conn). d.triggering && (owner P d.to == owner P c.to)) c P.conns m (and_holds c.triggering (owner P c.to == owner P c.to) on (eq-eqb (owner P c.to) (owner P c.to) refl));
    from = from;
    value = w;
    given = given;
    is = refl;
    early = early;
  }

  pub brings_out : (j : ℕ) (y : Tier) (c : Conn) → Brings P s f j y c → IsIn c P.conns × (c.triggering ≡ true) × (owner P c.to ≡ j)
  brings_out j y c b =
      let t = in_filter (λ (d : Conn). d.triggering && (owner P d.to == j)) c P.conns b.to in
      let u = both_hold c.triggering (owner P c.to == j) t.1 in
      (t.0, u.0, eqb-true (owner P c.to) j u.1)

  pub not_to : (j : ℕ) (y : Tier) (c : Conn) → (owner P c.to ≡ j → ⊥) → Brings P s f j y c → ⊥
  not_to j y c n b = n (brings_out j y c b).2

  pub not_early : (j : ℕ) (y : Tier) (c : Conn) → int_lt (delayed (made f) c.via).time P.until ≡ false → Brings P s f j y c → ⊥
  not_early j y c late b = true≢false (sym b.early ∙ ap (λ (x : Tier). int_lt x.time P.until) b.is ∙ late)

  -- a next time within the run is one for which s is due
  pub next_by : (n : ℤ) → s < sim_count P → next_time f ≡ Some n → is_in_run P (moment n) ≡ true → IsNextOf P s f (moment n)
  next_by n low is within = let t = below_get P.sims s low in record { sim = t.0; at = t.1; within = within; time = n; next = is; is = refl }

  pub not_next : next_time f ≡ None → (y : Tier) → IsNextOf P s f y → ⊥
  not_next none y k = none_some (sym none ∙ k.next)

  pub not_within : (n : ℤ) → next_time f ≡ Some n → is_in_run P (moment n) ≡ false → (y : Tier) → IsNextOf P s f y → ⊥
  not_within n is out y k = true≢false (sym k.within ∙ ap (is_in_run P) (k.is ∙ ap moment (some_same (sym k.next ∙ is))) ∙ out)

-- ---- at a journal

module _ (P : Plan) (valid : IsValidPlan P) (J : List Entry) (orderly : IsOrderlySoFar IsReady IsAdvance P J) where
  -- a trigger that came, and that is later than the last step, is pending
  pub triggered_pends : (view P J).fault ≡ None → (i : ℕ) → i < sim_count P → (y : Tier) → IsTriggeredAt P (view P J) i y → is_since (last_step (view P J) i) y ≡ true → IsPendingAt P (view P J) i y
  triggered_pends fine i low y b since =
      let t = below_get P.sims i low in
      record {
        due = finds y _ (due_in P (view P J).acts i y t.0 t.1 (triggers_within IsReady IsAdvance P (λ V s x r. r) J orderly fine i y b.by)
            (in_back y (first_times t.0 ++ own_times ((view P J).acts i)) (triggers P (supply P (view P J).acts) i) b.by));
        since = since;
      }

  module _ (s : SimNo) (m : Message) (T : OpenTurn) (allowed : IsAllowed IsReady IsAdvance P (view P J) (Got s m)) (is : (view P J).open_at s.0 ≡ Some T) (right : wrong P s.0 T.place m ≡ None) where
    -- the view after a right message
    pub right_is : (q : Option Place) → next_place P s.0 T.place m ≡ q → note P (view P J) (Got s m) ≡ note_right P (view P J) s.0 m T q
    right_is q goes = ap (λ (o : Option OpenTurn). note_got P (view P J) s.0 m o (wrong P s.0 (place_at o) m)) is ∙ ap (λ (c : Option Cause). note_got P (view P J) s.0 m (Some T) c) right ∙ ap (note_right P (view P J) s.0 m T) goes

    module _ (over : next_place P s.0 T.place m ≡ None) where
      pub ended_right : IsRight (ended_turn T m)
      ended_right =
          let K : List Entry = J ++ Got s m ∷ [] in
          let there : (view P K).acts ≡ grown (view P J).acts s.0 (ended_turn T m) = ap (λ (W : View). W.acts) (view_push P J (Got s m) ∙ right_is None over) in
          in_each IsRight (ended_turn T m) ((view P K).acts s.0) (view_right IsReady IsAdvance P (λ V s x r. r) valid K (orderly_push IsReady IsAdvance P J (Got s m) orderly allowed) s.0)
          (subst (λ (A : _). IsIn (ended_turn T m) (A s.0)) (sym there) (grown_new (view P J).acts s.0 (ended_turn T m)))

      pub ended_in_limit : loop_fault P s.0 (ended_turn T m) ≡ None → IsInLimit P s.0 (ended_turn T m)
      ended_in_limit none = record { tier = (view_kept IsReady IsAdvance P (λ V s x r. r) J orderly).opened s.0 T is; triggers = none }

      -- what becomes due is later than the last step of its simulator
      pub new_since : (j : ℕ) (y : Tier) → IsNew P s.0 (ended_turn T m) j y → is_since (last_step (view P J) j) y ≡ true
      new_since j y (by_itself e n) =
          ap (λ (p : Option Tier). is_since p y) (ap (last_step (view P J)) e ∙ ap (λ (o : Option OpenTurn). step_at o (last_time ((view P J).acts s.0))) is)
          ∙ is_before T.at y (subst (λ (x : Tier). IsBefore T.at x) (sym n.is) (next_after T.at n.time (ended_right.next n.time n.next)))
      new_since j y (by_output c b) = go (last_step (view P J) j) refl
        where
          link : IsLink P s.0 c.via j
          link = subst (λ (i : ℕ). IsLink P i c.via j) b.from (edge_link P (owner P c.from) c.via j (edge_of P c j b.to))

          go : (p : Option Tier) → last_step (view P J) j ≡ p → is_since p y ≡ true
          go None e = refl
          go (Some p) e = is_before p y (before_then_up_to p (delayed T.at c.via) y
              (nothing_missed IsReady IsAdvance P (λ V s x r. r) valid J orderly j p e s.0 c.via T.at link (from_start s.0 T.at (λ z. z) (ap (λ (o : Option OpenTurn). step_at o (pending P (view P J).acts s.0)) is)))
              (subst (λ (x : Tier). IsUpTo (delayed T.at c.via) x) (sym b.is) (delayed_keeps T.at (made (ended_turn T m)) c.via (made_no_earlier (ended_turn T m)))))

      -- the queue of j, to which all was added, holds what is pending after the turn's end
      pub queue_after : {X : Type 0} (time : X → Tier) (flag : X → Bool) → loop_fault P s.0 (ended_turn T m) ≡ None → (cs : List Conn) (j : ℕ) (q : List X) → j < sim_count P → ((c : Conn) (y : Tier) → Brings P s.0 (ended_turn T m) j y c → IsIn c cs)
          → PendsWith P time flag (view P J) s.0 (ended_turn T m) true cs j q → Pends P time flag (note P (view P J) (Got s m)) j q
      queue_after time flag none cs j q low whole h = subst (λ (W : View). Pends P time flag W j q) (sym (right_is None over))
          (pends_ended P time flag (view P J) s.0 (ended_turn T m) (note_right P (view P J) s.0 m T None) cs j q (ended_in_limit none) low refl (ended_last P (view P J) s.0 m T is j) whole (new_since j) h)

      -- a next time that something triggers already was pending
      pub next_was_pending : (y : Tier) → s.0 < sim_count P → IsNextOf P s.0 (ended_turn T m) y → IsTriggeredAt P (view P J) s.0 y → IsPendingAt P (view P J) s.0 y
      next_was_pending y low n b = triggered_pends allowed.0 s.0 low y b (new_since s.0 y (by_itself refl n))
