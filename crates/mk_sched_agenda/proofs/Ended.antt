-- The agenda mirrors the view after a turn's end, if nothing is triggered beyond the loop limit.
use Rattle.std.proofs.Common.{◌≡◌, ℕ, zero, suc, ◌<◌, ◌≤◌, ℤ, Bool, true, false, ◌&&◌, List, [], ◌∷◌, length, Option, Some, None, is_some, option_map, unwrap_or, slice_get, slice_set, refl, sym, ap, ◌∙◌, subst, inl, inr, arith, ◌==◌, if◌then◌else◌}
use Rattle.std.proofs.lemmas.Bool.{cases_lt, eq-eqb}
use Rattle.mk_base.specs.declared.SimNo.{SimNo}
use Rattle.mk_base.specs.declared.tier.Tier.{Tier}
use Rattle.mk_base.specs.Lists.{IsIn}
use Rattle.mk_base.specs.Tiers.{moment}
use Rattle.mk_base.proofs.Lists.{filter_in, length_set}
use Rattle.mk_plan.specs.declared.Plan.{Plan}
use Rattle.mk_plan.specs.declared.Conn.{Conn}
use Rattle.mk_plan.specs.declared.Message.{Message}
use Rattle.mk_plan.specs.declared.Entry.{Entry}
use Rattle.mk_plan.specs.declared.Entry.TheVariants.{Got}
use Rattle.mk_plan.specs.Plans.{owner, sim_count}
use Rattle.mk_plan.specs.Acts.{Act, made, next_time}
use Rattle.mk_plan.specs.Due.{is_in_run}
use Rattle.mk_plan.specs.Journals.{View, OpenTurn, loop_fault, view, note, note_right, ended_turn}
use Rattle.mk_plan.specs.Ready.{last_step, pending}
use Rattle.mk_nextstep.specs.declared.queue.Due.{Due}
use Rattle.mk_nextstep.specs.Queues.{time_of, added, least}
use Rattle.mk_tiers.specs.Seen.{Seen, AreOfPlan, start_in, is_busy_in}
use Rattle.mk_order.proofs.Reasons.{IsNextOf, pending_below}
use Rattle.mk_order.proofs.Entries.{Brings, ended_last}
use Rattle.mk_order.proofs.Pends.{PendsWith, with_none, with_next, with_no_next, pending_is}
use Rattle.mk_order.specs.Pending.{Pends, IsTriggeredAt, IsPendingAt, StartsOf}
use Rattle.mk_order.proofs.EndedTurns.{brings_out, next_by, not_next, not_within, right_is, queue_after, ended_in_limit, next_was_pending}
use Rattle.mk_order.proofs.Tables.{busy_ended, starts_ended}
use Rattle.mk_sched_agenda.specs.declared.limits.Limits.{Limits}
use Rattle.mk_sched_agenda.specs.declared.outlets.Beyond.{Beyond}
use Rattle.mk_sched_agenda.specs.Outlets.{outlets_in}
use Rattle.mk_plan.specs.Deliveries.{triggering_from}
use Rattle.mk_sched_agenda.specs.Dues.{queue_in, last_in, limits_of}
use Rattle.mk_sched_agenda.specs.inner.Dues.{IsTidy, is_inside, with_next as next_queue, with_start}
use Rattle.mk_sched_agenda.specs.Mirrors.{AgendaState, flag_of, Mirrors}
use Rattle.mk_sched_agenda.specs.Endings.{given_by, IsLast, fault_of}
use Rattle.mk_sched_agenda.specs.inner.Coming.{IsEnding, HasCome, first_beyond}
use Rattle.mk_sched_agenda.proofs.Queued.{added_is, least_is_least}
use Rattle.mk_sched_agenda.proofs.Tabled.{own_else, busy_here, busy_else}
use Rattle.mk_sched_agenda.proofs.Tidying.{queue_here, queue_else}
use Rattle.mk_sched_agenda.proofs.Ending.{from_of, beyond_is}
use Rattle.mk_base.proofs.Counts.{same_or_not}
use Rattle.mk_base.proofs.Bools.{and_holds}

-- the steps to come with the next time that the act returned
next_comes : (P : Plan) (V : View) (s : ℕ) (f : Act) (cs : List Conn) → s < sim_count P → ((y : Tier) → IsNextOf P s f y → IsTriggeredAt P V s y → IsPendingAt P V s y) → (n : Option ℤ) → n ≡ next_time f → (L : Limits) → L ≡ limits_of P → (q : List Due)
    → PendsWith P time_of flag_of V s f false cs s q → PendsWith P time_of flag_of V s f true cs s (next_queue L q n)
next_comes P V s f cs low known None is L limits q h = with_no_next P time_of flag_of V s f cs s q (λ y _ k. not_next P s f (sym is) y k) h
next_comes P V s f cs low known (Some t) is L limits q h = go (is_inside L (moment t)) refl
  where
    within : is_inside L (moment t) ≡ is_in_run P (moment t)
    within = ap (λ (M : Limits). is_inside M (moment t)) limits

    go : (b : Bool) → is_inside L (moment t) ≡ b → PendsWith P time_of flag_of V s f true cs s (next_queue L q (Some t))
    go true e =
        let next : IsNextOf P s f (moment t) = next_by P s f t low (sym is) (sym within ∙ e) in
        subst (PendsWith P time_of flag_of V s f true cs s) (sym (ap (λ (b : Bool). if b then added false (moment t) q else q) e))
        (with_next P time_of flag_of V s f cs (moment t) next (known (moment t) next) q (added false (moment t) q) (added_is false (moment t) q) h)
    go false e = subst (PendsWith P time_of flag_of V s f true cs s) (sym (ap (λ (b : Bool). if b then added false (moment t) q else q) e))
        (with_no_next P time_of flag_of V s f cs s q (λ y _ k. not_within P s f t (sym is) (sym within ∙ e) y k) h)

none_beyond : (Q : List (List Due)) (B : Seen) (O : List Bool) → IsTidy Q O B → (i : ℕ) → length Q ≤ i → start_in B i ≡ None
none_beyond Q B O tidy i high = go B.owns i (omega (arith, high, tidy.owns))
  where
    go : (xs : List (Option Tier)) (j : ℕ) → length xs ≤ j → unwrap_or (slice_get xs j) None ≡ None
    go [] j h = refl
    go (x ∷ xs) zero h = absurd (omega arith)
    go (x ∷ xs) (suc j) h = go xs j (omega arith)

module _ (P : Plan) (J : List Entry) (s : SimNo) (T : OpenTurn) (m : Message) (x : Tier) (n : Option ℤ) (flags : List Bool) (h : IsLast P J s T m x n flags) (A : AgendaState) (mirrors : Mirrors P (view P J) A) (low : s.0 < length A.queues) where
  -- the search for a trigger beyond the loop limit finds the view's fault
  pub fault_is : loop_fault P s.0 (ended_turn T m) ≡ option_map fault_of (first_beyond A.limits x (outlets_in A.outlets s.0) flags)
  fault_is = beyond_is P s.0 (ended_turn T m) (triggering_from P s.0) (outlets_in A.outlets s.0) (λ c k. (from_of P s.0 c k).2) (mirrors.plan.outlets s.0 (omega (arith, low, mirrors.plan.count)))
      ∙ ap (λ (L : Limits). option_map fault_of (first_beyond L (made (ended_turn T m)) (outlets_in A.outlets s.0) (given_by P s.0 (ended_turn T m)))) (sym mirrors.plan.limits)
      ∙ ap (λ (y : Tier). option_map fault_of (first_beyond A.limits y (outlets_in A.outlets s.0) (given_by P s.0 (ended_turn T m)))) (sym h.made)
      ∙ ap (λ (gs : List Bool). option_map fault_of (first_beyond A.limits x (outlets_in A.outlets s.0) gs)) (sym h.given)

  pub fault_by : (b : Beyond) → first_beyond A.limits x (outlets_in A.outlets s.0) flags ≡ Some b → loop_fault P s.0 (ended_turn T m) ≡ Some (fault_of b)
  fault_by b is = fault_is ∙ ap (option_map fault_of) is

  module _ (fine : first_beyond A.limits x (outlets_in A.outlets s.0) flags ≡ None) where
    pub no_fault : loop_fault P s.0 (ended_turn T m) ≡ None
    no_fault = fault_is ∙ ap (option_map fault_of) fine

    pub is_ending : IsEnding P s.0 (ended_turn T m) A.limits (outlets_in A.outlets s.0) flags x
    is_ending = record {
      limits = mirrors.plan.limits;
      outlets = mirrors.plan.outlets s.0 (omega (arith, low, mirrors.plan.count));
      given = h.given;
      made = h.made;
      kept = ended_in_limit P h.valid J h.orderly s m T h.allowed h.opened h.right h.over (fault_is ∙ ap (option_map fault_of) fine);
    }

    -- nothing has come yet, and the turn is open
    pub come_begun : HasCome P (view P J) s.0 (ended_turn T m) false [] A.queues A.bounds
    come_begun = record {
      plan = mirrors.plan.bounds;
      count = mirrors.plan.count;
      queues = λ j under. with_none P time_of flag_of (view P J) s.0 (ended_turn T m) j (queue_in A.queues j) (mirrors.queues j under);
      busy = mirrors.starts.opened s.0 ∙ ap is_some h.opened;
      others = λ j k. mirrors.starts.opened j;
      kept = λ j k _. mirrors.starts.at j;
    }

    -- the turn closes behind what these connections brought
    pub come_closed : (cs : List Conn) (Q : List (List Due)) (O : List Bool) (B : Seen) → IsTidy Q O B → s.0 < length Q → HasCome P (view P J) s.0 (ended_turn T m) false cs Q B
        → (R : List (List Due)) (C : Seen) → R ≡ slice_set Q s.0 (next_queue A.limits (queue_in Q s.0) n) → (own : Option Tier) → C ≡ with_start B s.0 own false → AreOfPlan P C
        → HasCome P (view P J) s.0 (ended_turn T m) true cs R C
    come_closed cs Q O B tidy there come R C are own is of = record {
      plan = of;
      count = ap length are ∙ length_set Q s.0 (next_queue A.limits (queue_in Q s.0) n) ∙ come.count;
      queues = λ j under. subst (λ (q : List Due). PendsWith P time_of flag_of (view P J) s.0 (ended_turn T m) true cs j q) (sym (ap (λ (l : List (List Due)). queue_in l j) are)) (elim (same_or_not j s.0) [
        | inl e ↦ subst (λ (k : ℕ). PendsWith P time_of flag_of (view P J) s.0 (ended_turn T m) true cs k (queue_in (slice_set Q s.0 (next_queue A.limits (queue_in Q s.0) n)) k)) (sym e)
            (subst (PendsWith P time_of flag_of (view P J) s.0 (ended_turn T m) true cs s.0) (sym (queue_here Q s.0 (next_queue A.limits (queue_in Q s.0) n) there))
            (next_comes P (view P J) s.0 (ended_turn T m) cs (omega (arith, low, mirrors.plan.count)) (λ y k b. next_was_pending P h.valid J h.orderly s m T h.allowed h.opened h.right h.over y (omega (arith, low, mirrors.plan.count)) k b)
            n h.next A.limits mirrors.plan.limits (queue_in Q s.0) (come.queues s.0 (omega (arith, low, mirrors.plan.count)))))
        | inr k ↦ subst (PendsWith P time_of flag_of (view P J) s.0 (ended_turn T m) true cs j) (sym (queue_else Q s.0 j (next_queue A.limits (queue_in Q s.0) n) k))
            (with_no_next P time_of flag_of (view P J) s.0 (ended_turn T m) cs j (queue_in Q j) (λ y e _. k e) (come.queues j under))
      ]);
      busy = busy_here B C s.0 own false is (omega (arith, there, tidy.busies));
      others = λ j k. busy_else B C s.0 own false is j k ∙ come.others j k;
      kept = λ j k on. own_else B C s.0 own false is (omega (arith, there, tidy.owns)) j k ∙ come.kept j k (sym (busy_else B C s.0 own false is j k) ∙ on);
    }

    -- all that the act brings has come
    pub come_ended : (O : List Bool) (R : List (List Due)) (C : Seen) (lasts : List (Option Tier)) → lasts ≡ A.lasts → IsTidy R O C → HasCome P (view P J) s.0 (ended_turn T m) true (triggering_from P s.0) R C
        → Mirrors P (note P (view P J) (Got s m)) (let E : AgendaState = record { limits = A.limits; outlets = A.outlets; queues = R; lasts = lasts; bounds = C } in E)
    come_ended O R C lasts stays tidy come = record {
      plan = record { limits = mirrors.plan.limits; count = come.count; outlets = mirrors.plan.outlets; bounds = come.plan };
      queues = pends;
      lasts = λ i under. ap (λ (l : List (Option Tier)). last_in l i) stays ∙ mirrors.lasts i under ∙ sym (ap (λ (W : View). last_step W i) after ∙ ended_last P (view P J) s.0 m T h.opened i);
      starts = subst (λ (W : View). StartsOf P W (start_in C) (is_busy_in C)) (sym after)
          (starts_ended P (view P J) (start_in A.bounds) (is_busy_in A.bounds) mirrors.starts s.0 m T h.opened (start_in C) (is_busy_in C) come.busy others stay pend);
    }
      where
        after : note P (view P J) (Got s m) ≡ note_right P (view P J) s.0 m T None
        after = right_is P h.valid J h.orderly s m T h.allowed h.opened h.right None h.over

        whole : (j : ℕ) (c : Conn) (y : Tier) → Brings P s.0 (ended_turn T m) j y c → IsIn c (triggering_from P s.0)
        whole j c y b =
            let t = brings_out P s.0 (ended_turn T m) j y c b in
            filter_in (λ (d : Conn). d.triggering && (owner P d.from == s.0)) c P.conns t.0 (and_holds c.triggering (owner P c.from == s.0) t.1 (eq-eqb (owner P c.from) s.0 b.from))

        pends : (j : ℕ) → j < sim_count P → Pends P time_of flag_of (note P (view P J) (Got s m)) j (queue_in R j)
        pends j under = queue_after P h.valid J h.orderly s m T h.allowed h.opened h.right h.over time_of flag_of (fault_is ∙ ap (option_map fault_of) fine) (triggering_from P s.0) j (queue_in R j) under (whole j) (come.queues j under)

        others : (j : ℕ) → (j ≡ s.0 → ⊥) → is_busy_in C j ≡ is_busy_in A.bounds j
        others j k = come.others j k ∙ sym (mirrors.starts.opened j)

        stay : (j : ℕ) (U : OpenTurn) → (j ≡ s.0 → ⊥) → (view P J).open_at j ≡ Some U → start_in C j ≡ start_in A.bounds j
        stay j U k is = come.kept j k (come.others j k ∙ ap is_some is) ∙ sym (mirrors.starts.at j)

        no_later : (j : ℕ) → sim_count P ≤ j → (o : Option Tier) → pending P (note_right P (view P J) s.0 m T None).acts j ≡ o → pending P (note_right P (view P J) s.0 m T None).acts j ≡ None
        no_later j high None e = e
        no_later j high (Some y) e = absurd (omega (arith, high, pending_below P (note_right P (view P J) s.0 m T None).acts j y e))

        pend : (j : ℕ) → (note_right P (view P J) s.0 m T None).open_at j ≡ None → start_in C j ≡ pending P (note_right P (view P J) s.0 m T None).acts j
        pend j shut = elim (cases_lt j (sim_count P)) [
          | inl under ↦ tidy.starts j (omega (arith, under, come.count)) (sym (tidy.busy j) ∙ busy_ended P (view P J) (start_in A.bounds) (is_busy_in A.bounds) mirrors.starts s.0 m T (is_busy_in C) come.busy others j ∙ ap is_some shut)
              ∙ sym (pending_is P time_of flag_of (note_right P (view P J) s.0 m T None) j (queue_in R j) shut (subst (λ (V : View). Pends P time_of flag_of V j (queue_in R j)) after (pends j under)) (least (queue_in R j)) (least_is_least (queue_in R j) (tidy.rising j)))
          | inr high ↦ none_beyond R C O tidy j (omega (arith, high, come.count)) ∙ sym (no_later j high (pending P (note_right P (view P J) s.0 m T None).acts j) refl)
        ]
