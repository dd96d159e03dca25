-- Somebody was ready, and its Step is the next entry: what that keeps of a resumed run.
use Rattle.std.proofs.Common.{◌≡◌, ◌⊎◌, inl, inr, ℕ, ◌+◌, ◌<◌, ◌≤◌, true, false, List, [], ◌∷◌, ◌++◌, length, Some, None, sym, ap, ◌∙◌, subst, arith, append_assoc, length-append}
use Rattle.mk_base.specs.declared.LinkNo.{LinkNo}
use Rattle.mk_base.specs.declared.SimNo.{SimNo}
use Rattle.mk_base.specs.Lists.{BeginsWith}
use Rattle.mk_base.proofs.Lists.{some_same}
use Rattle.mk_plan.specs.declared.Plan.{Plan}
use Rattle.mk_plan.specs.declared.Item.{Item}
use Rattle.mk_plan.specs.declared.Item.TheVariants.{Step}
use Rattle.mk_plan.specs.declared.Entry.{Entry}
use Rattle.mk_plan.specs.declared.Entry.TheVariants.{Sent}
use Rattle.mk_plan.specs.Plans.{sim_count, first_id}
use Rattle.mk_plan.specs.Ready.{IsReady}
use Rattle.mk_plan.specs.Journals.{View, view, sent, got}
use Rattle.mk_plan.specs.Sequential.{id_after}
use Rattle.mk_order.proofs.Pushing.{view_push}
use Rattle.mk_outside.specs.declared.fleet.LogEntry.{LogEntry}
use Rattle.mk_sched.specs.Cores.{CoreState, Stands}
use Rattle.mk_sched.specs.Answers.{IsAsked, open_id}
use Rattle.mk_local.specs.Replies.{IsItemReplied}
use Rattle.mk_run_laws.specs.Handshake.{setup_count, sim_link}
use Rattle.mk_run_laws.specs.Channels.{Channel}
use Rattle.mk_run_laws.specs.Crews.{channel_at}
use Rattle.mk_run_laws.proofs.Saying.{link_there}
use Rattle.mk_run_laws.proofs.Stepping.{sent_here}
use Rattle.mk_run_local.specs.Laws.{RepliesAreKinds}
use Rattle.mk_run_crew.specs.Seen.{CrewSeen, crew_of, is_here}
use Rattle.mk_run_crew.specs.Calls.{HasNext, SendsAs}
use Rattle.mk_run.specs.inner.Underway.{Setting, reply_in, exchange_at}
use Rattle.mk_run.proofs.LoopSteps.{asked_opens, asked_id, asked_ready}
use Rattle.mk_sched.proofs.Pushed.{fault_after_sent, patient_sent}
use Rattle.mk_run.proofs.Pushed.{range_sent}
use Rattle.mk_run.proofs.Times.{ready_time}
use Rattle.mk_resume_walk.specs.Talks.{free_items}
use Rattle.mk_resume_walk.proofs.Alternating.{alternate}
use Rattle.mk_resume_walk.proofs.UpTo.{free_all}
use Rattle.mk_resume_links.specs.Rests.{Counts}
use Rattle.mk_resume_links.specs.inner.Catching.{IsCatching}
use Rattle.mk_resume_links.proofs.Growing.{count_sent, free_sent_away, free_sent_behind, free_sent_here}
use Rattle.mk_resume_links.proofs.Closing.{asked_behind, asked_on_link, asked_within}
use Rattle.mk_resume_loop.specs.inner.Underway.{IsResuming, saved_of}
use Rattle.mk_run.proofs.ItemSent.{come_as, come_sent, kept_so, no_other_after, not_here_is_outside, only_sent}
use Rattle.mk_run.proofs.SmallIds.{few_more, few_sent, small_next}
use Rattle.mk_base.proofs.Counts.{same_or_not}
use Rattle.mk_base.proofs.Bools.{true_or_false}

-- ---- beginnings

pub longer_begins : (J first : List Entry) (e : Entry) → BeginsWith J first → BeginsWith (J ++ e ∷ []) first
longer_begins J first e b = (b.0 ++ e ∷ [], ap (λ (K : List Entry). K ++ e ∷ []) b.1 ∙ append_assoc first b.0 (e ∷ []))

-- an item pays what is owed
pub paid_by_sent : (P : Plan) (J : List Entry) (s : SimNo) (item : Item) → (view P (J ++ Sent s item ∷ [])).owed ≡ None
paid_by_sent P J s item = ap (λ (W : View). W.owed) (view_push P J (Sent s item))

-- ---- counts

-- where an item may be sent, all items before it were answered
answered_by : (a b n m : ℕ) → (a ≡ n) ⊎ (a ≡ n + 1) → (b ≡ m) ⊎ (b ≡ m + 1) → b ≡ a + 1 → m ≡ n → a ≡ n
answered_by a b n m (inl p) q more same = p
answered_by a b n m (inr p) (inl q) more same = absurd (omega (arith, p, q, more, same))
answered_by a b n m (inr p) (inr q) more same = absurd (omega (arith, p, q, more, same))

pub all_answered : (P : Plan) (J : List Entry) (s : SimNo) (item : Item) → Stands P J → (view P J).fault ≡ None → Stands P (J ++ Sent s item ∷ []) → length (sent J s.0) ≡ length (got J s.0)
all_answered P J s item stands fine longer =
    answered_by (length (sent J s.0)) (length (sent (J ++ Sent s item ∷ []) s.0)) (length (got J s.0)) (length (got (J ++ Sent s item ∷ []) s.0))
    (alternate P J stands.orderly.0 fine s.0) (alternate P (J ++ Sent s item ∷ []) longer.orderly.0 (fault_after_sent P J s item fine) s.0)
    (ap length (sent_here J s item) ∙ length-append (sent J s.0) (item ∷ [])) (count_sent J s item s.0)

module _ (T : Setting) (old new : CoreState) (first : List Entry) (heard : Counts) (log : List LogEntry) (C : CrewSeen) (s : SimNo) (u : IsResuming T old.plan first old.entries heard log (crew_of C) C.sims) (stands : Stands new.plan new.entries) (a : IsAsked old s new) where
  abbrev P : Plan
  P = old.plan

  abbrev J : List Entry
  J = old.entries

  abbrev item : Item
  item = Step a.at a.inputs a.advance

  abbrev K : List Entry
  K = J ++ Sent s item ∷ []

  ready : IsReady P (view P J) s.0 a.at
  ready = asked_ready old new s u.stands a

  pub asked_low : s.0 < sim_count P
  asked_low = (ready_time P u.stands.valid J u.stands.orderly.0 s.0 a.at ready).2

  pub asked_opened : open_id new s.0 ≡ Some (id_after (first_id P s.0) (sent J s.0))
  asked_opened = asked_opens old new s u.stands a

  -- ---- its simulator has messages to send again

  pub asked_waits : heard s.0 < length (got J s.0) → IsResuming T new.plan first new.entries heard log (crew_of C) C.sims
  asked_waits behind = subst (λ (c : CoreState). IsResuming T c.plan first c.entries heard log (crew_of C) C.sims) (sym a.moved) (record {
    suits = u.suits;
    stands = subst (λ (c : CoreState). Stands c.plan c.entries) a.moved stands;
    begins = longer_begins J first (Sent s item) u.begins;
    patient = patient_sent P J s item u.patient;
    in_range = range_sent J s item u.in_range;
    no_fault = fault_after_sent P J s item u.no_fault;
    paid = paid_by_sent P J s item;
    catching = asked_behind (saved_of first) T.started T.scenario T.replies (reply_in T) P J heard log (crew_of C) s item a.at u.catching ready behind;
    no_other = u.no_other;
    come = come_as T (λ i. free_items J i (heard i)) (λ i. free_items K i (heard i)) C.sims free u.come;
    only_within = u.only_within;
    log_right = u.log_right;
  })
    where
      free : (i : ℕ) → free_items J i (heard i) ≡ free_items K i (heard i)
      free i = elim (same_or_not i s.0) [
        | inl q ↦ subst (λ (j : ℕ). free_items J j (heard j) ≡ free_items K j (heard j)) (sym q) (sym (free_sent_behind J s item (heard s.0) behind))
        | inr apart ↦ sym (free_sent_away J s item i (heard i) apart)
      ]

  -- ---- it has caught up

  module _ (caught : heard s.0 ≡ length (got J s.0)) where
    few : length (got J s.0) ≤ heard s.0
    few = omega (arith, caught)

    free_now : free_items J s.0 (heard s.0) ≡ sent J s.0
    free_now = free_all J s.0 (heard s.0) few

    all_free : length (free_items J s.0 (heard s.0)) ≡ heard s.0
    all_free = ap length free_now ∙ all_answered P J s item u.stands u.no_fault (subst (λ (c : CoreState). Stands c.plan c.entries) a.moved stands) ∙ sym caught

    numbered : id_after (first_id P s.0) (sent J s.0) ≡ id_after (setup_count T.scenario s.0) (free_items J s.0 (heard s.0))
    numbered = ap (λ (n : ℕ). id_after n (sent J s.0)) (u.suits.first s.0 asked_low) ∙ ap (id_after (setup_count T.scenario s.0)) (sym free_now)

    -- the crew takes the Step
    pub asked_replied : is_here C s.0 ≡ true → IsItemReplied (Step a.at a.inputs a.advance)
    asked_replied here = let t = ready_time P u.stands.valid J u.stands.orderly.0 s.0 a.at ready in (t.0, t.1)

    pub asked_linked : is_here C s.0 ≡ false → HasNext (Step a.at a.inputs a.advance) (id_after (first_id P s.0) (sent J s.0)) s.0 C
    asked_linked away =
        let t = link_there T.started T.scenario s.0 (subst (λ (n : ℕ). s.0 < n) u.suits.sims asked_low) (not_here_is_outside T (λ i. free_items J i (heard i)) C.sims s.0 u.come away) in
        let h = u.catching.touch.channels s.0 t.0 t.1 in
        (h.channel, h.there, small_next T P J u.suits u.stands s.0 asked_low (free_items J s.0 (heard s.0)) (subst (λ (xs : List Item). length xs ≤ length J + 1) (sym free_now) (few_more (few_sent J s.0))) h.channel.next h.in_step.next_id, λ takes. numbered ∙ sym h.in_step.next_id)

    -- and once it was sent the run goes on
    module _ (law : RepliesAreKinds) (D : CrewSeen) (id : ℕ) (opened : open_id new s.0 ≡ Some id) (so : SendsAs s.0 (Step a.at a.inputs a.advance) id C D) where
      right : id ≡ id_after (setup_count T.scenario s.0) (free_items J s.0 (heard s.0))
      right = asked_id old new s id u.stands a opened ∙ numbered

      more : free_items K s.0 (heard s.0) ≡ free_items J s.0 (heard s.0) ++ item ∷ []
      more = free_sent_here J s item (heard s.0) few

      stay : (i : ℕ) → (i ≡ s.0 → ⊥) → free_items K i (heard i) ≡ free_items J i (heard i)
      stay i apart = free_sent_away J s item i (heard i) apart

      catching : IsCatching (saved_of first) (exchange_at T log) T.replies P K heard (crew_of D)
      catching = elim (true_or_false (is_here C s.0)) [
        | inl here ↦ let t = kept_so T law (λ i. free_items J i (heard i)) (λ i. free_items K i (heard i)) s.0 item id C D more stay u.come u.only_within (λ h. right) so here in
            asked_within (saved_of first) T.started T.scenario T.replies (reply_in T) P J heard log (crew_of C) (crew_of D) s item a.at u.catching ready few
            all_free t.0 t.1
        | inr away ↦ let q = so.on_link away in let t = u.no_other s.0 q.0.channel q.0.there in
            asked_on_link (saved_of first) T.started T.scenario T.replies (reply_in T) P J heard log (crew_of C) (crew_of D) s item a.at id t.0 u.catching ready few t.1 q.0 (λ w there takes. next w there t.0 t.1)
      ]
        where
          next : (w : Channel) → channel_at (crew_of C) s.0 ≡ Some w → (l : LinkNo) → sim_link T.started T.scenario s.0 ≡ Some l → id ≡ w.next
          next w there l linked =
              let h = u.catching.touch.channels s.0 l linked in
              right ∙ sym h.in_step.next_id ∙ ap (λ (v : Channel). v.next) (some_same (sym h.there ∙ there))

      pub asked_goes : IsResuming T new.plan first new.entries heard log (crew_of D) D.sims
      asked_goes = subst (λ (c : CoreState). IsResuming T c.plan first c.entries heard log (crew_of D) D.sims) (sym a.moved) (record {
        suits = u.suits;
        stands = subst (λ (c : CoreState). Stands c.plan c.entries) a.moved stands;
        begins = longer_begins J first (Sent s item) u.begins;
        patient = patient_sent P J s item u.patient;
        in_range = range_sent J s item u.in_range;
        no_fault = fault_after_sent P J s item u.no_fault;
        paid = paid_by_sent P J s item;
        catching = catching;
        no_other = no_other_after T law (λ i. free_items J i (heard i)) (λ i. free_items K i (heard i)) s.0 item id C D more stay u.come u.only_within (λ h. right) so u.no_other;
        come = come_sent T law (λ i. free_items J i (heard i)) (λ i. free_items K i (heard i)) s.0 item id C D more stay u.come u.only_within (λ h. right) so;
        only_within = only_sent T law (λ i. free_items J i (heard i)) (λ i. free_items K i (heard i)) s.0 item id C D more stay u.come u.only_within (λ h. right) so;
        log_right = u.log_right;
      })
