-- A message was heard of a simulator that had caught up, and the core took it: what goes on.
use Rattle.std.proofs.Common.{◌≡◌, ◌⊎◌, inl, inr, ℕ, ◌+◌, ◌<◌, ◌≤◌, true, false, List, [], ◌∷◌, ◌++◌, length, map, Option, Some, refl, sym, ap, ◌∙◌, subst, arith, length-append, true≢false}
use Rattle.mk_base.specs.declared.LinkNo.{LinkNo}
use Rattle.mk_base.specs.declared.SimNo.{SimNo}
use Rattle.mk_base.proofs.Lists.{some_same}
use Rattle.mk_plan.specs.declared.Plan.{Plan}
use Rattle.mk_plan.specs.declared.Item.{Item}
use Rattle.mk_plan.specs.declared.Item.TheVariants.{GetData}
use Rattle.mk_plan.specs.declared.Message.{Message}
use Rattle.mk_plan.specs.declared.Entry.{Entry}
use Rattle.mk_plan.specs.declared.Entry.TheVariants.{Sent, Got}
use Rattle.mk_plan.specs.Plans.{sim_count}
use Rattle.mk_plan.specs.Ready.{IsReady}
use Rattle.mk_plan.specs.Advance.{IsAdvance}
use Rattle.mk_plan.specs.Orderly.{IsOrderlySoFar}
use Rattle.mk_plan.specs.Turns.{wanted}
use Rattle.mk_plan.specs.Journals.{bare, got, sent}
use Rattle.mk_plan.specs.Sequential.{takes_id, id_after}
use Rattle.mk_order.proofs.Pushing.{orderly_front}
use Rattle.mk_outside.specs.declared.fleet.LogEntry.{LogEntry}
use Rattle.mk_sched.specs.Cores.{CoreState, Stands}
use Rattle.mk_sched.specs.Answers.{IsAnswered, IsQuiet, open_id, with_message}
use Rattle.mk_local.specs.Replies.{IsItemReplied}
use Rattle.mk_local.specs.Simulators.{Simulator}
use Rattle.mk_run_laws.specs.Handshake.{is_within, setup_count, sim_link}
use Rattle.mk_run_laws.specs.Channels.{Channel}
use Rattle.mk_run_laws.specs.Crews.{CrewState, IsHeard, IsSentWithin, kept_of, channel_at}
use Rattle.mk_run_laws.proofs.Saying.{link_there}
use Rattle.mk_run_laws.proofs.Stepping.{sent_got, got_here, linked_out}
use Rattle.mk_run_local.specs.Laws.{RepliesAreKinds}
use Rattle.mk_run_crew.specs.Seen.{CrewSeen, crew_of, is_here}
use Rattle.mk_run_crew.specs.Calls.{HasNext, SendsAs}
use Rattle.mk_run.specs.inner.Underway.{HaveComeBy, Setting, reply_in, exchange_at}
use Rattle.mk_run.proofs.Going.{here_is_within}
use Rattle.mk_run.proofs.LoopSteps.{answered_id, answered_opens, none_owed, owed_after}
use Rattle.mk_sched.proofs.Pushed.{fault_after_sent, patient_got, patient_sent}
use Rattle.mk_run.proofs.Pushed.{range_got, range_sent}
use Rattle.mk_resume_walk.specs.Talks.{free_items}
use Rattle.mk_resume_walk.proofs.Fronts.{free_alternate}
use Rattle.mk_resume_walk.proofs.UpTo.{free_all}
use Rattle.mk_resume_links.specs.Rests.{Counts}
use Rattle.mk_resume_links.specs.inner.Catching.{IsCatching, WasAwaited, awaited, one_more}
use Rattle.mk_resume_links.proofs.Catching.{catching_sent, more_away, more_here, new_on_link, new_within}
use Rattle.mk_resume_links.proofs.Closing.{kept_answered, kept_quiet, new_answered, new_quiet}
use Rattle.mk_resume_links.proofs.Growing.{free_got_away, free_got_here, free_sent_away, free_sent_here}
use Rattle.mk_resume_loop.specs.inner.Underway.{IsMet, IsResuming, saved_of}
use Rattle.mk_resume_loop.proofs.Asked.{longer_begins, paid_by_sent}
use Rattle.mk_resume_loop.proofs.Resting.{resting}
use Rattle.mk_resume_loop.proofs.Hearing.{met_back, met_fits, met_low, met_no_other, met_log_right, met_success}
use Rattle.mk_run.proofs.ItemSent.{come_as, come_sent, kept_so, no_other_after, not_here_is_outside, only_sent}
use Rattle.mk_run.proofs.SmallIds.{few_behind, small_next}
use Rattle.mk_base.proofs.Counts.{same_or_not}
use Rattle.mk_base.proofs.Bools.{true_or_false}

one_behind : (k n : ℕ) → (k ≡ n) ⊎ (k ≡ n + 1) → n < k → k ≡ n + 1
one_behind k n (inl p) more = absurd (omega (arith, p, more))
one_behind k n (inr p) more = p

caught_few : (n k : ℕ) → n ≡ k → k ≤ n
caught_few n k is = omega (arith, is)

module _ (T : Setting) (P : Plan) (first J : List Entry) (heard : Counts) (log : List LogEntry) (s : SimNo) (m : Message) (D : CrewState) (sims : List (Option Simulator)) (h : IsMet T P first J heard log s.0 m D sims) (caught : heard s.0 ≡ length (got J s.0)) where
  abbrev u : IsResuming T P first J heard h.before h.crew sims
  u = h.resuming

  abbrev K : List Entry
  K = J ++ Got s m ∷ []

  abbrev next : Counts
  next = one_more heard s.0

  few : length (got J s.0) ≤ heard s.0
  few = caught_few (heard s.0) (length (got J s.0)) caught

  pub few_then : length (got K s.0) ≤ heard s.0 + 1
  few_then = let a : length (got K s.0) ≡ length (got J s.0) + 1 = ap length (got_here J s m) ∙ length-append (got J s.0) (m ∷ []) in omega (arith, a, caught)

  -- the same is free with the message
  pub free_others : (i : ℕ) → (i ≡ s.0 → ⊥) → free_items J i (heard i) ≡ free_items K i (heard i)
  free_others i apart = sym (free_got_away J s m i (heard i) apart)

  pub free_here : free_items K s.0 (heard s.0 + 1) ≡ free_items J s.0 (heard s.0)
  free_here = free_got_here J s m (heard s.0) caught

  free_same : (i : ℕ) → free_items J i (heard i) ≡ free_items K i (next i)
  free_same i = elim (same_or_not i s.0) [
    | inl q ↦ subst (λ (j : ℕ). free_items J j (heard j) ≡ free_items K j (next j)) (sym q) (sym (ap (free_items K s.0) (more_here heard s.0) ∙ free_here))
    | inr apart ↦ free_others i apart ∙ ap (free_items K i) (sym (more_away heard s.0 i apart))
  ]

  -- a reply was the one to the last item
  was_last : WasAwaited T.scenario (reply_in T) J heard s.0 m D.kept → length (free_items J s.0 (heard s.0)) ≡ heard s.0 + 1
  was_last was = one_behind (length (free_items J s.0 (heard s.0))) (heard s.0) (free_alternate.at_most P J u.stands.orderly.0 u.no_fault s.0 (heard s.0) (let c = caught in omega (arith, c))) was.more

  pub quiet_catching : IsCatching (saved_of first) (exchange_at T log) T.replies P K next D
  quiet_catching = subst (λ (l : List LogEntry). IsCatching (saved_of first) (exchange_at T l) T.replies P K next D) (sym h.parts) (go h.met)
    where
      go : IsHeard h.entries s.0 m h.crew D → IsCatching (saved_of first) (exchange_at T (h.before ++ h.entries)) T.replies P K next D
      go (IsHeard.kept at channels none) =
          let t = new_within (saved_of first) T.started T.scenario T.replies (reply_in T) P J heard h.before h.entries h.crew D s m u.catching at channels none caught in
          kept_quiet (saved_of first) T.started T.scenario T.replies (reply_in T) P J K heard (h.before ++ h.entries) D s.0 m t.0 t.2 free_others free_here (was_last t.2)
      go (IsHeard.on_link none after w there moved parked) =
          let k = met_back T P first J heard log s m D sims h w there in
          let t = new_on_link (saved_of first) T.started T.scenario T.replies (reply_in T) P (awaited T.scenario (reply_in T) J heard) J heard h.before h.entries h.crew D s m k.0 u.catching (resting T P first J heard h.before h.crew sims u h.nobody none) k.1 none after moved parked caught in
          new_quiet (saved_of first) T.started T.scenario T.replies (reply_in T) P J heard (h.before ++ h.entries) D s m k.0 t.0 k.1 caught

  pub new_come : HaveComeBy T (λ i. free_items K i (next i)) sims
  new_come = come_as T (λ i. free_items J i (heard i)) (λ i. free_items K i (next i)) sims free_same u.come

-- nothing is owed
pub quiet_goes : (T : Setting) (core new : CoreState) (first : List Entry) (heard : Counts) (log : List LogEntry) (s : SimNo) (m : Message) (D : CrewState) (sims : List (Option Simulator)) → IsMet T core.plan first core.entries heard log s.0 m D sims → heard s.0 ≡ length (got core.entries s.0)
    → IsQuiet core s m new → Stands new.plan new.entries → IsResuming T new.plan first new.entries (one_more heard s.0) log D sims
quiet_goes T core new first heard log s m D sims h caught q stands = subst (λ (c : CoreState). IsResuming T c.plan first c.entries (one_more heard s.0) log D sims) (sym q.moved) (record {
  suits = u.suits;
  stands = subst (λ (c : CoreState). Stands c.plan c.entries) q.moved stands;
  begins = longer_begins J first (Got s m) u.begins;
  patient = patient_got P J s m u.patient h.nobody;
  in_range = range_got J s m u.in_range (met_fits T P first J heard log s m D sims h);
  no_fault = q.no_fault;
  paid = q.none_owed;
  catching = quiet_catching T P first J heard log s m D sims h caught;
  no_other = met_no_other T P first J heard log s m D sims h;
  come = new_come T P first J heard log s m D sims h caught;
  only_within = u.only_within;
  log_right = met_log_right T P first J heard log s m D sims h;
})
  where
    P : Plan
    P = core.plan

    J : List Entry
    J = core.entries

    u : IsResuming T P first J heard h.before h.crew sims
    u = h.resuming

-- an item is owed
module _ (T : Setting) (core new : CoreState) (first : List Entry) (heard : Counts) (log : List LogEntry) (s : SimNo) (m : Message) (C : CrewSeen) (h : IsMet T core.plan first core.entries heard log s.0 m (crew_of C) C.sims) (caught : heard s.0 ≡ length (got core.entries s.0))
    (a : IsAnswered core s m new) (stands : Stands new.plan new.entries) where
  abbrev v : IsResuming T core.plan first core.entries heard h.before h.crew C.sims
  v = h.resuming

  abbrev before : List Entry
  before = core.entries ++ Got s m ∷ []

  abbrev after : List Entry
  after = (core.entries ++ Got s m ∷ []) ++ Sent s a.item ∷ []

  abbrev free : ℕ → List Item
  free i = free_items core.entries i (heard i)

  abbrev free_then : ℕ → List Item
  free_then i = free_items after i (one_more heard s.0 i)

  -- the journal up to the message is orderly
  standing : IsOrderlySoFar IsReady IsAdvance core.plan (with_message core s m)
  standing = (orderly_front IsReady IsAdvance core.plan (with_message core s m) (Sent s a.item ∷ []) (subst (λ (c : CoreState). IsOrderlySoFar IsReady IsAdvance c.plan c.entries) a.moved stands.orderly.0)).0

  low : s.0 < sim_count core.plan
  low = met_low T core.plan first core.entries heard log s m (crew_of C) C.sims h

  free_now : free s.0 ≡ sent before s.0
  free_now = free_all core.entries s.0 (heard s.0) (few T core.plan first core.entries heard log s m (crew_of C) C.sims h caught) ∙ sym (sent_got core.entries s m s.0)

  numbered : (id : ℕ) → open_id new s.0 ≡ Some id → takes_id a.item ≡ true → id ≡ id_after (setup_count T.scenario s.0) (free s.0)
  numbered id opened takes = answered_id core new s m id v.stands standing a opened takes ∙ ap (λ (n : ℕ). id_after n (sent before s.0)) (v.suits.first s.0 low) ∙ ap (id_after (setup_count T.scenario s.0)) (sym free_now)

  pub answered_opened : (id : ℕ) × (open_id new s.0 ≡ Some id)
  answered_opened = answered_opens core new s m v.stands standing a

  -- a simulator within the program is owed a GetData
  pub owed_within : is_here C s.0 ≡ true → a.item ≡ GetData (wanted core.plan s.0)
  owed_within here =
      let fit = met_success T core.plan first core.entries heard log s m (crew_of C) C.sims h (here_is_within T C.sims s.0 v.only_within here) in
      (owed_after core.plan core.entries s m a.item (none_owed core.plan core.entries v.stands a.room.room) a.owed).after_success fit.id fit.content fit.is

  -- the crew takes it
  pub answered_replied : is_here C s.0 ≡ true → IsItemReplied a.item
  answered_replied here = subst IsItemReplied (sym (owed_within here)) tt

  -- what the message left on its link
  channel_now : (l : LinkNo) → sim_link T.started T.scenario s.0 ≡ Some l → (w : Channel) × (channel_at (crew_of C) s.0 ≡ Some w) × (w.next ≡ id_after (setup_count T.scenario s.0) (free s.0))
  channel_now l linked = go h.met
    where
      go : IsHeard h.entries s.0 m h.crew (crew_of C) → (w : Channel) × (channel_at (crew_of C) s.0 ≡ Some w) × (w.next ≡ id_after (setup_count T.scenario s.0) (free s.0))
      go (IsHeard.kept at channels none) =
          let t = new_within (saved_of first) T.started T.scenario T.replies (reply_in T) core.plan core.entries heard h.before h.entries h.crew (crew_of C) s m v.catching at channels none caught in
          absurd (true≢false (sym t.2.inside ∙ linked_out T.started T.scenario s.0 l linked))
      go (IsHeard.on_link none late w there moved parked) =
          let t = new_on_link (saved_of first) T.started T.scenario T.replies (reply_in T) core.plan (awaited T.scenario (reply_in T) core.entries heard) core.entries heard h.before h.entries h.crew (crew_of C) s m l v.catching (resting T core.plan first core.entries heard h.before h.crew C.sims v h.nobody none) linked none late moved parked caught in
          let g = t.0.touch.channels s.0 l linked in
          (g.channel, g.there, g.in_step.next_id)

  pub answered_linked : (id : ℕ) → open_id new s.0 ≡ Some id → is_here C s.0 ≡ false → HasNext a.item id s.0 C
  answered_linked id opened away =
      let t = link_there T.started T.scenario s.0 (subst (λ (n : ℕ). s.0 < n) v.suits.sims low) (not_here_is_outside T free C.sims s.0 v.come away) in
      let g = channel_now t.0 t.1 in
      (g.0, g.1, small_next T core.plan core.entries v.suits v.stands s.0 low (free s.0) (subst (λ (xs : List Item). length xs ≤ length core.entries + 1) (sym free_now) (few_behind core.entries (Got s m) s.0)) (g.0).next g.2, λ takes. numbered id opened takes ∙ sym g.2)

  -- and once it was sent the run goes on
  module _ (law : RepliesAreKinds) (D : CrewSeen) (id : ℕ) (opened : open_id new s.0 ≡ Some id) (so : SendsAs s.0 a.item id C D) where
    right : is_here C s.0 ≡ true → id ≡ id_after (setup_count T.scenario s.0) (free s.0)
    right here = numbered id opened (subst (λ (item : Item). takes_id item ≡ true) (sym (owed_within here)) refl)

    here_more : free_items after s.0 (heard s.0 + 1) ≡ free s.0 ++ a.item ∷ []
    here_more = free_sent_here before s a.item (heard s.0 + 1) (few_then T core.plan first core.entries heard log s m (crew_of C) C.sims h caught)
        ∙ ap (λ (l : List Item). l ++ a.item ∷ []) (free_here T core.plan first core.entries heard log s m (crew_of C) C.sims h caught)

    more : free_then s.0 ≡ free s.0 ++ a.item ∷ []
    more = ap (free_items after s.0) (more_here heard s.0) ∙ here_more

    others : (i : ℕ) → (i ≡ s.0 → ⊥) → free i ≡ free_items after i (heard i)
    others i apart = free_others T core.plan first core.entries heard log s m (crew_of C) C.sims h caught i apart ∙ sym (free_sent_away before s a.item i (heard i) apart)

    stay : (i : ℕ) → (i ≡ s.0 → ⊥) → free_then i ≡ free i
    stay i apart = ap (free_items after i) (more_away heard s.0 i apart) ∙ sym (others i apart)

    catching : IsCatching (saved_of first) (exchange_at T (h.before ++ h.entries)) T.replies core.plan after (one_more heard s.0) (crew_of D)
    catching = go h.met
      where
        next_id : (l : LinkNo) → sim_link T.started T.scenario s.0 ≡ Some l → (w : Channel) → channel_at (crew_of C) s.0 ≡ Some w → takes_id a.item ≡ true → id ≡ w.next
        next_id l linked w there takes = let g = channel_now l linked in numbered id opened takes ∙ sym g.2 ∙ ap (λ (x : Channel). x.next) (some_same (sym g.1 ∙ there))

        inside_kept : is_within T.scenario s.0 ≡ true → IsSentWithin s.0 (reply_in T s.0 (map bare (free_items after s.0 (heard s.0 + 1)))) (crew_of C) (crew_of D)
        inside_kept inside = elim (true_or_false (is_here C s.0)) [
          | inl here ↦ subst (λ (n : ℕ). IsSentWithin s.0 (reply_in T s.0 (map bare (free_items after s.0 n))) (crew_of C) (crew_of D)) (more_here heard s.0) (kept_so T law free free_then s.0 a.item id C D more stay v.come v.only_within right so here).1
          | inr away ↦ absurd (true≢false (sym inside ∙ not_here_is_outside T free C.sims s.0 v.come away))
        ]

        go : IsHeard h.entries s.0 m h.crew (crew_of C) → IsCatching (saved_of first) (exchange_at T (h.before ++ h.entries)) T.replies core.plan after (one_more heard s.0) (crew_of D)
        go (IsHeard.kept at channels none) =
            let t = new_within (saved_of first) T.started T.scenario T.replies (reply_in T) core.plan core.entries heard h.before h.entries h.crew (crew_of C) s m v.catching at channels none caught in
            let l = catching_sent (saved_of first) T.started T.scenario T.replies (reply_in T) core.plan free (λ i. kept_of i C.kept) before (one_more heard s.0) (h.before ++ h.entries) (crew_of C) s a.item t.0 t.1 in
            kept_answered (saved_of first) T.started T.scenario T.replies (reply_in T) core.plan core.entries after heard (h.before ++ h.entries) (crew_of C) (crew_of D) s.0 m a.item l.0 l.1 t.2 others here_more
            (was_last T core.plan first core.entries heard log s m (crew_of C) C.sims h caught t.2) (inside_kept t.2.inside)
        go (IsHeard.on_link none late w there moved parked) =
            let k = met_back T core.plan first core.entries heard log s m (crew_of C) C.sims h w there in
            let t = new_on_link (saved_of first) T.started T.scenario T.replies (reply_in T) core.plan (awaited T.scenario (reply_in T) core.entries heard) core.entries heard h.before h.entries h.crew (crew_of C) s m k.0 v.catching (resting T core.plan first core.entries heard h.before h.crew C.sims v h.nobody none) k.1 none late moved parked caught in
            new_answered (saved_of first) T.started T.scenario T.replies (reply_in T) core.plan core.entries heard (h.before ++ h.entries) (crew_of C) (crew_of D) s m a.item id k.0 t.0 t.1 k.1 caught
            (so.on_link (outside k.0 k.1)).0 (next_id k.0 k.1)
          where
            outside : (l : LinkNo) → sim_link T.started T.scenario s.0 ≡ Some l → is_here C s.0 ≡ false
            outside l linked = elim (true_or_false (is_here C s.0)) [
              | inl here ↦ absurd (true≢false (sym (here_is_within T C.sims s.0 v.only_within here) ∙ linked_out T.started T.scenario s.0 l linked))
              | inr away ↦ away
            ]

    pub answered_goes : IsResuming T new.plan first new.entries (one_more heard s.0) log (crew_of D) D.sims
    answered_goes = subst (λ (c : CoreState). IsResuming T c.plan first c.entries (one_more heard s.0) log (crew_of D) D.sims) (sym a.moved) (record {
      suits = v.suits;
      stands = subst (λ (c : CoreState). Stands c.plan c.entries) a.moved stands;
      begins = longer_begins before first (Sent s a.item) (longer_begins core.entries first (Got s m) v.begins);
      patient = patient_sent core.plan before s a.item (patient_got core.plan core.entries s m v.patient h.nobody);
      in_range = range_sent before s a.item (range_got core.entries s m v.in_range (met_fits T core.plan first core.entries heard log s m (crew_of C) C.sims h));
      no_fault = fault_after_sent core.plan before s a.item a.no_fault;
      paid = paid_by_sent core.plan before s a.item;
      catching = subst (λ (l : List LogEntry). IsCatching (saved_of first) (exchange_at T l) T.replies core.plan after (one_more heard s.0) (crew_of D)) (sym h.parts) catching;
      no_other = no_other_after T law free free_then s.0 a.item id C D more stay v.come v.only_within right so (met_no_other T core.plan first core.entries heard log s m (crew_of C) C.sims h);
      come = come_sent T law free free_then s.0 a.item id C D more stay v.come v.only_within right so;
      only_within = only_sent T law free free_then s.0 a.item id C D more stay v.come v.only_within right so;
      log_right = met_log_right T core.plan first core.entries heard log s m (crew_of C) C.sims h;
    })
