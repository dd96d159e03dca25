-- What the steps of a run's loop keep.
use Rattle.std.proofs.Common.{◌≡◌, inl, inr, ℕ, ◌+◌, ◌<◌, true, false, List, [], ◌∷◌, ◌++◌, length, map, Option, Some, None, is_some, sym, ap, ◌∙◌, subst, arith, length-append}
use Rattle.mk_base.specs.declared.LinkNo.{LinkNo}
use Rattle.mk_base.specs.declared.SimNo.{SimNo}
use Rattle.mk_plan.specs.declared.Plan.{Plan}
use Rattle.mk_plan.specs.declared.Item.{Item}
use Rattle.mk_plan.specs.declared.Item.TheVariants.{Step}
use Rattle.mk_plan.specs.declared.Message.{Message}
use Rattle.mk_plan.specs.declared.Entry.{Entry}
use Rattle.mk_plan.specs.declared.Entry.TheVariants.{Sent}
use Rattle.mk_plan.specs.Plans.{sim_count, first_id}
use Rattle.mk_plan.specs.Journals.{view, sent, got, bare}
use Rattle.mk_plan.specs.Sequential.{id_after}
use Rattle.mk_outside.specs.declared.fleet.LogEntry.{LogEntry}
use Rattle.mk_outside.specs.declared.fleet.LogEntry.TheVariants.{Rest}
use Rattle.mk_outside.specs.Logs.{heard_on}
use Rattle.mk_sched.specs.Cores.{CoreState, Stands}
use Rattle.mk_sched.specs.Answers.{IsAsked, open_id}
use Rattle.mk_local.specs.Replies.{IsItemReplied}
use Rattle.mk_local.specs.Simulators.{Simulator}
use Rattle.mk_run_laws.specs.Hearing.{messages_heard}
use Rattle.mk_run_laws.specs.Handshake.{setup_count, is_within}
use Rattle.mk_run_laws.specs.Crews.{CrewState, IsSentWithin}
use Rattle.mk_run_laws.specs.Rests.{AllSetUp}
use Rattle.mk_run_laws.specs.inner.Running.{IsRunning}
use Rattle.mk_run_laws.proofs.Saying.{link_there}
use Rattle.mk_run_laws.proofs.Stepping.{first_or_second, sent_away, sent_here}
use Rattle.mk_run_laws.proofs.Taking.{takes_on, taken_heard}
use Rattle.mk_run_links.specs.Entries.{AreOn, IsRunLink}
use Rattle.mk_run_links.proofs.OnEntries.{on_more}
use Rattle.mk_run_local.specs.Laws.{RepliesAreKinds}
use Rattle.mk_run_crew.specs.Seen.{CrewSeen, crew_of, is_here}
use Rattle.mk_run_crew.specs.Calls.{HasNext, SendsAs}
use Rattle.mk_onlooker.specs.Showings.{AreInRange}
use Rattle.mk_run.specs.Ends.{SetupRestsWell}
use Rattle.mk_sched.specs.inner.Patient.{IsPatient}
use Rattle.mk_run.specs.inner.Underway.{Setting, reply_in, Suits, HasNoOther, HaveCome, IsLogRight, IsUnderway, local_at}
use Rattle.mk_run.proofs.LoopSteps.{asked_link, asked_inside, asked_opens, asked_id, asked_ready}
use Rattle.mk_sched.proofs.Pushed.{fault_after_sent, patient_sent}
use Rattle.mk_run.proofs.Pushed.{range_sent}
use Rattle.mk_run.proofs.Times.{ready_time}
use Rattle.mk_run.specs.inner.Underway.{IsOnlyWithin}
use Rattle.mk_run.proofs.ItemSent as item_sent
use Rattle.mk_run.proofs.SmallIds.{few_more, few_sent, small_next}
use Rattle.mk_base.proofs.Bools.{true_or_false}
use Rattle.mk_outside.proofs.OnLogs.{heard-append}
pub use Rattle.mk_run.proofs.ItemSent.{here_is_within}

module _ (T : Setting) where
  -- ---- an item was sent

  pub not_here_is_outside : (J : List Entry) (sims : List (Option Simulator)) (i : ℕ) → HaveCome T J sims → is_some (local_at sims i) ≡ false → is_within T.scenario i ≡ false
  not_here_is_outside J = item_sent.not_here_is_outside T (sent J)

  module _ (law : RepliesAreKinds) (J : List Entry) (s : SimNo) (item : Item) (id : ℕ) (C D : CrewSeen) (come : HaveCome T J C.sims) (only : IsOnlyWithin T C.sims)
      (right : is_here C s.0 ≡ true → id ≡ id_after (setup_count T.scenario s.0) (sent J s.0)) (so : SendsAs s.0 item id C D) where
    abbrev after : ℕ → List Item
    after = sent (J ++ Sent s item ∷ [])

    pub kept_so : (here : is_here C s.0 ≡ true) → (is_within T.scenario s.0 ≡ true) × IsSentWithin s.0 (reply_in T s.0 (map bare (sent (J ++ Sent s item ∷ []) s.0))) (crew_of C) (crew_of D)
    kept_so = item_sent.kept_so T law (sent J) after s.0 item id C D (sent_here J s item) (sent_away J s item) come only right so

    pub come_sent : HaveCome T (J ++ Sent s item ∷ []) D.sims
    come_sent = item_sent.come_sent T law (sent J) after s.0 item id C D (sent_here J s item) (sent_away J s item) come only right so

    pub only_sent : IsOnlyWithin T D.sims
    only_sent = item_sent.only_sent T law (sent J) after s.0 item id C D (sent_here J s item) (sent_away J s item) come only right so

    pub no_other_after : HasNoOther T (crew_of C) → HasNoOther T (crew_of D)
    no_other_after = item_sent.no_other_after T law (sent J) after s.0 item id C D (sent_here J s item) (sent_away J s item) come only right so

  -- ---- the handshake's rests: once the run goes on, all have set up

  pub all_set_up : (P : Plan) (J : List Entry) (log : List LogEntry) (C : CrewState) → Suits T P → IsRunning T.started T.scenario T.replies (reply_in T) P J log C → (less : List LogEntry) → AllSetUp T.started T.scenario (log ++ less)
  all_set_up P J log C suits run less i l linked =
      let h = run.channels i l linked in
      let ms : List Message = T.replies i ++ got J i in
      let t = takes_on (heard_on h.channel.link log) ms h.channel.held (heard_on h.channel.link less) h.in_step.heard in
      let heard : messages_heard (heard_on l (log ++ less)) ≡ ms ++ messages_heard (h.channel.held ++ heard_on h.channel.link less) =
      ap (λ (k : LinkNo). messages_heard (heard_on k (log ++ less))) (sym h.link) ∙ ap messages_heard (heard-append h.channel.link log less)
      ∙ taken_heard (heard_on h.channel.link log ++ heard_on h.channel.link less) ms (h.channel.held ++ heard_on h.channel.link less) t in
      let a : length (messages_heard (heard_on l (log ++ less))) ≡ length ms + length (messages_heard (h.channel.held ++ heard_on h.channel.link less)) = ap length heard ∙ length-append ms (messages_heard (h.channel.held ++ heard_on h.channel.link less)) in
      let b : length ms ≡ length (T.replies i) + length (got J i) = length-append (T.replies i) (got J i) in
      let c : length (T.replies i) ≡ setup_count T.scenario i = suits.counts i l linked in
      omega (arith, a, b, c)

  setup_rests_on : (P : Plan) (J : List Entry) (log entries : List LogEntry) (C : CrewState) → Suits T P → IsRunning T.started T.scenario T.replies (reply_in T) P J log C → SetupRestsWell T.started T.scenario log → SetupRestsWell T.started T.scenario (log ++ entries)
  setup_rests_on P J log entries C suits run rests before after is not_up = elim (first_or_second log entries before after Rest is) [
    | inl t ↦ rests before t.0 t.1 not_up
    | inr t ↦ absurd (not_up (subst (AllSetUp T.started T.scenario) (sym t.1) (all_set_up P J log C suits run t.0)))
  ]

  pub log_right_on : (P : Plan) (J : List Entry) (log entries : List LogEntry) (C : CrewState) → Suits T P → IsRunning T.started T.scenario T.replies (reply_in T) P J log C → IsLogRight T log → AreOn (IsRunLink T.started T.scenario) entries → IsLogRight T (log ++ entries)
  log_right_on P J log entries C suits run right more = record {
    setup_rests = setup_rests_on P J log entries C suits run right.setup_rests;
    on_links = on_more (IsRunLink T.started T.scenario) log entries right.on_links more;
  }

  -- ---- whoever is asked

  module _ (old new : CoreState) (log : List LogEntry) (C : CrewSeen) (s : SimNo) (u : IsUnderway T old.plan old.entries log (crew_of C) C.sims) (stands : Stands new.plan new.entries) (a : IsAsked old s new) where
    abbrev item : Item
    item = Step a.at a.inputs a.advance

    pub asked_low : s.0 < sim_count old.plan
    asked_low = (ready_time old.plan u.stands.valid old.entries u.stands.orderly.0 s.0 a.at (asked_ready old new s u.stands a)).2

    abbrev next : ℕ
    next = id_after (first_id old.plan s.0) (sent old.entries s.0)

    numbered : next ≡ id_after (setup_count T.scenario s.0) (sent old.entries s.0)
    numbered = ap (λ (n : ℕ). id_after n (sent old.entries s.0)) (u.suits.first s.0 asked_low)

    pub asked_opened : open_id new s.0 ≡ Some (id_after (first_id old.plan s.0) (sent old.entries s.0))
    asked_opened = asked_opens old new s u.stands a

    -- the crew takes the Step
    pub asked_replied : is_here C s.0 ≡ true → IsItemReplied (Step a.at a.inputs a.advance)
    asked_replied here = let t = ready_time old.plan u.stands.valid old.entries u.stands.orderly.0 s.0 a.at (asked_ready old new s u.stands a) in (t.0, t.1)

    pub asked_linked : is_here C s.0 ≡ false → HasNext (Step a.at a.inputs a.advance) (id_after (first_id old.plan s.0) (sent old.entries s.0)) s.0 C
    asked_linked away =
        let t = link_there T.started T.scenario s.0 (subst (λ (n : ℕ). s.0 < n) u.suits.sims asked_low) (not_here_is_outside old.entries C.sims s.0 u.come away) in
        let h = u.running.channels s.0 t.0 t.1 in
        (h.channel, h.there, small_next T old.plan old.entries u.suits u.stands s.0 asked_low (sent old.entries s.0) (few_more (few_sent old.entries s.0)) h.channel.next h.in_step.next_id, λ takes. numbered ∙ sym h.in_step.next_id)

    -- and once it was sent the run goes on
    module _ (law : RepliesAreKinds) (D : CrewSeen) (id : ℕ) (opened : open_id new s.0 ≡ Some id) (so : SendsAs s.0 (Step a.at a.inputs a.advance) id C D) where
      right : id ≡ id_after (setup_count T.scenario s.0) (sent old.entries s.0)
      right = asked_id old new s id u.stands a opened ∙ numbered

      running : IsRunning T.started T.scenario T.replies (reply_in T) new.plan new.entries log (crew_of D)
      running = elim (true_or_false (is_here C s.0)) [
        | inl here ↦ let t = kept_so law old.entries s item id C D u.come u.only_within (λ h. right) so here in
            asked_inside T.started T.scenario T.replies (reply_in T) old new log (crew_of C) (crew_of D) s u.stands u.running a t.0
            (subst (λ (c : CoreState). IsSentWithin s.0 (reply_in T s.0 (map bare (sent c.entries s.0))) (crew_of C) (crew_of D)) (sym a.moved) t.1)
        | inr away ↦ let q = so.on_link away in let t = u.no_other s.0 q.0.channel q.0.there in
            asked_link T.started T.scenario T.replies (reply_in T) old new log (crew_of C) (crew_of D) s id t.0 u.stands u.running a t.1 (u.suits.first s.0 asked_low) opened q.0
      ]

      pub asked_goes : IsUnderway T new.plan new.entries log (crew_of D) D.sims
      asked_goes = record {
        suits = subst (λ (c : CoreState). Suits T c.plan) (sym a.moved) u.suits;
        stands = stands;
        patient = subst (λ (c : CoreState). IsPatient c.plan c.entries) (sym a.moved) (patient_sent old.plan old.entries s item u.patient);
        in_range = subst (λ (c : CoreState). AreInRange c.entries) (sym a.moved) (range_sent old.entries s item u.in_range);
        no_fault = subst (λ (c : CoreState). (view c.plan c.entries).fault ≡ None) (sym a.moved) (fault_after_sent old.plan old.entries s item u.no_fault);
        running = running;
        no_other = no_other_after law old.entries s item id C D u.come u.only_within (λ h. right) so u.no_other;
        come = subst (λ (c : CoreState). HaveCome T c.entries D.sims) (sym a.moved) (come_sent law old.entries s item id C D u.come u.only_within (λ h. right) so);
        only_within = only_sent law old.entries s item id C D u.come u.only_within (λ h. right) so;
        log_right = u.log_right;
      }
