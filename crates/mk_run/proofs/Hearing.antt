-- What a message that was heard makes of a run.
use Rattle.std.proofs.Common.{◌≡◌, ◌⊎◌, inl, inr, ℕ, ◌<◌, Bool, true, false, ◌&&◌, List, [], ◌∷◌, ◌++◌, length, map, Option, Some, None, is_some, refl, sym, ap, ◌∙◌, subst, if◌then◌else◌, true≢false}
use Rattle.std.specs.List.{cons_option}
use Rattle.mk_base.specs.declared.LinkNo.{LinkNo}
use Rattle.mk_base.specs.declared.SimNo.{SimNo}
use Rattle.mk_base.proofs.Lists.{none_some}
use Rattle.mk_plan.specs.declared.Plan.{Plan}
use Rattle.mk_plan.specs.declared.Item.{Item}
use Rattle.mk_plan.specs.declared.Item.TheVariants.{GetData}
use Rattle.mk_plan.specs.declared.Message.{Message}
use Rattle.mk_plan.specs.declared.Entry.{Entry}
use Rattle.mk_plan.specs.declared.Entry.TheVariants.{Sent, Got}
use Rattle.mk_plan.specs.Plans.{sim_count}
use Rattle.mk_plan.specs.Ready.{IsReady}
use Rattle.mk_plan.specs.Advance.{IsAdvance}
use Rattle.mk_plan.specs.Orderly.{IsOrderlySoFar}
use Rattle.mk_order.proofs.Pushing.{orderly_front}
use Rattle.mk_plan.specs.Turns.{wanted}
use Rattle.mk_plan.specs.Journals.{Arrival, OpenTurn, view, sent, bare}
use Rattle.mk_plan.specs.Sequential.{takes_id, id_after}
use Rattle.mk_scenario.specs.declared.parts.Scenario.{Scenario}
use Rattle.mk_outside.specs.declared.fleet.LogEntry.{LogEntry}
use Rattle.mk_message.proofs.Ranges.{read_in_range}
use Rattle.mk_sched.specs.Cores.{CoreState, Stands}
use Rattle.mk_sched.specs.Answers.{IsQuiet, IsAnswered, open_id, with_message}
use Rattle.mk_local.specs.Replies.{IsItemReplied}
use Rattle.mk_local.specs.Simulators.{Simulator}
use Rattle.mk_run_laws.specs.Hearing.{Takes}
use Rattle.mk_run_laws.specs.Handshake.{setup_count, sim_link, is_within}
use Rattle.mk_run_laws.specs.Channels.{Channel}
use Rattle.mk_run_laws.specs.Kinds.{Replies}
use Rattle.mk_run_laws.specs.Crews.{CrewState, channel_at, kept_of, given_by, IsMovedAt, IsHeard, IsSentWithin}
use Rattle.mk_run_laws.specs.inner.Running.{awaited, IsRunning, IsRunningWith}
use Rattle.mk_run_laws.proofs.Saying.{link_there}
use Rattle.mk_run_laws.proofs.Stepping.{but, heard, sent_got}
use Rattle.mk_run_local.specs.Calls.{IsFitSuccess}
use Rattle.mk_run_local.specs.Laws.{HasCome, RepliesAreKinds}
use Rattle.mk_run_crew.specs.Seen.{CrewSeen, crew_of, is_here}
use Rattle.mk_run_crew.specs.Calls.{HasNext, SendsAs}
use Rattle.mk_onlooker.specs.Showings.{AreInRange}
use Rattle.mk_run.specs.Ends.{IsOpenWithin}
use Rattle.mk_sched.specs.inner.Patient.{IsPatient}
use Rattle.mk_run.specs.inner.Underway.{Setting, reply_in, Suits, HasNoOther, HaveCome, IsLogRight, IsUnderway, HasHeard, IsAhead}
use Rattle.mk_run.proofs.LoopSteps.{none_owed, owed_after, answered_opens, answered_id, taken_quietly, taken_on_link, taken_inside}
use Rattle.mk_run.proofs.Going.{here_is_within, not_here_is_outside, kept_so, come_sent, only_sent, log_right_on, no_other_after}
use Rattle.mk_run.proofs.InRange.{success_in_range}
use Rattle.mk_run.proofs.Linked.{linked_outside, within_below, no_other_heard}
use Rattle.mk_sched.proofs.Pushed.{patient_sent, patient_got, fault_after_sent}
use Rattle.mk_run.proofs.Pushed.{range_sent, range_got}
use Rattle.mk_run.proofs.SmallIds.{few_behind, small_next}
use Rattle.mk_base.proofs.Counts.{same_self}
use Rattle.mk_plan.specs.Messages.{is_message_in_range}
use Rattle.mk_base.proofs.Bools.{true_or_false}

-- a reply that is kept is awaited of a simulator within the program, at which a request is open
kept_awaited : (S : Scenario) (reply : Replies) (P : Plan) (J : List Entry) (s : ℕ) (m : Message) (kept more : List Arrival) → kept_of s kept ≡ awaited S reply P J s → kept ≡ record { sim = s; message = m } ∷ more
    → (is_within S s ≡ true) × (is_some ((view P J).open_at s) ≡ true)
kept_awaited S reply P J s m kept more is front = by_cases (is_within S s) (is_some ((view P J).open_at s)) refl refl
    (ap (λ (b : Bool). cons_option (if b then Some m else None) (kept_of s more)) (sym (same_self s)) ∙ ap (kept_of s) (sym front) ∙ is)
  where
    apart : {X : Type 0} {x : X} {xs : List X} → x ∷ xs ≡ [] → ⊥
    apart e = cc

    by_cases : (a b : Bool) → is_within S s ≡ a → is_some ((view P J).open_at s) ≡ b → m ∷ kept_of s more ≡ (if a && b then reply s (map bare (sent J s)) ∷ [] else []) → (is_within S s ≡ true) × (is_some ((view P J).open_at s) ≡ true)
    by_cases true true e f h = (e, f)
    by_cases true false e f h = absurd (apart h)
    by_cases false b e f h = absurd (apart h)

-- the one message that was taken off a channel was read from a payload
pub taken_read : (held : List ℕ) (ms : List Message) (left : List ℕ) (m : Message) → Takes held ms left → ms ≡ m ∷ [] → is_message_in_range m ≡ true
taken_read held ms left m (Takes.none _) e = absurd (apart e)
  where
    apart : [] ≡ m ∷ [] → ⊥
    apart e = cc
taken_read held ms left m (Takes.more _ payload rest _ n ns begins read takes) e = subst (λ (x : Message). is_message_in_range x ≡ true) (same e) (read_in_range payload n read)
  where
    same : n ∷ ns ≡ m ∷ [] → n ≡ m
    same e = cc

module _ (T : Setting) (P : Plan) (J : List Entry) (log : List LogEntry) (s : SimNo) (m : Message) (D : CrewState) (sims : List (Option Simulator)) (h : HasHeard T P J log s.0 m D sims) where
  u : IsUnderway T P J h.before h.crew sims
  u = h.underway

  -- it is of a simulator of the plan
  pub heard_low : s.0 < sim_count P
  heard_low = go h.heard
    where
      in_plan : s.0 < length T.scenario.sims → s.0 < sim_count P
      in_plan low = subst (λ (n : ℕ). s.0 < n) (sym u.suits.sims) low

      go : IsHeard h.entries s.0 m h.crew D → s.0 < sim_count P
      go (IsHeard.kept is channels none) = in_plan (within_below T.scenario s.0 (kept_awaited T.scenario (reply_in T) P J s.0 m h.crew.kept D.kept (u.running.kept s.0) is).0)
      go (IsHeard.on_link none after w there moved parked) = let t = u.no_other s.0 w there in in_plan (linked_outside T.started T.scenario s.0 t.0 t.1).1

  -- its numbers are in range
  pub heard_fits : is_message_in_range m ≡ true
  heard_fits = go h.heard
    where
      by_channel : (o p : Option Channel) (w : Channel) → o ≡ Some w → IsMovedAt h.entries (given_by s.0 m s.0) o p → is_message_in_range m ≡ true
      by_channel None p w e moved = absurd (none_some e)
      by_channel (Some v) None w e moved = absurd moved
      by_channel (Some v) (Some x) w e moved = taken_read _ (given_by s.0 m s.0) _ m moved.taken (ap (λ (b : Bool). if b then m ∷ [] else []) (same_self s.0))

      go : IsHeard h.entries s.0 m h.crew D → is_message_in_range m ≡ true
      go (IsHeard.kept is channels none) = success_in_range m (h.fit (record { sim = s.0; message = m }) D.kept is)
      go (IsHeard.on_link none after w there moved parked) = by_channel (channel_at h.crew s.0) (channel_at D s.0) w there (moved s.0)

  pub heard_in_range : is_message_in_range m ≡ true
  heard_in_range = heard_fits

  -- that of a simulator within the program is a success
  pub heard_success : is_within T.scenario s.0 ≡ true → IsFitSuccess m
  heard_success inside = go h.heard
    where
      go : IsHeard h.entries s.0 m h.crew D → IsFitSuccess m
      go (IsHeard.kept is channels none) = h.fit (record { sim = s.0; message = m }) D.kept is
      go (IsHeard.on_link none after w there moved parked) = absurd (none_some (sym (u.running.no_channel s.0 inside) ∙ there))

  back : (w : Channel) → channel_at h.crew s.0 ≡ Some w → (l : LinkNo) × (sim_link T.started T.scenario s.0 ≡ Some l)
  back w there = u.no_other s.0 w there

  -- crew and journal, once the message is an entry
  pub heard_running : IsRunningWith (but T.started T.scenario T.replies (reply_in T) P s.0 (awaited T.scenario (reply_in T) P J)) T.started T.scenario T.replies (reply_in T) P (J ++ Got s m ∷ []) log D
  heard_running = subst (λ (l : List LogEntry). IsRunningWith (but T.started T.scenario T.replies (reply_in T) P s.0 (awaited T.scenario (reply_in T) P J)) T.started T.scenario T.replies (reply_in T) P (J ++ Got s m ∷ []) l D) (sym h.parts)
      (heard T.started T.scenario T.replies (reply_in T) P J h.before h.entries h.crew D s m u.running (λ i x ready. h.nobody (i, x, ready)) h.heard back)

  -- it is left, where the journal doesn't get it
  pub heard_left : IsAhead T J log D ⊎ IsOpenWithin T.scenario P J
  heard_left = go h.heard
    where
      go : IsHeard h.entries s.0 m h.crew D → IsAhead T J log D ⊎ IsOpenWithin T.scenario P J
      go (IsHeard.kept is channels none) =
          let t = kept_awaited T.scenario (reply_in T) P J s.0 m h.crew.kept D.kept (u.running.kept s.0) is in
          inr (record { sim = s.0; within = t.0; opened = λ shut. true≢false (sym t.1 ∙ ap (λ (o : Option OpenTurn). is_some o) shut) })
      go (IsHeard.on_link none after w there moved parked) =
          let t = back w there in
          inl (record { sim = s; message = m; link = t.0; linked = t.1; channel = heard_running.channels s.0 t.0 t.1 })

  pub heard_no_other : HasNoOther T D
  heard_no_other = no_other_heard T h.entries s.0 m h.crew D h.heard u.no_other

  pub heard_come : HaveCome T (J ++ Got s m ∷ []) sims
  heard_come i within = let t = u.come i within in (t.0, t.1, subst (λ (items : List Item). HasCome T.rows T.scenario i items t.0) (sym (sent_got J s m i)) t.2)

  pub heard_log_right : IsLogRight T log
  heard_log_right = subst (IsLogRight T) (sym h.parts) (log_right_on T P J h.before h.entries h.crew u.suits u.running u.log_right h.on_links)

-- the core took the message, and nothing is owed
pub quiet_goes : (T : Setting) (core new : CoreState) (log : List LogEntry) (s : SimNo) (m : Message) (D : CrewState) (sims : List (Option Simulator)) → HasHeard T core.plan core.entries log s.0 m D sims → IsQuiet core s m new → Stands new.plan new.entries
    → IsUnderway T new.plan new.entries log D sims
quiet_goes T core new log s m D sims h q stands = record {
  suits = subst (λ (c : CoreState). Suits T c.plan) (sym q.moved) u.suits;
  stands = stands;
  patient = subst (λ (c : CoreState). IsPatient c.plan c.entries) (sym q.moved) (patient_got P J s m u.patient h.nobody);
  in_range = subst (λ (c : CoreState). AreInRange c.entries) (sym q.moved) (range_got J s m u.in_range (heard_fits T P J log s m D sims h));
  no_fault = subst (λ (c : CoreState). (view c.plan c.entries).fault ≡ None) (sym q.moved) q.no_fault;
  running = subst (λ (l : List LogEntry). IsRunning T.started T.scenario T.replies (reply_in T) new.plan new.entries l D) (sym h.parts)
      (taken_quietly T.started T.scenario T.replies (reply_in T) core new h.before h.entries h.crew D s m u.stands u.running h.nobody h.heard (λ w there. u.no_other s.0 w there) q);
  no_other = heard_no_other T P J log s m D sims h;
  come = subst (λ (c : CoreState). HaveCome T c.entries sims) (sym q.moved) (heard_come T P J log s m D sims h);
  only_within = u.only_within;
  log_right = heard_log_right T P J log s m D sims h;
}
  where
    P : Plan
    P = core.plan

    J : List Entry
    J = core.entries

    u : IsUnderway T P J h.before h.crew sims
    u = h.underway

-- the core took the message, and owes an item
module _ (T : Setting) (core new : CoreState) (log : List LogEntry) (s : SimNo) (m : Message) (C : CrewSeen) (h : HasHeard T core.plan core.entries log s.0 m (crew_of C) C.sims) (a : IsAnswered core s m new) (stands : Stands new.plan new.entries) where
  -- the journal up to the message is orderly
  standing : IsOrderlySoFar IsReady IsAdvance core.plan (with_message core s m)
  standing = (orderly_front IsReady IsAdvance core.plan (with_message core s m) (Sent s a.item ∷ []) (subst (λ (c : CoreState). IsOrderlySoFar IsReady IsAdvance c.plan c.entries) a.moved stands.orderly.0)).0

  v : IsUnderway T core.plan core.entries h.before h.crew C.sims
  v = h.underway

  low : s.0 < sim_count core.plan
  low = heard_low T core.plan core.entries log s m (crew_of C) C.sims h

  come : HaveCome T (core.entries ++ Got s m ∷ []) C.sims
  come = heard_come T core.plan core.entries log s m (crew_of C) C.sims h

  numbered : (id : ℕ) → open_id new s.0 ≡ Some id → takes_id a.item ≡ true → id ≡ id_after (setup_count T.scenario s.0) (sent (core.entries ++ Got s m ∷ []) s.0)
  numbered id opened takes = answered_id core new s m id v.stands standing a opened takes ∙ ap (λ (n : ℕ). id_after n (sent (core.entries ++ Got s m ∷ []) s.0)) (v.suits.first s.0 low)

  pub answered_opened : (id : ℕ) × (open_id new s.0 ≡ Some id)
  answered_opened = answered_opens core new s m v.stands standing a

  -- a simulator within the program is owed a GetData
  pub owed_within : is_here C s.0 ≡ true → a.item ≡ GetData (wanted core.plan s.0)
  owed_within here =
      let fit = heard_success T core.plan core.entries log s m (crew_of C) C.sims h (here_is_within T C.sims s.0 v.only_within here) in
      (owed_after core.plan core.entries s m a.item (none_owed core.plan core.entries v.stands a.room.room) a.owed).after_success fit.id fit.content fit.is

  -- the crew takes it
  pub answered_replied : is_here C s.0 ≡ true → IsItemReplied a.item
  answered_replied here = subst IsItemReplied (sym (owed_within here)) tt

  pub answered_linked : (id : ℕ) → open_id new s.0 ≡ Some id → is_here C s.0 ≡ false → HasNext a.item id s.0 C
  answered_linked id opened away =
      let t = link_there T.started T.scenario s.0 (subst (λ (n : ℕ). s.0 < n) v.suits.sims low) (not_here_is_outside T core.entries C.sims s.0 v.come away) in
      let g = (heard_running T core.plan core.entries log s m (crew_of C) C.sims h).channels s.0 t.0 t.1 in
      (g.channel, g.there, small_next T core.plan core.entries v.suits v.stands s.0 low (sent (core.entries ++ Got s m ∷ []) s.0) (few_behind core.entries (Got s m) s.0) g.channel.next g.in_step.next_id, λ takes. numbered id opened takes ∙ sym g.in_step.next_id)

  -- and once it was sent the run goes on
  module _ (law : RepliesAreKinds) (D : CrewSeen) (id : ℕ) (opened : open_id new s.0 ≡ Some id) (so : SendsAs s.0 a.item id C D) where
    right : is_here C s.0 ≡ true → id ≡ id_after (setup_count T.scenario s.0) (sent (core.entries ++ Got s m ∷ []) s.0)
    right here = numbered id opened (subst (λ (item : Item). takes_id item ≡ true) (sym (owed_within here)) refl)

    running : IsRunning T.started T.scenario T.replies (reply_in T) new.plan new.entries (h.before ++ h.entries) (crew_of D)
    running = elim (true_or_false (is_here C s.0)) [
      | inl here ↦ let t = kept_so T law (core.entries ++ Got s m ∷ []) s a.item id C D come v.only_within right so here in
          taken_inside T.started T.scenario T.replies (reply_in T) core new h.before h.entries h.crew (crew_of C) (crew_of D) s m v.stands v.running h.nobody h.heard (λ w there. v.no_other s.0 w there) a t.0
          (subst (λ (c : CoreState). IsSentWithin s.0 (reply_in T s.0 (map bare (sent c.entries s.0))) (crew_of C) (crew_of D)) (sym a.moved) t.1)
      | inr away ↦ let q = so.on_link away in let t = heard_no_other T core.plan core.entries log s m (crew_of C) C.sims h s.0 q.0.channel q.0.there in
          taken_on_link T.started T.scenario T.replies (reply_in T) core new h.before h.entries h.crew (crew_of C) (crew_of D) s m id t.0 v.stands standing v.running h.nobody h.heard (λ w there. v.no_other s.0 w there) a t.1 (v.suits.first s.0 low) opened q.0
    ]

    pub answered_goes : IsUnderway T new.plan new.entries log (crew_of D) D.sims
    answered_goes = record {
      suits = subst (λ (c : CoreState). Suits T c.plan) (sym a.moved) v.suits;
      stands = stands;
      patient = subst (λ (c : CoreState). IsPatient c.plan c.entries) (sym a.moved) (patient_sent core.plan (core.entries ++ Got s m ∷ []) s a.item (patient_got core.plan core.entries s m v.patient h.nobody));
      in_range = subst (λ (c : CoreState). AreInRange c.entries) (sym a.moved)
          (range_sent (core.entries ++ Got s m ∷ []) s a.item (range_got core.entries s m v.in_range (heard_fits T core.plan core.entries log s m (crew_of C) C.sims h)));
      no_fault = subst (λ (c : CoreState). (view c.plan c.entries).fault ≡ None) (sym a.moved) (fault_after_sent core.plan (core.entries ++ Got s m ∷ []) s a.item a.no_fault);
      running = subst (λ (l : List LogEntry). IsRunning T.started T.scenario T.replies (reply_in T) new.plan new.entries l (crew_of D)) (sym h.parts) running;
      no_other = no_other_after T law (core.entries ++ Got s m ∷ []) s a.item id C D come v.only_within right so (heard_no_other T core.plan core.entries log s m (crew_of C) C.sims h);
      come = subst (λ (c : CoreState). HaveCome T c.entries D.sims) (sym a.moved) (come_sent T law (core.entries ++ Got s m ∷ []) s a.item id C D come v.only_within right so);
      only_within = only_sent T law (core.entries ++ Got s m ∷ []) s a.item id C D come v.only_within right so;
      log_right = heard_log_right T core.plan core.entries log s m (crew_of C) C.sims h;
    }
