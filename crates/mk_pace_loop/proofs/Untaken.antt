-- A message was heard, and the run ends.
use Rattle.std.proofs.Common.{◌≡◌, ◌⊎◌, inl, inr, ℕ, ◌+◌, ◌<◌, ◌≤◌, true, List, [], ◌∷◌, ◌++◌, length, filter, Option, Some, None, is_some, refl, sym, ap, ◌∙◌, subst, arith, length-append, true≢false}
use Rattle.mk_base.specs.declared.LinkNo.{LinkNo}
use Rattle.mk_base.specs.declared.SimNo.{SimNo}
use Rattle.mk_base.specs.Lists.{BeginsWith}
use Rattle.mk_base.proofs.Lists.{append_nil, none_some}
use Rattle.mk_plan.specs.declared.Entry.{Entry}
use Rattle.mk_plan.specs.declared.Entry.TheVariants.{Got}
use Rattle.mk_plan.specs.declared.Item.{Item}
use Rattle.mk_plan.specs.declared.Message.{Message}
use Rattle.mk_plan.specs.declared.Plan.{Plan}
use Rattle.mk_plan.specs.Journals.{OpenTurn, got, sent, view}
use Rattle.mk_plan.specs.Plans.{sim_count}
use Rattle.mk_plan.specs.Sequential.{takes_id}
use Rattle.mk_outside.specs.declared.fleet.LogEntry.{LogEntry}
use Rattle.mk_sched.specs.declared.faults.CoreFault.{CoreFault}
use Rattle.mk_sched.specs.Cores.{CoreState, Stands}
use Rattle.mk_sched.specs.Answers.{IsFaulty, IsOutOfMemory, IsUnanswered, IsUntaken, WasFaulty}
use Rattle.mk_run_laws.specs.Crews.{IsHeard}
use Rattle.mk_run_laws.specs.Handshake.{is_within, sim_link}
use Rattle.mk_run_laws.specs.Kinds.{KeepsToKinds}
use Rattle.mk_run_laws.specs.inner.Running.{HasChannel}
use Rattle.mk_run_laws.proofs.Stepping.{sent_got, got_given, given_here}
use Rattle.mk_run_links.specs.Entries.{IsRunLink}
use Rattle.mk_run_links.proofs.OnEntries.{no_rests}
use Rattle.mk_run_crew.specs.Seen.{CrewSeen, crew_of}
use Rattle.mk_run.specs.declared.outcome.Outcome.{Outcome}
use Rattle.mk_run.specs.declared.outcome.Outcome.TheVariants as outcome
use Rattle.mk_onlooker.specs.Showings.{AreInRange}
use Rattle.mk_run.specs.Ends.{IsAwaiting, IsBrokenOff, IsOpenWithin, fault_named}
use Rattle.mk_sched.specs.inner.Patient.{IsPatient}
use Rattle.mk_run.specs.inner.Underway.{Setting, reply_in}
use Rattle.mk_sched.proofs.Pushed.{patient_got}
use Rattle.mk_run.proofs.Pushed.{got_front, range_got}
use Rattle.mk_pace_laws.specs.declared.end.PaceEnd.TheVariants as pace
use Rattle.mk_pace_laws.specs.Ends.{QueuedOut}
use Rattle.mk_pace_laws.specs.Moments.{AreMoments, before_step, moments_of, sent_out}
use Rattle.mk_pace_laws.specs.Naps.{AreAllLinked, AreNaps}
use Rattle.mk_pace_loop.specs.inner.PacedOut.{EndsOutcome, HasPacedOut, IsAheadPaced, IsLastPacedChannel}
use Rattle.mk_pace_loop.specs.inner.Pacing.{IsPacing}
use Rattle.mk_pace_loop.specs.inner.Turns.{IsPast, IsStopping}
use Rattle.mk_pace_loop.specs.inner.Waiting.{WaitingSeen, timing_of}
use Rattle.mk_run.proofs.Endings.{limit_unnamed}
use Rattle.mk_pace_loop.proofs.Ending.{linked_low, queued_itself, sent_is, within_low}
use Rattle.mk_pace_loop.proofs.Meeting.{met_fits, met_kinds, met_channels, met_looks, met_moments, met_naps, met_naps_before, met_no_other, met_replied, met_timely, met_told, taken_kept}
use Rattle.mk_pace_loop.proofs.Passing.{moments_later, on_later, origin_later, setup_later}

module _ (S : Setting) (core : CoreState) (log : List LogEntry) (s : SimNo) (m : Message) (D : CrewSeen) (W : WaitingSeen) (h : IsPast S core log s m D W) where
  abbrev P : Plan
  P = core.plan

  abbrev J : List Entry
  J = core.entries

  abbrev K : List Entry
  K = core.entries ++ Got s m ∷ []

  abbrev L : List LogEntry
  L = h.before ++ h.entries

  p : IsPacing S core.plan core.entries h.before h.crew D.sims W
  p = h.pacing

  channels_now : (i : ℕ) (l : LinkNo) → sim_link S.started S.scenario i ≡ Some l → HasChannel S.scenario S.replies L i l (got K i) (p.queued i) (crew_of D)
  channels_now = met_channels S W.tempo W.strict P J h.before h.entries h.crew (crew_of D) D.sims W.holds W.moments p s m h.nobody h.of_links h.fit h.heard

  -- it is left, where the journal doesn't get it
  met_left : IsAheadPaced S J L (crew_of D) ⊎ IsOpenWithin S.scenario P J
  met_left = go h.heard
    where
      opens : (o : Option OpenTurn) → is_some o ≡ true → o ≡ None → ⊥
      opens o some none = true≢false (sym some ∙ ap (λ (q : Option OpenTurn). is_some q) none)

      go : IsHeard h.entries s.0 m h.crew (crew_of D) → IsAheadPaced S J L (crew_of D) ⊎ IsOpenWithin S.scenario P J
      go (IsHeard.kept is channels none) =
          let t = taken_kept S W.tempo W.strict P J h.before h.entries h.crew (crew_of D) D.sims W.holds W.moments p s m h.nobody h.of_links h.fit h.heard is in
          inr (record { sim = s.0; within = t.inside; opened = opens ((view P J).open_at s.0) t.opened })
      go (IsHeard.on_link none after w there moved parked) =
          let t = p.no_other s.0 w there in
          let w = p.holding s.0 (linked_low S W.tempo W.strict P J h.before h.crew D.sims W.holds W.moments p s.0 t.0 t.1) in
          inl (record {
            sim = s;
            message = m;
            link = t.0;
            linked = t.1;
            items = p.queued s.0;
            queued = (w.waiting, w.items);
            channel = subst (λ (ms : List Message). HasChannel S.scenario S.replies L s.0 t.0 ms (p.queued s.0) (crew_of D)) (got_given J s m s.0 ∙ ap (λ (l : List Message). got J s.0 ++ l) (given_here s.0 m)) (channels_now s.0 t.0 t.1);
          })

  -- the run ends with this journal, which has sent what it had sent before
  module _ (N : List Entry) (same : (i : ℕ) → sent N i ≡ sent J i) (given : (i : ℕ) → BeginsWith (got K i) (got N i)) (end : Outcome) where
    out_is : (i : ℕ) → i < sim_count P → sent_out N W.moments i ≡ p.queued i
    out_is i low = ap (before_step (length (moments_of i W.moments))) (same i) ∙ sent_is S W.tempo W.strict P J h.before h.crew D.sims W.holds W.moments p i low

    last_channel : (i : ℕ) (l : LinkNo) → sim_link S.started S.scenario i ≡ Some l → IsLastPacedChannel S (timing_of W) N L (crew_of D) (pace.Outcome end) i l
    last_channel i l linked =
        let low = linked_low S W.tempo W.strict P J h.before h.crew D.sims W.holds W.moments p i l linked in
        let t = p.holding i low in
        record {
          messages = got K i;
          items = p.queued i;
          channel = channels_now i l linked;
          given = given i;
          queued = (t.waiting, same i ∙ t.items);
          out = subst (λ (all : List Item). QueuedOut (pace.Outcome end) all (p.queued i)) (sym (out_is i low)) (queued_itself (pace.Outcome end) (p.queued i));
          told = met_told S W.tempo W.strict P J h.before h.entries h.crew (crew_of D) D.sims W.holds W.moments p s m h.nobody h.of_links h.fit h.heard i;
          timely = met_timely S W.tempo W.strict P J h.before h.entries h.crew (crew_of D) D.sims W.holds W.moments p s m h.nobody h.of_links h.fit h.heard i l linked;
        }

    few_got : (i : ℕ) → is_within S.scenario i ≡ true → length (got N i) ≤ length (filter takes_id (sent_out N W.moments i))
    few_got i inside =
        let counted = met_replied S W.tempo W.strict P J h.before h.entries h.crew (crew_of D) D.sims W.holds W.moments p s m h.nobody h.of_links h.fit h.heard i inside in
        let out : length (filter takes_id (sent_out N W.moments i)) ≡ length (filter takes_id (p.queued i)) =
        ap (λ (l : List Item). length (filter takes_id l)) (out_is i (within_low S W.tempo W.strict P J h.before h.crew D.sims W.holds W.moments p i inside)) in
        let more : length (got K i) ≡ length (got N i) + length (given i).0 = ap length (given i).1 ∙ length-append (got N i) (given i).0 in
        omega (arith, counted, out, more)

    ends_with : Stands P N → IsPatient P N → AreInRange N → KeepsToKinds (reply_in S) (is_within S.scenario) P N → AreMoments W.tempo W.strict N L W.moments → (AreAllLinked S.scenario → AreNaps S.started S.scenario S.replies P W.tempo N L)
        → (view P N).fault ≡ fault_named end → (IsBrokenOff end → IsAwaiting P N) → EndsOutcome ⊥ S P N L (crew_of D) end → HasPacedOut ⊥ S (timing_of W) P N L (crew_of D) (pace.Outcome end)
    ends_with stands patient in_range kinds moments naps fault unfinished ends = record {
      suits = p.suits;
      stands = stands;
      patient = patient;
      in_range = in_range;
      kinds = kinds;
      channels = last_channel;
      no_other = met_no_other S W.tempo W.strict P J h.before h.entries h.crew (crew_of D) D.sims W.holds W.moments p s m h.nobody h.of_links h.fit h.heard;
      origin = origin_later S.started S.scenario h.before h.entries W.tempo.origin p.origin;
      moments_are = moments;
      within = few_got;
      setup_rests = setup_later S.started S.scenario h.before h.entries (no_rests (IsRunLink S.started S.scenario) h.entries h.of_links) p.setup_rests;
      on_links = on_later S.started S.scenario h.before h.entries p.on_links h.of_links;
      naps = naps;
      looks = met_looks S W.tempo W.strict P J h.before h.entries h.crew (crew_of D) D.sims W.holds W.moments p s m h.nobody h.of_links h.fit h.heard;
      ends = ends;
      fault = fault;
      unfinished = unfinished;
    }

  -- the core hasn't taken it
  untaken : (end : Outcome) → None ≡ fault_named end → (IsBrokenOff end → IsAwaiting P J) → EndsOutcome ⊥ S P J L (crew_of D) end → HasPacedOut ⊥ S (timing_of W) P J L (crew_of D) (pace.Outcome end)
  untaken end unnamed unfinished ends = ends_with J (λ i. refl) (got_front J (Got s m)) end p.stands p.patient p.in_range p.kinds (moments_later W.tempo W.strict J h.before h.entries W.moments p.moments_are)
      (met_naps_before S W.tempo W.strict P J h.before h.entries h.crew (crew_of D) D.sims W.holds W.moments p s m h.nobody h.of_links h.fit h.heard) (p.no_fault ∙ unnamed) unfinished ends

  -- it is the journal's last entry
  faulty : (end : Outcome) → Stands P K → (view P K).fault ≡ fault_named end → (IsBrokenOff end → IsAwaiting P K) → EndsOutcome ⊥ S P K L (crew_of D) end → HasPacedOut ⊥ S (timing_of W) P K L (crew_of D) (pace.Outcome end)
  faulty end stands fault unfinished ends = ends_with K (sent_got J s m) (λ i. ([], sym (append_nil (got K i)))) end stands (patient_got P J s m p.patient h.nobody)
      (range_got J s m p.in_range (met_fits S W.tempo W.strict P J h.before h.entries h.crew (crew_of D) D.sims W.holds W.moments p s m h.nobody h.of_links h.fit h.heard))
      (met_kinds S W.tempo W.strict P J h.before h.entries h.crew (crew_of D) D.sims W.holds W.moments p s m h.nobody h.of_links h.fit h.heard)
      (met_moments S W.tempo W.strict P J h.before h.entries h.crew (crew_of D) D.sims W.holds W.moments p s m h.nobody h.of_links h.fit h.heard)
      (met_naps S W.tempo W.strict P J h.before h.entries h.crew (crew_of D) D.sims W.holds W.moments p s m h.nobody h.of_links h.fit h.heard []) fault unfinished ends

  -- over the whole log
  at_log : (new : CoreState) (end : Outcome) → HasPacedOut ⊥ S (timing_of W) new.plan new.entries L (crew_of D) (pace.Outcome end) → IsStopping ⊥ S new log D W (pace.Outcome end)
  at_log new end e = subst (λ (l : List LogEntry). HasPacedOut ⊥ S (timing_of W) new.plan new.entries l (crew_of D) (pace.Outcome end)) (sym h.parts) e

  pub fault_ends : (new : CoreState) (f : CoreFault) → core.ended ≡ None → Stands new.plan new.entries → WasFaulty core f new ⊎ (IsUntaken core f new ⊎ (IsFaulty core s m f new ⊎ IsUnanswered core s m f new)) → IsStopping ⊥ S new log D W (pace.Outcome (outcome.Core f))
  fault_ends new f going stands (inl was) = absurd (none_some (sym going ∙ was.0))
  fault_ends new f going stands (inr (inl un)) = subst (λ (c : CoreState). IsStopping ⊥ S c log D W (pace.Outcome (outcome.Core f))) (sym un.ended)
      (at_log core (outcome.Core f) (untaken (outcome.Core f) (limit_unnamed f core.plan.entries un.named) (λ broken. absurd broken)
      (inr (record { named = un.named; full = un.full; no_fault = p.no_fault; more = inr (inr (met_left, (h.opened, h.nobody))) }))))
  fault_ends new f going stands (inr (inr (inl bad))) = at_log new (outcome.Core f) (subst (λ (c : CoreState). HasPacedOut ⊥ S (timing_of W) c.plan c.entries L (crew_of D) (pace.Outcome (outcome.Core f))) (sym bad.ended)
      (faulty (outcome.Core f) (subst (λ (c : CoreState). Stands c.plan c.entries) bad.ended stands) bad.made (λ broken. absurd broken)
      (inl (record { before = J; sim = s; message = m; is = refl; right_before = p.no_fault; named = bad.named; fault = bad.made }))))
  fault_ends new f going stands (inr (inr (inr un))) = at_log new (outcome.Core f) (subst (λ (c : CoreState). HasPacedOut ⊥ S (timing_of W) c.plan c.entries L (crew_of D) (pace.Outcome (outcome.Core f))) (sym un.ended)
      (faulty (outcome.Core f) (subst (λ (c : CoreState). Stands c.plan c.entries) un.ended stands) (un.no_fault ∙ limit_unnamed f core.plan.entries un.named) (λ broken. absurd broken)
      (inr (record { named = un.named; full = un.full; no_fault = un.no_fault; more = inl un.owed }))))

  pub untaken_for_memory : (new : CoreState) → IsOutOfMemory core new → IsStopping ⊥ S new log D W (pace.Outcome outcome.Mem)
  untaken_for_memory new o = at_log new outcome.Mem (subst (λ (c : CoreState). HasPacedOut ⊥ S (timing_of W) c.plan c.entries L (crew_of D) (pace.Outcome outcome.Mem)) (sym o.ended)
      (untaken outcome.Mem refl (λ broken. absurd broken) tt))
