-- What a resumed run comes to, by each of its ends.
use Rattle.std.proofs.Common.{◌≡◌, ◌⊎◌, inl, inr, ℕ, ◌<◌, max, true, List, [], ◌∷◌, ◌++◌, length, map, slice_get, Option, Some, None, refl, sym, ap, ◌∙◌, subst, arith, true≢false}
use Rattle.mk_base.specs.declared.LinkNo.{LinkNo}
use Rattle.mk_base.specs.declared.SimNo.{SimNo}
use Rattle.mk_base.specs.Lists.{IsIn}
use Rattle.mk_base.proofs.Lists.{some_same, none_some, append_nil, in_back}
use Rattle.mk_plan.specs.declared.Plan.{Plan}
use Rattle.mk_plan.specs.declared.Item.{Item}
use Rattle.mk_plan.specs.declared.Message.{Message}
use Rattle.mk_plan.specs.declared.Entry.{Entry}
use Rattle.mk_plan.specs.declared.Entry.TheVariants.{Got}
use Rattle.mk_plan.specs.Journals.{bare, got, view}
use Rattle.mk_frame.specs.Frames.{IsTooLong}
use Rattle.mk_outside.specs.declared.fleet.LogEntry.{LogEntry}
use Rattle.mk_outside.specs.declared.fleet.LogEntry.TheVariants.{Ended}
use Rattle.mk_outside.specs.Logs.{is_read}
use Rattle.mk_session.specs.Fronts.{BeginsGarbled}
use Rattle.mk_sched.specs.declared.faults.CoreFault.{CoreFault}
use Rattle.mk_sched.specs.Cores.{CoreState, Stands}
use Rattle.mk_sched.specs.Answers as sched
use Rattle.mk_sched.specs.Answers.{SomeReady, IsOutOfMemory, IsFaulty, IsUntaken, IsUnanswered, WasFaulty}
use Rattle.mk_local.specs.Simulators.{Simulator}
use Rattle.mk_run_laws.specs.Hearing.{first_message}
use Rattle.mk_run_laws.specs.Handshake.{sim_link, is_within}
use Rattle.mk_run_laws.specs.Channels.{Channel}
use Rattle.mk_run_laws.specs.Crews.{CrewState, channel_at, kept_of, given_by, IsHeard, IsUnheard}
use Rattle.mk_run_laws.specs.inner.Running.{HasChannel}
use Rattle.mk_run_laws.proofs.Taking.{unfinished_none, long_none, none_first, garbled_none}
use Rattle.mk_run_laws.proofs.Stepping.{linked_out, given_here}
use Rattle.mk_run_links.specs.declared.answers.LinkHalt.{LinkHalt}
use Rattle.mk_run_links.specs.declared.answers.LinkHalt.TheVariants as link_halt
use Rattle.mk_run_links.specs.Entries.{AreOn}
use Rattle.mk_run_links.specs.Halts.{ShowsHalt}
use Rattle.mk_run_links.specs.Places.{IsChannelLink}
use Rattle.mk_run_links.proofs.OnEntries.{on_run}
use Rattle.mk_run_crew.specs.Seen.{CrewSeen, crew_of}
use Rattle.mk_run_crew.specs.Calls.{halt_of}
use Rattle.mk_run.specs.declared.outcome.Outcome.{Outcome}
use Rattle.mk_run.specs.declared.outcome.Outcome.TheVariants as outcome
use Rattle.mk_run.specs.Outcomes.{outcome_of}
use Rattle.mk_run.specs.inner.Underway.{Setting, reply_in, HasNoOther, exchange_at}
use Rattle.mk_run.proofs.Linked.{no_other_moved}
use Rattle.mk_sched.proofs.Pushed.{patient_got}
use Rattle.mk_run.proofs.Pushed.{range_got}
use Rattle.mk_run.specs.Ends.{fault_named}
use Rattle.mk_run.proofs.Endings.{limit_unnamed, none_named, queued_itself}
use Rattle.mk_resume_walk.specs.Talks.{free_items}
use Rattle.mk_resume_links.specs.Rests.{Counts, repeated}
use Rattle.mk_resume_links.specs.Running.{RestsEnd}
use Rattle.mk_resume_links.specs.inner.Catching.{IsCatching, IsCatchingWith, awaited, one_more}
use Rattle.mk_resume_links.specs.inner.Touching.{IsInTouch}
use Rattle.mk_resume_links.proofs.Catching.{apart_on_link, apart_within, catching_unheard}
use Rattle.mk_resume_links.proofs.Growing.{repeated_away}
use Rattle.mk_resume_links.proofs.Touching.{seen_as}
use Rattle.mk_resume_links.proofs.Waiting.{over_so_far, so_far_end}
use Rattle.mk_resume_loop.specs.declared.ending.ResumeEnd.{ResumeEnd}
use Rattle.mk_resume_loop.specs.declared.ending.ResumeEnd.TheVariants as ends
use Rattle.mk_resume_loop.specs.Resumed.{IsCutOff, IsRunWaiting, QueuedAllAt, SomeToCome, fault_at}
use Rattle.mk_resume_loop.specs.inner.Ending.{EndsBy, HasEnded, HasGiven, IsAhead, IsLastChannel, IsLeftNow}
use Rattle.mk_resume_loop.specs.inner.Underway.{IsMet, IsResuming, saved_of}
use Rattle.mk_resume_loop.proofs.Asked.{longer_begins}
use Rattle.mk_resume_loop.proofs.Resting.{resting}
use Rattle.mk_resume_loop.proofs.Hearing.{met_back, met_fits, met_no_other, met_log_right, log_right_on}
use Rattle.mk_resume_loop.proofs.New.{quiet_catching}
use Rattle.mk_run_crew.proofs.Halting.{last_in}

early_of : (g s n : ℕ) → g ≡ max s n → n < g → n < s
early_of g s n is low = omega (arith, is, low)

module _ (T : Setting) (first : List Entry) where
  -- channels in step with the journal
  channels_in_step : (end : ResumeEnd) → ((items : List Item) → QueuedAllAt end items items) → (J : List Entry) (heard : Counts) (log : List LogEntry) (C : CrewState)
      → ((i : ℕ) (l : LinkNo) → sim_link T.started T.scenario i ≡ Some l → HasChannel T.scenario T.replies log i l (repeated J i (heard i)) (free_items J i (heard i)) C)
      → (i : ℕ) (l : LinkNo) → sim_link T.started T.scenario i ≡ Some l → IsLastChannel T J heard log C end i l
  channels_in_step end all J heard log C channels i l linked = record {
    messages = repeated J i (heard i);
    items = free_items J i (heard i);
    channel = channels i l linked;
    given = ([], sym (append_nil (repeated J i (heard i))));
    queued = ([], sym (append_nil (free_items J i (heard i))));
    queued_all = all (free_items J i (heard i));
  }

  -- the run ends where it is
  pub ends_here : (risen : Type 0) (P : Plan) (J : List Entry) (heard : Counts) (log : List LogEntry) (C : CrewState) (sims : List (Option Simulator)) (o : Outcome) → IsResuming T P first J heard log C sims → None ≡ fault_named o → (IsCutOff (ends.Outcome o) → IsRunWaiting P J heard)
      → EndsBy risen T P first J heard log C (ends.Outcome o) → HasEnded risen T P first J heard log C (ends.Outcome o)
  ends_here risen P J heard log C sims o u unnamed unfinished shown = record {
    suits = u.suits;
    stands = u.stands;
    begins = u.begins;
    patient = u.patient;
    in_range = u.in_range;
    counts = u.catching.counts;
    kinds = u.catching.kinds;
    channels = channels_in_step (ends.Outcome o) (queued_itself o) J heard log C u.catching.touch.channels;
    no_other = u.no_other;
    rests = so_far_end (saved_of first) T.started T.scenario T.replies P J log C.kept u.catching.rests;
    log_right = u.log_right;
    ends = shown;
    fault = u.no_fault ∙ unnamed;
    unfinished = unfinished;
  }

  -- nothing is left to do, and all have caught up
  pub done_ends : (risen : Type 0) (P : Plan) (J : List Entry) (heard : Counts) (log : List LogEntry) (C : CrewState) (sims : List (Option Simulator)) → IsResuming T P first J heard log C sims → EndsBy risen T P first J heard log C (ends.Outcome outcome.Done)
      → HasEnded risen T P first J heard log C (ends.Outcome outcome.Done)
  done_ends risen P J heard log C sims u shown = ends_here risen P J heard log C sims outcome.Done u refl (λ broken. absurd broken) shown

  -- there is no room for a Step
  pub full_ends : (risen : Type 0) (old new : CoreState) (f : CoreFault) (heard : Counts) (log : List LogEntry) (C : CrewState) (sims : List (Option Simulator)) → old.ended ≡ None → IsResuming T old.plan first old.entries heard log C sims → WasFaulty old f new ⊎ sched.IsFull old f new
      → HasEnded risen T new.plan first new.entries heard log C (ends.Outcome (outcome.Core f))
  full_ends risen old new f heard log C sims going u (inl was) = absurd (none_some (sym going ∙ was.0))
  full_ends risen old new f heard log C sims going u (inr full) = subst (λ (c : CoreState). HasEnded risen T c.plan first c.entries heard log C (ends.Outcome (outcome.Core f))) (sym full.ended)
      (ends_here risen old.plan old.entries heard log C sims (outcome.Core f) u (limit_unnamed f old.plan.entries full.named) (λ broken. absurd broken) (inr (record { named = full.named; full = full.full; no_fault = u.no_fault; more = inr (inl full.ready) })))

  -- the core wants memory for what is next
  pub mem_ends : (risen : Type 0) (old new : CoreState) (heard : Counts) (log : List LogEntry) (C : CrewState) (sims : List (Option Simulator)) → IsResuming T old.plan first old.entries heard log C sims → IsOutOfMemory old new → HasEnded risen T new.plan first new.entries heard log C (ends.Outcome outcome.Mem)
  mem_ends risen old new heard log C sims u o = subst (λ (c : CoreState). HasEnded risen T c.plan first c.entries heard log C (ends.Outcome outcome.Mem)) (sym o.ended) (ends_here risen old.plan old.entries heard log C sims outcome.Mem u refl (λ broken. absurd broken) tt)

  -- ---- a message wasn't taken, or made a fault

  module _ (risen : Type 0) (core new : CoreState) (heard : Counts) (log : List LogEntry) (s : SimNo) (m : Message) (D : CrewState) (sims : List (Option Simulator)) (h : IsMet T core.plan first core.entries heard log s.0 m D sims) where
    abbrev P : Plan
    P = core.plan

    abbrev J : List Entry
    J = core.entries

    abbrev u : IsResuming T P first J heard h.before h.crew sims
    u = h.resuming

    -- what was given by then: the message stands behind those that were sent again
    pub record HasLeft : Type 0 where
      pub touch : IsInTouch (λ i. repeated J i (heard i) ++ given_by s.0 m i) (λ i. free_items J i (heard i)) (λ i. kept_of i D.kept) T.started T.scenario T.replies log D
      pub rests : RestsEnd (saved_of first) T.started T.scenario T.replies P J log
      pub came : ((l : LinkNo) × (sim_link T.started T.scenario s.0 ≡ Some l)) ⊎ ((is_within T.scenario s.0 ≡ true) × (m ≡ reply_in T s.0 (map bare (free_items J s.0 (heard s.0)))) × (heard s.0 < length (free_items J s.0 (heard s.0))))

    pub left : HasLeft
    left = go h.met
      where
        go : IsHeard h.entries s.0 m h.crew D → HasLeft
        go (IsHeard.kept is channels none) =
            let t = apart_within (saved_of first) T.started T.scenario T.replies (reply_in T) P J heard h.before h.entries h.crew D s.0 m u.catching is channels none in record {
              touch = subst (λ (k : List LogEntry). IsInTouch (λ i. repeated J i (heard i) ++ given_by s.0 m i) (λ i. free_items J i (heard i)) (λ i. kept_of i D.kept) T.started T.scenario T.replies k D) (sym h.parts)
                  (seen_as T.started T.scenario T.replies (λ i. repeated J i (heard i)) (λ i. repeated J i (heard i) ++ given_by s.0 m i) (λ i. free_items J i (heard i)) (λ i. free_items J i (heard i)) (λ i. kept_of i D.kept) (λ i. kept_of i D.kept) (h.before ++ h.entries) D t.0
                  (λ i l linked. repeated_away J s.0 m i (heard i) (λ q. true≢false (sym t.2.inside ∙ ap (is_within T.scenario) (sym q) ∙ linked_out T.started T.scenario i l linked))) (λ i l linked. refl) (λ i. refl));
              rests = subst (RestsEnd (saved_of first) T.started T.scenario T.replies P J) (sym h.parts)
                  (so_far_end (saved_of first) T.started T.scenario T.replies P J (h.before ++ h.entries) D.kept (over_so_far (saved_of first) T.started T.scenario T.replies P J (h.before ++ h.entries) D.kept t.1));
              came = inr (t.2.inside, t.2.is, t.2.more);
            }
        go (IsHeard.on_link none after w there moved parked) =
            let t = apart_on_link (saved_of first) T.started T.scenario T.replies (reply_in T) P (awaited T.scenario (reply_in T) J heard) J heard h.before h.entries h.crew D s.0 m u.catching (resting T P first J heard h.before h.crew sims u h.nobody none) none after moved parked in record {
              touch = subst (λ (k : List LogEntry). IsInTouch (λ i. repeated J i (heard i) ++ given_by s.0 m i) (λ i. free_items J i (heard i)) (λ i. kept_of i D.kept) T.started T.scenario T.replies k D) (sym h.parts)
                  (seen_as T.started T.scenario T.replies (λ i. repeated J i (heard i) ++ given_by s.0 m i) (λ i. repeated J i (heard i) ++ given_by s.0 m i) (λ i. free_items J i (heard i)) (λ i. free_items J i (heard i)) (awaited T.scenario (reply_in T) J heard) (λ i. kept_of i D.kept) (h.before ++ h.entries) D t.0
                  (λ i l linked. refl) (λ i l linked. refl) (λ i. sym (t.0.kept i)));
              rests = subst (RestsEnd (saved_of first) T.started T.scenario T.replies P J) (sym h.parts) (so_far_end (saved_of first) T.started T.scenario T.replies P J (h.before ++ h.entries) D.kept t.1);
              came = inl (met_back T P first J heard log s m D sims h w there);
            }

    ahead : (l : LinkNo) → sim_link T.started T.scenario s.0 ≡ Some l → IsAhead T J heard log D s.0 m
    ahead l linked = record {
      link = l;
      linked = linked;
      channel = subst (λ (ms : List Message). HasChannel T.scenario T.replies log s.0 l ms (free_items J s.0 (heard s.0)) D) (ap (λ (ms : List Message). repeated J s.0 (heard s.0) ++ ms) (given_here s.0 m)) (left.touch.channels s.0 l linked);
    }

    -- it is left, where its simulator had caught up
    pub left_now : heard s.0 ≡ length (got J s.0) → IsLeftNow T J heard log D
    left_now caught = (s.0, caught, elim left.came [ inl t ↦ inl (m, ahead t.0 t.1) | inr t ↦ inr (record { within = t.0; more = t.2 }) ])

    -- the core hasn't taken it
    pub untaken_ends : (end : ResumeEnd) → None ≡ fault_at end → ((items : List Item) → QueuedAllAt end items items) → (IsCutOff end → IsRunWaiting P J heard) → EndsBy risen T P first J heard log D end → HasEnded risen T P first J heard log D end
    untaken_ends end unnamed all unfinished shown = record {
      suits = u.suits;
      stands = u.stands;
      begins = u.begins;
      patient = u.patient;
      in_range = u.in_range;
      counts = u.catching.counts;
      kinds = u.catching.kinds;
      channels = λ i l linked. record {
        messages = repeated J i (heard i) ++ given_by s.0 m i;
        items = free_items J i (heard i);
        channel = left.touch.channels i l linked;
        given = (given_by s.0 m i, refl);
        queued = ([], sym (append_nil (free_items J i (heard i))));
        queued_all = all (free_items J i (heard i));
      };
      no_other = met_no_other T P first J heard log s m D sims h;
      rests = left.rests;
      log_right = met_log_right T P first J heard log s m D sims h;
      ends = shown;
      fault = u.no_fault ∙ unnamed;
      unfinished = unfinished;
    }

    -- it isn't the saved one
    pub differs_ends : (place : ℕ) (saved : Message) → place ≡ heard s.0 → place < length (got J s.0) → slice_get (got J s.0) place ≡ Some saved → (saved ≡ m → ⊥) → HasEnded risen T P first J heard log D (ends.Differs s place saved m)
    differs_ends place saved at low had apart = untaken_ends (ends.Differs s place saved m) refl (λ items. refl) (λ broken. absurd broken) (record {
      at = at;
      early = subst (λ (k : ℕ). k < length (got first s.0)) (sym at) (early_of (length (got J s.0)) (length (got first s.0)) (heard s.0) (u.catching.counts s.0) (subst (λ (k : ℕ). k < length (got J s.0)) at low));
      had = had;
      apart = apart;
      came = elim left.came [ inl t ↦ inl (ahead t.0 t.1) | inr t ↦ inr (t.0, subst (λ (k : ℕ). m ≡ reply_in T s.0 (map bare (free_items J s.0 k))) (sym at) t.1) ];
    })

    -- it is the journal's last entry
    module _ (caught : heard s.0 ≡ length (got J s.0)) where
      abbrev K : List Entry
      K = J ++ Got s m ∷ []

      abbrev next : Counts
      next = one_more heard s.0

      taken : IsCatching (saved_of first) (exchange_at T log) T.replies P K next D
      taken = quiet_catching T P first J heard log s m D sims h caught

      pub faulty_ends : (o : Outcome) → Stands P K → (view P K).fault ≡ fault_named o → (IsCutOff (ends.Outcome o) → IsRunWaiting P K next) → EndsBy risen T P first K next log D (ends.Outcome o) → HasEnded risen T P first K next log D (ends.Outcome o)
      faulty_ends o stands fault unfinished shown = record {
        suits = u.suits;
        stands = stands;
        begins = longer_begins J first (Got s m) u.begins;
        patient = patient_got P J s m u.patient h.nobody;
        in_range = range_got J s m u.in_range (met_fits T P first J heard log s m D sims h);
        counts = taken.counts;
        kinds = taken.kinds;
        channels = channels_in_step (ends.Outcome o) (queued_itself o) K next log D taken.touch.channels;
        no_other = met_no_other T P first J heard log s m D sims h;
        rests = so_far_end (saved_of first) T.started T.scenario T.replies P K log D.kept taken.rests;
        log_right = met_log_right T P first J heard log s m D sims h;
        ends = shown;
        fault = fault;
        unfinished = unfinished;
      }

      pub fault_ends : (f : CoreFault) → core.ended ≡ None → Stands new.plan new.entries → WasFaulty core f new ⊎ (IsUntaken core f new ⊎ (IsFaulty core s m f new ⊎ IsUnanswered core s m f new))
          → (later : Counts) × HasEnded risen T new.plan first new.entries later log D (ends.Outcome (outcome.Core f))
      fault_ends f going stands (inl was) = absurd (none_some (sym going ∙ was.0))
      fault_ends f going stands (inr (inl un)) = (
        heard,
        subst (λ (c : CoreState). HasEnded risen T c.plan first c.entries heard log D (ends.Outcome (outcome.Core f))) (sym un.ended) (untaken_ends (ends.Outcome (outcome.Core f)) (limit_unnamed f core.plan.entries un.named) (queued_itself (outcome.Core f)) (λ broken. absurd broken)
            (inr (record { named = un.named; full = un.full; no_fault = u.no_fault; more = inr (inr (left_now caught)) }))),
      )
      fault_ends f going stands (inr (inr (inl bad))) = (
        next,
        subst (λ (c : CoreState). HasEnded risen T c.plan first c.entries next log D (ends.Outcome (outcome.Core f))) (sym bad.ended)
            (faulty_ends (outcome.Core f) (subst (λ (c : CoreState). Stands c.plan c.entries) bad.ended stands) bad.made (λ broken. absurd broken)
            (inl (record { before = J; sim = s; message = m; is = refl; right_before = u.no_fault; named = bad.named; fault = bad.made }))),
      )
      fault_ends f going stands (inr (inr (inr un))) = (
        next,
        subst (λ (c : CoreState). HasEnded risen T c.plan first c.entries next log D (ends.Outcome (outcome.Core f))) (sym un.ended)
            (faulty_ends (outcome.Core f) (subst (λ (c : CoreState). Stands c.plan c.entries) un.ended stands) (un.no_fault ∙ limit_unnamed f core.plan.entries un.named) (λ broken. absurd broken) (inr (record { named = un.named; full = un.full; no_fault = un.no_fault; more = inl un.owed }))),
      )

    pub untaken_for_memory : IsOutOfMemory core new → HasEnded risen T new.plan first new.entries heard log D (ends.Outcome outcome.Mem)
    untaken_for_memory o = subst (λ (c : CoreState). HasEnded risen T c.plan first c.entries heard log D (ends.Outcome outcome.Mem)) (sym o.ended) (untaken_ends (ends.Outcome outcome.Mem) refl (queued_itself outcome.Mem) (λ broken. absurd broken) tt)

  -- ---- nothing was heard

  module _ (risen : Type 0) (P : Plan) (J : List Entry) (heard : Counts) (log entries : List LogEntry) (C D : CrewSeen) (u : IsResuming T P first J heard log (crew_of C) C.sims) (nobody : SomeReady P J → ⊥) (unfinished : SomeToCome P J heard) (un : IsUnheard entries (crew_of C) (crew_of D)) where
    waited : IsCatchingWith (λ i. free_items J i (heard i)) (awaited T.scenario (reply_in T) J heard) (saved_of first) (exchange_at T (log ++ entries)) T.replies P J heard (crew_of D)
    waited = catching_unheard (saved_of first) T.started T.scenario T.replies (reply_in T) P (awaited T.scenario (reply_in T) J heard) J heard log entries (crew_of C) (crew_of D) u.catching (resting T P first J heard log (crew_of C) C.sims u nobody un.none_kept) un

    no_other_now : HasNoOther T (crew_of D)
    no_other_now = no_other_moved T entries (λ i. []) (crew_of C) (crew_of D) un.moved u.no_other

    given_now : (i : ℕ) (w : Channel) → channel_at (crew_of D) i ≡ Some w → first_message w.held ≡ None → (l : LinkNo) × (g : HasGiven T J heard (log ++ entries) (crew_of D) i l) × (g.channel.channel ≡ w)
    given_now i w there none =
        let t = no_other_now i w there in
        let g = waited.touch.channels i t.0 t.1 in
        let same : g.channel ≡ w = some_same (sym g.there ∙ there) in
        (t.0, record { linked = t.1; channel = g; none_held = ap (λ (v : Channel). first_message v.held) same ∙ none }, same)

    by_link : (why : LinkHalt) → (why ≡ link_halt.Fleet → risen) → ShowsHalt why entries D.channels → EndsBy risen T P first J heard (log ++ entries) (crew_of D) (ends.Outcome (outcome_of (halt_of why)))
    by_link link_halt.Fleet cause shown = cause refl
    by_link (link_halt.Gone sim) cause shown =
        let w = shown.0 in
        let t = given_now sim.0 w shown.1 (none_first w.held (unfinished_none w.held shown.2.0)) in
        let l_is : w.link ≡ t.0 = ap (λ (v : Channel). v.link) (sym t.2) ∙ t.1.channel.link in
        (t.0, t.1, in_back (Ended t.0) log entries (subst (λ (l : LinkNo). IsIn (Ended l) entries) l_is (last_in (is_read w.link) entries (Ended w.link) shown.2.1)))
    by_link (link_halt.Garbled sim test) cause shown =
        let w = shown.0 in
        let b = shown.2 in
        let t = given_now sim.0 w shown.1 (garbled_none w.held b.0 b.1 test b.3 b.2) in
        (t.0, t.1, subst (λ (v : Channel). BeginsGarbled v.held test) (sym t.2) b)
    by_link (link_halt.LongFrame sim n) cause shown =
        let w = shown.0 in
        let t = given_now sim.0 w shown.1 (none_first w.held (long_none w.held n shown.2)) in
        (t.0, t.1, subst (λ (v : Channel). IsTooLong n v.held) (sym t.2) shown.2)
    by_link link_halt.Mem cause shown = tt

    pub unheard_ends : (why : LinkHalt) → (why ≡ link_halt.Fleet → risen) → ShowsHalt why entries D.channels → AreOn (IsChannelLink C.channels) entries → HasEnded risen T P first J heard (log ++ entries) (crew_of D) (ends.Outcome (outcome_of (halt_of why)))
    unheard_ends why cause shown on_links = record {
      suits = u.suits;
      stands = u.stands;
      begins = u.begins;
      patient = u.patient;
      in_range = u.in_range;
      counts = u.catching.counts;
      kinds = u.catching.kinds;
      channels = channels_in_step (ends.Outcome (outcome_of (halt_of why))) (queued_itself (outcome_of (halt_of why))) J heard (log ++ entries) (crew_of D) waited.touch.channels;
      no_other = no_other_now;
      rests = so_far_end (saved_of first) T.started T.scenario T.replies P J (log ++ entries) D.kept waited.rests;
      log_right = log_right_on T (λ i. repeated J i (heard i)) (λ i. free_items J i (heard i)) (awaited T.scenario (reply_in T) J heard) P log entries (crew_of C) u.suits u.catching.touch u.log_right
          (on_run T.started T.scenario C.channels entries (λ i l linked. let g = u.catching.touch.channels i l linked in (g.channel, g.there, g.link)) u.no_other on_links);
      ends = by_link why cause shown;
      fault = u.no_fault ∙ sym (none_named (halt_of why));
      unfinished = λ broken. (nobody, unfinished);
    }
