-- From the end of a resumed run, and the stop of its crew, to what the whole run means.
use Rattle.std.proofs.Common.{◌≡◌, inl, inr, ℕ, List, [], ◌∷◌, ◌++◌, map, take, None, Some, refl, sym, ap, ◌∙◌, subst, true≢false}
use Rattle.std.proofs.Math.Seq.{take-length}
use Rattle.mk_base.specs.declared.LinkNo.{LinkNo}
use Rattle.mk_base.specs.declared.SimNo.{SimNo}
use Rattle.mk_base.specs.Lists.{BeginsWith}
use Rattle.mk_base.proofs.Lists.{in_front, some_same}
use Rattle.mk_plan.specs.declared.Plan.{Plan}
use Rattle.mk_plan.specs.declared.Message.{Message}
use Rattle.mk_plan.specs.declared.Entry.{Entry}
use Rattle.mk_plan.specs.Journals.{got}
use Rattle.mk_frame.specs.Frames.{IsTooLong}
use Rattle.mk_session.specs.Fronts.{BeginsGarbled}
use Rattle.mk_outside.specs.Counts.{HasRisen}
use Rattle.mk_outside.specs.declared.fleet.LogEntry.{LogEntry}
use Rattle.mk_outside.specs.declared.fleet.LogEntry.TheVariants.{Ended}
use Rattle.mk_outside.specs.Logs.{heard_on}
use Rattle.mk_record_read.specs.declared.saved.Saved.{Saved}
use Rattle.mk_record_read.specs.Seen.{came}
use Rattle.mk_record_compare.specs.Differences.{IsOther}
use Rattle.mk_record_restored.specs.Restored.{IsRestored}
use Rattle.mk_run_laws.specs.Handshake.{sim_link}
use Rattle.mk_run_laws.specs.Crews.{CrewState, AreStopped, IsRestless}
use Rattle.mk_run_laws.specs.Rests.{run_messages}
use Rattle.mk_run_laws.specs.Hearing.{rest_heard}
use Rattle.mk_run_laws.specs.inner.Running.{HasChannel}
use Rattle.mk_run.specs.declared.outcome.Outcome.TheVariants as outcome
use Rattle.mk_run.specs.inner.Underway.{Setting, exchange_at}
use Rattle.mk_run.proofs.ChannelsStopped.{all_heard, begins_itself, behind_ungot, heard_behind, held_heard, stopped_by}
use Rattle.mk_run.proofs.Linked.{linked_outside}
use Rattle.mk_run_links.specs.Entries.{AreOn, IsRunLink}
use Rattle.mk_run_links.specs.Places.{IsChannelLink}
use Rattle.mk_run_links.proofs.OnEntries.{on_more, on_run}
use Rattle.mk_run.proofs.Whole.{setup_rests_more}
use Rattle.mk_resume_walk.specs.Talks.{free_items, up_to}
use Rattle.mk_resume_walk.proofs.UpTo.{up_to_got}
use Rattle.mk_resume_links.specs.Rests.{Counts, repeated}
use Rattle.mk_resume_links.specs.Runs.{IsLinkOfResumed}
use Rattle.mk_resume_links.proofs.Ended.{resumed_link}
use Rattle.mk_resume_links.proofs.Rested.{rests_well}
use Rattle.mk_resume_links.proofs.Waiting.{end_stopped}
use Rattle.mk_resume_loop.specs.declared.ending.ResumeEnd.{ResumeEnd}
use Rattle.mk_resume_loop.specs.declared.ending.ResumeEnd.TheVariants as ends
use Rattle.mk_resume_loop.specs.inner.Ending.{DiffersNow, EndsBy, HasEnded, HasGiven, IsAhead, IsLastChannel, IsLeftNow}
use Rattle.mk_resume_loop.specs.inner.Underway.{saved_of}
use Rattle.mk_resume.specs.Resumed.{IsDiffering, SomeUntaken, IsResumed, ShownBy}

module _ (T : Setting) (P : Plan) (first J : List Entry) (heard : Counts) (log entries : List LogEntry) (C : CrewState) (end : ResumeEnd) (faults new_faults : ℕ) (by_run by_stop : Type 0)
    (risen : by_run → HasRisen faults new_faults) (rises : by_stop → HasRisen faults new_faults) (ended : HasEnded by_run T P first J heard log C end) (stop : AreStopped entries by_stop C) (restless : IsRestless entries) (of_channels : AreOn (IsChannelLink C.channels) entries) where
  stopped : AreStopped entries (HasRisen faults new_faults) C
  stopped = stopped_by entries by_stop (HasRisen faults new_faults) C rises stop

  linked_so : (i : ℕ) (l : LinkNo) (linked : sim_link T.started T.scenario i ≡ Some l) (t : IsLastChannel T J heard log C end i l) → IsLinkOfResumed T.scenario T.replies J (log ++ entries) (HasRisen faults new_faults) i l (heard i) t.items
  linked_so i l linked t = resumed_link T.started T.scenario T.replies ended.suits.counts J log entries (HasRisen faults new_faults) C stopped i l linked (heard i) t.messages t.items t.channel t.given t.queued

  -- all messages of a channel that holds no further one were taken, and behind them is what is held
  all_taken : (i : ℕ) (l : LinkNo) (g : HasGiven T J heard log C i l) → repeated J i (heard i) ≡ run_messages T.scenario (log ++ entries) i l
  all_taken i l g = all_heard T.started T.scenario T.replies ended.suits.counts log entries (HasRisen faults new_faults) C stopped i l g.linked (repeated J i (heard i)) (free_items J i (heard i)) g.channel g.none_held

  held_so : (i : ℕ) (l : LinkNo) (g : HasGiven T J heard log C i l) → g.channel.channel.held ≡ rest_heard (heard_on l (log ++ entries))
  held_so i l g = held_heard T.started T.scenario T.replies ended.suits.counts log entries (HasRisen faults new_faults) C stopped i l g.linked (repeated J i (heard i)) (free_items J i (heard i)) g.channel g.none_held

  -- a message that a channel gave behind those that were sent again was heard behind them
  ahead_heard : (s : SimNo) (m : Message) (a : IsAhead T J heard log C s.0 m) → BeginsWith (run_messages T.scenario (log ++ entries) s.0 a.link) (repeated J s.0 (heard s.0) ++ m ∷ [])
  ahead_heard s m a = subst (λ (ms : List Message). BeginsWith (run_messages T.scenario (log ++ entries) s.0 a.link) (ms ++ m ∷ [])) so_far
      (heard_behind T.started T.scenario T.replies ended.suits.counts log entries (HasRisen faults new_faults) C stopped (up_to s.0 (heard s.0) J) s m a.link a.linked (free_items J s.0 (heard s.0))
      (subst (λ (ms : List Message). HasChannel T.scenario T.replies log s.0 a.link (ms ++ m ∷ []) (free_items J s.0 (heard s.0)) C) (sym so_far) a.channel) (begins_itself (free_items J s.0 (heard s.0))))
    where
      so_far : got (up_to s.0 (heard s.0) J) s.0 ≡ repeated J s.0 (heard s.0)
      so_far = up_to_got s.0 (heard s.0) J

  left : IsLeftNow T J heard log C → SomeUntaken T.started T.scenario J heard (log ++ entries)
  left (s, caught, inl (m, a)) =
      let all : repeated J s (heard s) ≡ got J s = ap (λ (n : ℕ). take n (got J s)) caught ∙ take-length (got J s) in
      inl (behind_ungot T.started T.scenario J (log ++ entries) (record { 0 = s }) m a.link a.linked
      (subst (λ (ms : List Message). BeginsWith (run_messages T.scenario (log ++ entries) s a.link) (ms ++ m ∷ [])) all (ahead_heard (record { 0 = s }) m a)))
  left (s, caught, inr awaits) = inr (record { sim = s; within = awaits.within; caught = caught; more = awaits.more })

  differs : (s : SimNo) (place : ℕ) (kept other : Message) → DiffersNow T first J heard log C s place kept other → IsDiffering (exchange_at T (log ++ entries)) first J heard s place kept other
  differs s place kept other d = record {
    at = d.at;
    early = d.early;
    had = d.had;
    apart = d.apart;
    on_link = λ l linked. elim d.came [
      | inl a ↦ subst (λ (n : ℕ). BeginsWith (run_messages T.scenario (log ++ entries) s.0 l) (repeated J s.0 n ++ other ∷ [])) (sym d.at)
          (subst (λ (k : LinkNo). BeginsWith (run_messages T.scenario (log ++ entries) s.0 k) (repeated J s.0 (heard s.0) ++ other ∷ [])) (some_same (sym a.linked ∙ linked)) (ahead_heard s other a))
      | inr t ↦ absurd (true≢false (sym t.0 ∙ (linked_outside T.started T.scenario s.0 l linked).0))
    ];
    inside = λ within. elim d.came [
      | inl a ↦ absurd (true≢false (sym within ∙ (linked_outside T.started T.scenario s.0 a.link a.linked).0))
      | inr t ↦ t.1
    ];
  }

  shown : (e : ResumeEnd) → EndsBy by_run T P first J heard log C e → ShownBy (exchange_at T (log ++ entries)) P first J heard faults new_faults e
  shown (ends.Outcome outcome.Done) is = is
  shown (ends.Outcome (outcome.Setup f)) is = is
  shown (ends.Outcome (outcome.Core f)) (inl last) = inl last
  shown (ends.Outcome (outcome.Core f)) (inr full) = inr (record { named = full.named; full = full.full; no_fault = full.no_fault; more = elim full.more [ inl owed ↦ inl owed | inr more ↦ inr (elim more [ inl ready ↦ inl ready | inr t ↦ inr (left t) ]) ] })
  shown (ends.Outcome outcome.Fleet) is = risen is
  shown (ends.Outcome (outcome.Gone i)) is = (is.0, record { linked = is.1.linked; all = all_taken i.0 is.0 is.1 }, in_front (Ended is.0) log entries is.2)
  shown (ends.Outcome (outcome.Garbled i n)) is = (is.0, record { linked = is.1.linked; all = all_taken i.0 is.0 is.1 }, subst (λ (b : List ℕ). BeginsGarbled b n) (held_so i.0 is.0 is.1) is.2)
  shown (ends.Outcome (outcome.LongFrame i n)) is = (is.0, record { linked = is.1.linked; all = all_taken i.0 is.0 is.1 }, subst (IsTooLong n) (held_so i.0 is.0 is.1) is.2)
  shown (ends.Outcome (outcome.LongItem i n)) is = is
  shown (ends.Outcome outcome.Mem) is = is
  shown (ends.OtherPlan n) is = is
  shown (ends.OtherEntry n) is = is
  shown (ends.Differs s place kept other) is = differs s place kept other is

  pub whole : (saved : Saved) → IsRestored P (map came saved.arrivals) first → IsOther (map came saved.arrivals) saved.asks first None → IsResumed (exchange_at T (log ++ entries)) P saved J faults new_faults end
  whole saved restored same = record {
    replies = T.replies;
    valid = ended.stands.valid;
    sims = ended.suits.sims;
    first = first;
    restored = restored;
    same = same;
    begins = ended.begins;
    agrees = ended.stands.agrees;
    eager = (ended.stands.orderly, ended.patient);
    within = ended.stands.within;
    in_range = ended.in_range;
    heard = heard;
    counts = ended.counts;
    kinds = ended.kinds;
    links = λ i l linked. let t = ended.channels i l linked in (t.items, linked_so i l linked t, t.queued_all);
    rests = rests_well (saved_of first) T.started T.scenario T.replies ended.suits.counts P J (log ++ entries) (end_stopped (saved_of first) T.started T.scenario T.replies P J log entries restless ended.rests);
    setup_rests = setup_rests_more T.started T.scenario log entries restless ended.log_right.setup_rests;
    on_links = on_more (IsRunLink T.started T.scenario) log entries ended.log_right.on_links
        (on_run T.started T.scenario C.channels entries (λ i l linked. let h = (ended.channels i l linked).channel in (h.channel, h.there, h.link)) ended.no_other of_channels);
    shown = shown end ended.ends;
    fault = ended.fault;
    unfinished = ended.unfinished;
  }

  pub whole_replies : (saved : Saved) (restored : IsRestored P (map came saved.arrivals) first) (same : IsOther (map came saved.arrivals) saved.asks first None) → (whole saved restored same).replies ≡ T.replies
  unfolding whole
  whole_replies saved restored same = refl
