-- From the end of a run, and the stop of its crew, to what the whole run means.
use Rattle.std.proofs.Common.{◌≡◌, inl, inr, ℕ, List, [], ◌∷◌, ◌++◌, Some, refl, sym, subst}
use Rattle.mk_base.specs.declared.LinkNo.{LinkNo}
use Rattle.mk_base.specs.Lists.{BeginsWith}
use Rattle.mk_base.proofs.Lists.{in_front}
use Rattle.mk_plan.specs.declared.Plan.{Plan}
use Rattle.mk_plan.specs.declared.Message.{Message}
use Rattle.mk_plan.specs.declared.Entry.{Entry}
use Rattle.mk_plan.specs.declared.Entry.TheVariants.{Got}
use Rattle.mk_plan.specs.Journals.{sent, got}
use Rattle.mk_plan.specs.Orderly.{IsEager}
use Rattle.mk_frame.specs.Frames.{IsTooLong}
use Rattle.mk_session.specs.Fronts.{BeginsGarbled}
use Rattle.mk_scenario.specs.declared.parts.Scenario.{Scenario}
use Rattle.mk_outside.specs.Counts.{HasRisen}
use Rattle.mk_outside.specs.declared.fleet.LogEntry.{LogEntry}
use Rattle.mk_outside.specs.declared.fleet.LogEntry.TheVariants.{Rest, Ended}
use Rattle.mk_outside.specs.Logs.{heard_on}
use Rattle.mk_run_laws.specs.Hearing.{rest_heard}
use Rattle.mk_run_laws.specs.Handshake.{sim_link}
use Rattle.mk_run_laws.specs.Crews.{CrewState, AreStopped, IsRestless}
use Rattle.mk_run_laws.specs.Rests.{run_messages}
use Rattle.mk_run_links.specs.Entries.{AreOn, IsRunLink}
use Rattle.mk_run_links.specs.Places.{IsChannelLink}
use Rattle.mk_run_links.proofs.OnEntries.{on_more, on_run}
use Rattle.mk_run_laws.specs.Runs.{IsLinkOfRun}
use Rattle.mk_run_laws.specs.inner.Running.{HasChannel}
use Rattle.mk_run_laws.proofs.Stepping.{first_or_second, got_here, sent_got}
use Rattle.mk_run_laws.proofs.Ending.{link_ended, rests_stopped}
use Rattle.mk_run_laws.proofs.Resting.{rests_well}
use Rattle.mk_run.specs.declared.outcome.Outcome.{Outcome}
use Rattle.mk_run.specs.declared.outcome.Outcome.TheVariants as outcome
use Rattle.mk_run.specs.Ends.{ShownBy, SetupRestsWell, IsRun, IsUngot}
use Rattle.mk_run.specs.inner.Underway.{Setting, EndsBy, HasGiven, HasEnded, IsAhead, IsLastChannel, exchange_at}
use Rattle.mk_run.proofs.ChannelsStopped.{all_heard, begins_itself, behind_ungot, full_still, heard_behind, held_heard, stopped_by}

-- at the rests of the handshake, a stop adds none
pub setup_rests_more : (started : ℕ) (S : Scenario) (log entries : List LogEntry) → ((before after : List LogEntry) → entries ≡ before ++ Rest ∷ after → ⊥) → SetupRestsWell started S log → SetupRestsWell started S (log ++ entries)
setup_rests_more started S log entries restless rests before after is not_up = elim (first_or_second log entries before after Rest is) [
  | inl t ↦ rests before t.0 t.1 not_up
  | inr t ↦ absurd (restless t.0 after t.2)
]

module _ (T : Setting) (P : Plan) (J : List Entry) (log entries : List LogEntry) (C : CrewState) (end : Outcome) (faults new_faults : ℕ) (by_run by_stop : Type 0)
    (risen : by_run → HasRisen faults new_faults) (rises : by_stop → HasRisen faults new_faults) (ended : HasEnded by_run T P J log C end) (stop : AreStopped entries by_stop C) (restless : IsRestless entries) (of_channels : AreOn (IsChannelLink C.channels) entries) where
  stopped : AreStopped entries (HasRisen faults new_faults) C
  stopped = stopped_by entries by_stop (HasRisen faults new_faults) C rises stop

  linked_so : (i : ℕ) (l : LinkNo) (linked : sim_link T.started T.scenario i ≡ Some l) (t : IsLastChannel T J log C end i l) → IsLinkOfRun T.scenario T.replies J (log ++ entries) (HasRisen faults new_faults) i l t.items
  linked_so i l linked t = link_ended T.started T.scenario T.replies ended.suits.counts J log entries (HasRisen faults new_faults) C stopped i l linked t.messages t.items t.channel t.given t.queued

  -- all messages of a channel that holds no further one were got, and behind them is what is held
  all_got : (i : ℕ) (l : LinkNo) (g : HasGiven T J log C i l) → got J i ≡ run_messages T.scenario (log ++ entries) i l
  all_got i l g = all_heard T.started T.scenario T.replies ended.suits.counts log entries (HasRisen faults new_faults) C stopped i l g.linked (got J i) (sent J i) g.channel g.none_held

  held_so : (i : ℕ) (l : LinkNo) (g : HasGiven T J log C i l) → g.channel.channel.held ≡ rest_heard (heard_on l (log ++ entries))
  held_so i l g = held_heard T.started T.scenario T.replies ended.suits.counts log entries (HasRisen faults new_faults) C stopped i l g.linked (got J i) (sent J i) g.channel g.none_held

  -- a message that a channel gave behind those that the journal got was heard, and isn't got
  ungot : IsAhead T J log C → IsUngot T.started T.scenario J (log ++ entries)
  ungot a = behind_ungot T.started T.scenario J (log ++ entries) a.sim a.message a.link a.linked
      (heard_behind T.started T.scenario T.replies ended.suits.counts log entries (HasRisen faults new_faults) C stopped J a.sim a.message a.link a.linked (sent (J ++ Got a.sim a.message ∷ []) a.sim.0)
      (subst (λ (ms : List Message). HasChannel T.scenario T.replies log a.sim.0 a.link ms (sent (J ++ Got a.sim a.message ∷ []) a.sim.0) C) (got_here J a.sim a.message) a.channel)
      (subst (BeginsWith (sent J a.sim.0)) (sym (sent_got J a.sim a.message a.sim.0)) (begins_itself (sent J a.sim.0))))

  shown : (e : Outcome) → EndsBy by_run T P J log C e → ShownBy (exchange_at T (log ++ entries)) P J faults new_faults e
  shown outcome.Done is = is
  shown (outcome.Setup f) is = is
  shown (outcome.Core f) (inl last) = inl last
  shown (outcome.Core f) (inr full) = inr (full_still T.started T.scenario P J (log ++ entries) f (IsAhead T J log C) ungot full)
  shown outcome.Fleet is = risen is
  shown (outcome.Gone i) is = (is.0, record { linked = is.1.linked; all = all_got i.0 is.0 is.1 }, in_front (Ended is.0) log entries is.2)
  shown (outcome.Garbled i n) is = (is.0, record { linked = is.1.linked; all = all_got i.0 is.0 is.1 }, subst (λ (b : List ℕ). BeginsGarbled b n) (held_so i.0 is.0 is.1) is.2)
  shown (outcome.LongFrame i n) is = (is.0, record { linked = is.1.linked; all = all_got i.0 is.0 is.1 }, subst (IsTooLong n) (held_so i.0 is.0 is.1) is.2)
  shown (outcome.LongItem i n) is = is
  shown outcome.Mem is = is

  eager : IsEager P J
  eager = (ended.stands.orderly, ended.patient)

  pub whole : IsRun (exchange_at T (log ++ entries)) P J faults new_faults end
  whole = record {
    replies = T.replies;
    valid = ended.stands.valid;
    journal = record { sims = ended.suits.sims; orderly = ended.stands.orderly.0; kinds = ended.kinds; links = λ i l linked. (linked_so i l linked (ended.channels i l linked)).got };
    eager = eager;
    within = ended.stands.within;
    in_range = ended.in_range;
    links = λ i l linked. let t = ended.channels i l linked in (t.items, linked_so i l linked t, t.queued_all);
    rests = rests_well T.started T.scenario T.replies ended.suits.counts P J (log ++ entries) (rests_stopped T.started T.scenario T.replies P J log entries restless ended.rests);
    setup_rests = setup_rests_more T.started T.scenario log entries restless ended.log_right.setup_rests;
    shown = shown end ended.ends;
    fault = ended.fault;
    unfinished = ended.unfinished;
    on_links = on_more (IsRunLink T.started T.scenario) log entries ended.log_right.on_links
        (on_run T.started T.scenario C.channels entries (λ i l linked. let h = (ended.channels i l linked).channel in (h.channel, h.there, h.link)) ended.no_other of_channels);
  }

  pub whole_replies : whole.replies ≡ T.replies
  unfolding whole
  whole_replies = refl
