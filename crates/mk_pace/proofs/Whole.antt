-- From the end of a paced run, and the stop of its crew, to what the whole run means.
use Rattle.std.proofs.Common.{◌≡◌, inl, inr, ℕ, false, List, ◌∷◌, ◌++◌, Option, Some, option_map, unwrap_or, refl, ap, ◌∙◌, subst}
use Rattle.mk_base.specs.declared.LinkNo.{LinkNo}
use Rattle.mk_base.specs.declared.SimNo.{SimNo}
use Rattle.mk_base.proofs.Lists.{in_front}
use Rattle.mk_plan.specs.declared.Plan.{Plan}
use Rattle.mk_plan.specs.declared.Entry.{Entry}
use Rattle.mk_plan.specs.Journals.{got}
use Rattle.mk_frame.specs.Frames.{IsTooLong}
use Rattle.mk_session.specs.Fronts.{BeginsGarbled}
use Rattle.mk_outside.specs.Counts.{HasRisen}
use Rattle.mk_outside.specs.declared.fleet.LogEntry.{LogEntry}
use Rattle.mk_outside.specs.declared.fleet.LogEntry.TheVariants.{Heard, NotHeard, Said, NotSaid, Ended, Rest, Told, Nap}
use Rattle.mk_outside.specs.Logs.{heard_on, last_that, later_of, told_by}
use Rattle.mk_outside.proofs.OnLogs.{last-append}
use Rattle.mk_run_laws.specs.Hearing.{rest_heard}
use Rattle.mk_run_laws.specs.Handshake.{sim_link}
use Rattle.mk_run_laws.specs.Crews.{CrewState, AreStopped, IsRestless}
use Rattle.mk_run_laws.specs.Rests.{AllSetUp, IsWellInSetup, run_messages}
use Rattle.mk_run_laws.specs.Runs.{IsLinkOfRun}
use Rattle.mk_run_laws.proofs.Ending.{link_ended}
use Rattle.mk_run_laws.proofs.Stepping.{first_or_second}
use Rattle.mk_run_links.specs.Entries.{AreOn, IsClockless, IsNotOfClock, IsRunLink}
use Rattle.mk_run_links.specs.Places.{IsChannelLink}
use Rattle.mk_run_links.proofs.OnEntries.{on_no_clock, on_or_clock, on_run, or_clock_more}
use Rattle.mk_run.specs.declared.outcome.Outcome.{Outcome}
use Rattle.mk_run.specs.declared.outcome.Outcome.TheVariants as outcome
use Rattle.mk_run.specs.Ends.{IsUngot}
use Rattle.mk_run.specs.inner.Underway.{Setting, exchange_at}
use Rattle.mk_run.proofs.ChannelsStopped.{all_heard, behind_ungot, full_still, heard_behind, held_heard, stopped_by}
use Rattle.mk_pace_laws.specs.declared.end.Moment.{Moment}
use Rattle.mk_pace_laws.specs.declared.end.PaceEnd.{PaceEnd}
use Rattle.mk_pace_laws.specs.declared.end.PaceEnd.TheVariants as pace
use Rattle.mk_pace_laws.specs.Clocks.{is_told, last_told}
use Rattle.mk_pace_laws.specs.Ends.{IsLate, Shows, ShowsOutcome}
use Rattle.mk_pace_laws.specs.Moments.{Tempo, timing}
use Rattle.mk_pace_laws.specs.Naps.{AreAllLinked, AreNaps, NapsLook}
use Rattle.mk_pace_laws.specs.Paced.{IsPaced, IsPacedLink}
use Rattle.mk_pace_laws.proofs.Napping.{naps_well}
use Rattle.mk_pace_laws.proofs.Timely.{timely_more}
use Rattle.mk_pace_loop.specs.inner.PacedOut.{EndsOutcome, EndsPace, HasGivenPaced, HasPacedOut, IsAheadPaced, IsLastPacedChannel}
use Rattle.mk_pace_loop.proofs.Passing.{moments_later, no_naps, origin_later}
use Rattle.mk_pace_loop.proofs.Turning.{none_told}

-- ---- entries of no clock

-- none of them is a look at the clock
pub untold_entry : (e : LogEntry) → IsNotOfClock e → is_told e ≡ false
untold_entry (Heard on bytes) all = refl
untold_entry (NotHeard on) all = refl
untold_entry (Said on bytes) all = refl
untold_entry (NotSaid on) all = refl
untold_entry (Ended on) all = refl
untold_entry Rest all = refl
untold_entry (Told n) all = absurd all
untold_entry Nap all = absurd all

-- so what was told last stays
pub told_still : (log entries : List LogEntry) → IsClockless entries → last_told (log ++ entries) ≡ last_told log
told_still log entries all =
    ap (λ (o : Option LogEntry). unwrap_or (option_map told_by o) 0) (last-append is_told log entries ∙ ap (later_of (last_that is_told log)) (none_told entries all))

module _ (S : Setting) (T : Tempo) (strict : Option ℕ) (P : Plan) (J : List Entry) (moments : List Moment) (log entries : List LogEntry) (C : CrewState) (end : PaceEnd) (faults new_faults : ℕ) (by_run by_stop : Type 0)
    (risen : by_run → HasRisen faults new_faults) (rises : by_stop → HasRisen faults new_faults) (out : HasPacedOut by_run S (timing T strict moments) P J log C end) (stop : AreStopped entries by_stop C) (restless : IsRestless entries) (of_channels : AreOn (IsChannelLink C.channels) entries) where
  clockless : IsClockless entries
  clockless = on_no_clock (IsChannelLink C.channels) entries of_channels

  stopped : AreStopped entries (HasRisen faults new_faults) C
  stopped = stopped_by entries by_stop (HasRisen faults new_faults) C rises stop

  linked_so : (i : ℕ) (l : LinkNo) (linked : sim_link S.started S.scenario i ≡ Some l) (t : IsLastPacedChannel S (timing T strict moments) J log C end i l) → IsLinkOfRun S.scenario S.replies J (log ++ entries) (HasRisen faults new_faults) i l t.items
  linked_so i l linked t = link_ended S.started S.scenario S.replies out.suits.counts J log entries (HasRisen faults new_faults) C stopped i l linked t.messages t.items t.channel t.given t.queued

  -- all messages of a channel that holds no further one were got, and behind them is what is held
  all_got : (i : ℕ) (l : LinkNo) (g : HasGivenPaced S J log C i l) → got J i ≡ run_messages S.scenario (log ++ entries) i l
  all_got i l g = all_heard S.started S.scenario S.replies out.suits.counts log entries (HasRisen faults new_faults) C stopped i l g.linked (got J i) g.items g.channel g.none_held

  held_so : (i : ℕ) (l : LinkNo) (g : HasGivenPaced S J log C i l) → g.channel.channel.held ≡ rest_heard (heard_on l (log ++ entries))
  held_so i l g = held_heard S.started S.scenario S.replies out.suits.counts log entries (HasRisen faults new_faults) C stopped i l g.linked (got J i) g.items g.channel g.none_held

  -- a message that a channel gave behind those that the journal got was heard, and isn't got
  ungot : IsAheadPaced S J log C → IsUngot S.started S.scenario J (log ++ entries)
  ungot a = behind_ungot S.started S.scenario J (log ++ entries) a.sim a.message a.link a.linked
      (heard_behind S.started S.scenario S.replies out.suits.counts log entries (HasRisen faults new_faults) C stopped J a.sim a.message a.link a.linked a.items a.channel a.queued)

  outcome_shown : (e : Outcome) → EndsOutcome by_run S P J log C e → ShowsOutcome (exchange_at S (log ++ entries)) P J faults new_faults e
  outcome_shown outcome.Done is = is
  outcome_shown (outcome.Setup f) is = is
  outcome_shown (outcome.Core f) (inl last) = inl last
  outcome_shown (outcome.Core f) (inr full) = inr (full_still S.started S.scenario P J (log ++ entries) f (IsAheadPaced S J log C) ungot full)
  outcome_shown outcome.Fleet is = risen is
  outcome_shown (outcome.Gone i) is = (is.0, record { linked = is.1.linked; all = all_got i.0 is.0 is.1 }, in_front (Ended is.0) log entries is.2)
  outcome_shown (outcome.Garbled i n) is = (is.0, record { linked = is.1.linked; all = all_got i.0 is.0 is.1 }, subst (λ (b : List ℕ). BeginsGarbled b n) (held_so i.0 is.0 is.1) is.2)
  outcome_shown (outcome.LongFrame i n) is = (is.0, record { linked = is.1.linked; all = all_got i.0 is.0 is.1 }, subst (IsTooLong n) (held_so i.0 is.0 is.1) is.2)
  outcome_shown (outcome.LongItem i n) is = is
  outcome_shown outcome.Mem is = is

  late_still : (sim : SimNo) (time : _) (late allowed : ℕ) → IsLate (timing T strict moments) J log sim time late allowed → IsLate (timing T strict moments) J (log ++ entries) sim time late allowed
  late_still sim time late allowed is = record {
    strict_is = is.strict_is;
    at = is.at;
    time_is = is.time_is;
    next = is.next;
    first = is.first;
    told = told_still log entries clockless ∙ is.told;
    beyond = is.beyond;
  }

  shown : (e : PaceEnd) → EndsPace by_run S P (timing T strict moments) J log C e → Shows (exchange_at S (log ++ entries)) P J (timing T strict moments) faults new_faults e
  shown (pace.Outcome e) is = outcome_shown e is
  shown (pace.Late sim time late allowed) is = late_still sim time late allowed is

  link_is : (i : ℕ) (l : LinkNo) → sim_link S.started S.scenario i ≡ Some l → IsPacedLink (exchange_at S (log ++ entries)) S.replies J (timing T strict moments) (HasRisen faults new_faults) end i l
  link_is i l linked =
      let t = out.channels i l linked in
      record {
        items = t.items;
        run = linked_so i l linked t;
        queued = t.out;
        timely = timely_more T S.scenario i l t.items log entries t.told t.timely;
      }

  rests_still : (before after : List LogEntry) → log ++ entries ≡ before ++ Rest ∷ after → IsWellInSetup S.started S.scenario before × (AllSetUp S.started S.scenario before → ⊥)
  rests_still before after is = elim (first_or_second log entries before after Rest is) [
    | inl t ↦ out.setup_rests before t.0 t.1
    | inr t ↦ absurd (restless t.0 after t.2)
  ]

  naps_still : AreAllLinked S.scenario → AreNaps S.started S.scenario S.replies P T J (log ++ entries)
  naps_still linked before after is = elim (first_or_second log entries before after Nap is) [
    | inl t ↦ out.naps linked before t.0 t.1
    | inr t ↦ absurd (no_naps entries t.0 after clockless t.2)
  ]

  looks_still : NapsLook S.started S.scenario (log ++ entries)
  looks_still before after is = elim (first_or_second log entries before after Nap is) [
    | inl t ↦ out.looks before t.0 t.1
    | inr t ↦ absurd (no_naps entries t.0 after clockless t.2)
  ]

  pub whole : IsPaced (exchange_at S (log ++ entries)) P J (timing T strict moments) faults new_faults end
  whole = record {
    replies = S.replies;
    valid = out.stands.valid;
    journal = record { sims = out.suits.sims; orderly = out.stands.orderly.0; kinds = out.kinds; links = λ i l linked. (linked_so i l linked (out.channels i l linked)).got };
    eager = (out.stands.orderly, out.patient);
    within = out.stands.within;
    in_range = out.in_range;
    origin = origin_later S.started S.scenario log entries T.origin out.origin;
    links = link_is;
    moments_are = moments_later T strict J log entries moments out.moments_are;
    replied = out.within;
    setup_rests = rests_still;
    naps = λ rising linked. naps_well S.started S.scenario S.replies out.suits.counts P T J (log ++ entries) rising (naps_still linked);
    looks = looks_still;
    shown = shown end out.ends;
    fault = out.fault;
    unfinished = out.unfinished;
    on_links = or_clock_more (IsRunLink S.started S.scenario) log entries out.on_links
        (on_or_clock (IsRunLink S.started S.scenario) entries (on_run S.started S.scenario C.channels entries (λ i l linked. let h = (out.channels i l linked).channel in (h.channel, h.there, h.link)) out.no_other of_channels));
  }

  pub whole_replies : whole.replies ≡ S.replies
  unfolding whole
  whole_replies = refl
