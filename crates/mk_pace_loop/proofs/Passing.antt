-- A paced run while entries are added to the log by which no message is heard and nothing is sent.
use Rattle.std.proofs.Common.{◌≡◌, inl, inr, ℕ, ◌+◌, ◌<◌, true, List, [], ◌∷◌, ◌++◌, length, filter, take, Option, Some, None, option_and_then, slice_get, refl, sym, ap, ◌∙◌, subst, append_assoc, if◌then◌else◌}
use Rattle.mk_base.specs.declared.LinkNo.{LinkNo}
use Rattle.mk_base.specs.declared.tier.Tier.{Tier}
use Rattle.mk_base.specs.Lists.{Each, IsIn}
use Rattle.mk_base.proofs.Lists.{append_nil, get_is, in_front, none_some}
use Rattle.mk_plan.specs.declared.Entry.{Entry}
use Rattle.mk_plan.specs.declared.Message.{Message}
use Rattle.mk_plan.specs.declared.Plan.{Plan}
use Rattle.mk_plan.specs.Journals.{Arrival, got, view}
use Rattle.mk_plan.specs.Plans.{sim_count}
use Rattle.mk_plan.specs.Ready.{IsReady}
use Rattle.mk_plan.specs.Sequential.{Messages}
use Rattle.mk_scenario.specs.declared.parts.SimPart.{SimPart}
use Rattle.mk_scenario.specs.declared.parts.Scenario.{Scenario}
use Rattle.mk_outside.specs.declared.fleet.LogEntry.{LogEntry}
use Rattle.mk_outside.specs.declared.fleet.LogEntry.TheVariants.{NotHeard, Rest, Told, Nap}
use Rattle.mk_outside.specs.Logs.{last_read}
use Rattle.mk_local.specs.Simulators.{Simulator}
use Rattle.mk_run_laws.specs.Crews.{CrewState, AreMoved, IsMovedAt, IsRestless, IsUnheard, kept_of, channel_at}
use Rattle.mk_run_laws.specs.Handshake.{has_link, sim_link}
use Rattle.mk_run_laws.specs.Channels.{Channel}
use Rattle.mk_run_laws.specs.inner.Running.{HasChannel}
use Rattle.mk_run_laws.proofs.Stepping.{first_or_second}
use Rattle.mk_run_laws.proofs.Moving.{moved_none}
use Rattle.mk_run_links.specs.Entries.{AreOfLinks, AreOnOrOfClock, IsClockless, IsNotOfClock, IsRunLink}
use Rattle.mk_run_links.specs.Places.{IsChannelLink}
use Rattle.mk_run_links.proofs.OnEntries.{no_clock, no_rests, of_run, on_or_clock, on_these, or_clock_more}
use Rattle.mk_run.specs.inner.Underway.{Setting}
use Rattle.mk_pace_held.specs.declared.held.Held.{Held}
use Rattle.mk_pace_laws.specs.declared.end.Moment.{Moment}
use Rattle.mk_pace_laws.specs.Clocks.{last_told}
use Rattle.mk_pace_laws.specs.Moments.{AreMoments, Tempo}
use Rattle.mk_pace_laws.specs.Naps.{AreAllLinked, AreNaps, IsEarly, IsNapOf, NapsLook}
use Rattle.mk_pace_laws.specs.Paced.{IsOrigin}
use Rattle.mk_pace_loop.specs.inner.Pacing.{IsPacing}
use Rattle.mk_pace_loop.specs.inner.Waiting.{waiting_seen}
use Rattle.mk_pace_loop.proofs.Queueing.{has_channel_moved, nap_moved, told_moved}
use Rattle.mk_pace_laws.proofs.Ordering.{in_order_later}
use Rattle.mk_pace_laws.proofs.Timely.{timely_more, told_later}
use Rattle.mk_base.proofs.Items.{not_empty, same_heads}
use Rattle.mk_run_crew.specs.Halted.{RestRight}

-- ---- entries

-- one entry has no other among it
pub alone : (e r : LogEntry) (less after : List LogEntry) → (e ≡ r → ⊥) → e ∷ [] ≡ less ++ r ∷ after → ⊥
alone e r [] after apart is = apart (same_heads is).0
alone e r (x ∷ less) after apart is = not_empty less after r (same_heads is).1

-- entries among which no clock was looked at have no nap
pub no_naps : (entries less after : List LogEntry) → IsClockless entries → entries ≡ less ++ Nap ∷ after → ⊥
no_naps [] less after all is = not_empty less after Nap is
no_naps (e ∷ entries) [] after all is = subst IsNotOfClock (same_heads is).0 all.0
no_naps (e ∷ entries) (x ∷ less) after all is = no_naps entries less after all.1 (same_heads is).1

-- ---- moments

told_still : (log entries : List LogEntry) (moments : List Moment) → Each (λ (m : Moment). IsIn (Told m.told) log) moments → Each (λ (m : Moment). IsIn (Told m.told) (log ++ entries)) moments
told_still log entries [] all = tt
told_still log entries (m ∷ moments) all = (in_front (Told m.told) log entries all.0, told_still log entries moments all.1)

pub moments_later : (T : Tempo) (strict : Option ℕ) (J : List Entry) (log entries : List LogEntry) (moments : List Moment) → AreMoments T strict J log moments → AreMoments T strict J (log ++ entries) moments
moments_later T strict J log entries moments m = record { steps = m.steps; moment = m.moment; due = m.due; told = told_still log entries moments m.told; in_time = m.in_time; in_order = in_order_later log entries moments m.in_order }

-- ---- the origin, rests and naps

pub origin_later : (started : ℕ) (S : Scenario) (log entries : List LogEntry) (n : ℕ) → IsOrigin started S log n → IsOrigin started S (log ++ entries) n
origin_later started S log entries n o = record {
  before = o.before;
  later = o.later ++ entries;
  parts = ap (λ (x : List LogEntry). x ++ entries) o.parts ∙ append_assoc o.before (Told n ∷ o.later) entries;
  set_up = o.set_up;
  untold = o.untold;
  awake = o.awake;
}

pub on_later : (started : ℕ) (S : Scenario) (log entries : List LogEntry) → AreOnOrOfClock (IsRunLink started S) log → AreOfLinks (IsRunLink started S) entries → AreOnOrOfClock (IsRunLink started S) (log ++ entries)
on_later started S log entries on of = or_clock_more (IsRunLink started S) log entries on (on_or_clock (IsRunLink started S) entries (on_these (IsRunLink started S) entries of))

pub setup_later : (started : ℕ) (S : Scenario) (log entries : List LogEntry) → IsRestless entries → RestRight started S log → RestRight started S (log ++ entries)
setup_later started S log entries restless rests before after is = elim (first_or_second log entries before after Rest is) [
  | inl t ↦ rests before t.0 t.1
  | inr t ↦ absurd (restless t.0 after t.2)
]

-- no nap is taken by these entries
pub naps_later : (started : ℕ) (S : Scenario) (replies : Messages) (P : Plan) (T : Tempo) (J : List Entry) (log entries : List LogEntry) → ((less after : List LogEntry) → entries ≡ less ++ Nap ∷ after → ⊥) → AreNaps started S replies P T J log → AreNaps started S replies P T J (log ++ entries)
naps_later started S replies P T J log entries awake naps before after is = elim (first_or_second log entries before after Nap is) [
  | inl t ↦ naps before t.0 t.1
  | inr t ↦ absurd (awake t.0 after t.2)
]

pub looks_later : (started : ℕ) (S : Scenario) (log entries : List LogEntry) → ((less after : List LogEntry) → entries ≡ less ++ Nap ∷ after → ⊥) → NapsLook started S log → NapsLook started S (log ++ entries)
looks_later started S log entries awake looks before after is = elim (first_or_second log entries before after Nap is) [
  | inl t ↦ looks before t.0 t.1
  | inr t ↦ absurd (awake t.0 after t.2)
]

-- ---- channels

pub was_there : (entries : List LogEntry) (given : List Message) (o p : Option Channel) (v : Channel) → p ≡ Some v → IsMovedAt entries given o p → (w : Channel) × (o ≡ Some w)
was_there entries given o None v e moved = absurd (none_some e)
was_there entries given None (Some u) v e moved = absurd moved
was_there entries given (Some w) (Some u) v e moved = (w, refl)

-- a simulator that has a link is one of the scenario
pub linked_low : (started : ℕ) (S : Scenario) (i : ℕ) (l : LinkNo) → sim_link started S i ≡ Some l → i < length S.sims
linked_low started S i l e = go (slice_get S.sims i) refl e
  where
    go : (o : Option SimPart) → slice_get S.sims i ≡ o → option_and_then (λ (s : SimPart). if has_link s then Some (record { 0 = started + length (filter has_link (take i S.sims)) }) else None) o ≡ Some l → i < length S.sims
    go None is q = absurd (none_some q)
    go (Some s) is q = (get_is S.sims i s is).0

module _ (S : Setting) (T : Tempo) (strict : Option ℕ) (P : Plan) (J : List Entry) (log : List LogEntry) (C : CrewState) (sims : List (Option Simulator)) (holds : List (List Held)) (moments : List Moment) (p : IsPacing S P J log C sims (waiting_seen T strict holds moments)) where
  -- entries by which no channel gives a message
  pub passes : (entries : List LogEntry) (D : CrewState) → AreMoved entries (λ i. []) C D → D.kept ≡ C.kept → ((less after : List LogEntry) → entries ≡ less ++ Rest ∷ after → ⊥) → AreOnOrOfClock (IsRunLink S.started S.scenario) entries → (AreAllLinked S.scenario → AreNaps S.started S.scenario S.replies P T J (log ++ entries)) → NapsLook S.started S.scenario (log ++ entries)
      → IsPacing S P J (log ++ entries) D sims (waiting_seen T strict holds moments)
  passes entries D moved kept restless on naps looks = record {
    suits = p.suits;
    stands = p.stands;
    patient = p.patient;
    in_range = p.in_range;
    no_fault = p.no_fault;
    count = p.count;
    queued = p.queued;
    holding = p.holding;
    steps = p.steps;
    fit = p.fit;
    channels = λ i l linked. subst (λ (ms : List Message). HasChannel S.scenario S.replies (log ++ entries) i l ms (p.queued i) D) (append_nil (got J i))
        (has_channel_moved S.scenario S.replies log entries i l (got J i) [] (p.queued i) C D (p.channels i l linked) (moved i));
    no_channel = λ i within. moved_none entries [] (channel_at C i) (channel_at D i) (p.no_channel i within) (moved i);
    no_other = λ i w there. let o = was_there entries [] (channel_at C i) (channel_at D i) w there (moved i) in p.no_other i o.0 o.1;
    kept = λ s. ap (kept_of s) kept ∙ p.kept s;
    kinds = p.kinds;
    come = p.come;
    only_within = p.only_within;
    setup_rests = setup_later S.started S.scenario log entries restless p.setup_rests;
    on_links = or_clock_more (IsRunLink S.started S.scenario) log entries p.on_links on;
    origin = origin_later S.started S.scenario log entries T.origin p.origin;
    told = λ s. told_later T log entries (p.queued s) (p.told s);
    timely = λ i l linked. timely_more T S.scenario i l (p.queued i) log entries (p.told i) (p.timely i l linked);
    moments_are = moments_later T strict J log entries moments p.moments_are;
    counts = p.counts;
    replied = λ i within. ap (λ (k : List Arrival). length (got J i) + length (kept_of i k)) kept ∙ p.replied i within;
    naps = naps;
    looks = looks;
  }

  -- and no nap is taken
  pub passes_awake : (entries : List LogEntry) (D : CrewState) → AreMoved entries (λ i. []) C D → D.kept ≡ C.kept → ((less after : List LogEntry) → entries ≡ less ++ Rest ∷ after → ⊥) → AreOnOrOfClock (IsRunLink S.started S.scenario) entries → ((less after : List LogEntry) → entries ≡ less ++ Nap ∷ after → ⊥)
      → IsPacing S P J (log ++ entries) D sims (waiting_seen T strict holds moments)
  passes_awake entries D moved kept restless on awake = passes entries D moved kept restless on (λ linked. naps_later S.started S.scenario S.replies P T J log entries awake (p.naps linked)) (looks_later S.started S.scenario log entries awake p.looks)

  -- the clock is read
  pub reads : (n : ℕ) → IsPacing S P J (log ++ Told n ∷ []) C sims (waiting_seen T strict holds moments)
  reads n = passes_awake (Told n ∷ []) C (told_moved n C) refl (λ less after is. alone (Told n) Rest less after (λ e. cc) is) (tt, tt) (λ less after is. alone (Told n) Nap less after (λ e. cc) is)

  -- the links are looked at, and nothing is heard
  pub looks_around : (entries : List LogEntry) (D : CrewState) → IsUnheard entries C D → AreOfLinks (IsChannelLink C.channels) entries → IsPacing S P J (log ++ entries) D sims (waiting_seen T strict holds moments)
  looks_around entries D u of_links = passes_awake entries D u.moved u.kept (λ less after is. no_rests (IsChannelLink C.channels) entries of_links less after is)
      (on_or_clock (IsRunLink S.started S.scenario) entries (on_these (IsRunLink S.started S.scenario) entries (of_run S.started S.scenario C.channels entries (λ i l linked. let g = p.channels i l linked in (g.channel, g.there, g.link)) p.no_other of_links)))
      (λ less after is. no_naps entries less after (no_clock (IsChannelLink C.channels) entries of_links) is)

  -- where all channels are parked, nobody is ready, and what waits is early, a nap may be taken
  pub nap_here : ((i : ℕ) (w : Channel) → channel_at C i ≡ Some w → w.parked ≡ true) → ((i : ℕ) (x : Tier) → IsReady P (view P J) i x → ⊥) → ((i : ℕ) (low : i < sim_count P) → IsEarly T (last_told log) (p.holding i low).waiting)
      → IsNapOf S.started S.scenario S.replies P T J log
  nap_here parked nobody early = record {
    at = J;
    more = [];
    parts = sym (append_nil J);
    nobody = nobody;
    channels = λ i l linked.
        let h = p.channels i l linked in
        let low : i < sim_count P = subst (λ (n : ℕ). i < n) (sym (p.suits).sims) (linked_low S.started S.scenario i l linked) in
        record {
          channel = h.channel;
          link = h.link;
          parked = parked i h.channel h.there;
          queued = p.queued i;
          waiting = (p.holding i low).waiting;
          items = (p.holding i low).items;
          in_step = h.in_step;
          due = p.told i;
          early = early i low;
        };
    next = inl refl;
  }

  -- it is taken
  pub sleeps : IsNapOf S.started S.scenario S.replies P T J log → ((i : ℕ) (l : LinkNo) → sim_link S.started S.scenario i ≡ Some l → last_read l log ≡ Some (NotHeard l)) → IsPacing S P J (log ++ Nap ∷ []) C sims (waiting_seen T strict holds moments)
  sleeps here found = passes (Nap ∷ []) C (nap_moved C) refl (λ less after is. alone Nap Rest less after (λ e. cc) is) (tt, tt) naps looks
    where
      ends : (less after before : List LogEntry) → Nap ∷ [] ≡ less ++ Nap ∷ after → before ≡ log ++ less → before ≡ log
      ends [] after before is q = q ∙ append_nil log
      ends (x ∷ less) after before is q = absurd (not_empty less after Nap (same_heads is).1)

      naps : AreAllLinked S.scenario → AreNaps S.started S.scenario S.replies P T J (log ++ Nap ∷ [])
      naps linked before after is = elim (first_or_second log (Nap ∷ []) before after Nap is) [
        | inl t ↦ p.naps linked before t.0 t.1
        | inr t ↦ subst (λ (b : List LogEntry). IsNapOf S.started S.scenario S.replies P T J b) (sym (ends t.0 after before t.2 t.1)) here
      ]

      looks : NapsLook S.started S.scenario (log ++ Nap ∷ [])
      looks before after is i l linked = elim (first_or_second log (Nap ∷ []) before after Nap is) [
        | inl t ↦ p.looks before t.0 t.1 i l linked
        | inr t ↦ subst (λ (b : List LogEntry). last_read l b ≡ Some (NotHeard l)) (sym (ends t.0 after before t.2 t.1)) (found i l linked)
      ]
