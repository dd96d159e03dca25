-- A Step was asked for, and waits.
use Rattle.std.proofs.Common.{◌≡◌, inl, inr, ℕ, ◌+◌, ◌<◌, ℤ, true, false, List, [], ◌∷◌, ◌++◌, length, Option, Some, is_some, slice_get, slice_set, unwrap_or, length-append, refl, sym, ap, ◌∙◌, subst, append_assoc, true≢false}
use Rattle.mk_base.specs.declared.SimNo.{SimNo}
use Rattle.mk_base.specs.declared.tier.Tier.{Tier}
use Rattle.mk_base.proofs.Lists.{below_get, some_same}
use Rattle.mk_plan.specs.declared.Entry.{Entry}
use Rattle.mk_plan.specs.declared.Entry.TheVariants.{Sent}
use Rattle.mk_plan.specs.declared.Input.{Input}
use Rattle.mk_plan.specs.declared.Item.{Item}
use Rattle.mk_plan.specs.declared.Item.TheVariants.{Step}
use Rattle.mk_plan.specs.declared.Message.{Message}
use Rattle.mk_plan.specs.declared.Plan.{Plan}
use Rattle.mk_plan.specs.Journals.{OpenTurn, sent, view}
use Rattle.mk_plan.specs.Plans.{first_id, sim_count}
use Rattle.mk_plan.specs.Ready.{IsReady}
use Rattle.mk_plan.specs.Sequential.{id_after}
use Rattle.mk_outside.specs.declared.fleet.LogEntry.{LogEntry}
use Rattle.mk_local.specs.Simulators.{Simulator}
use Rattle.mk_sched.specs.Cores.{CoreState, Stands}
use Rattle.mk_sched.specs.Answers.{IsAsked}
use Rattle.mk_run_laws.specs.Crews.{CrewState, kept_of}
use Rattle.mk_run_laws.specs.Handshake.{is_within}
use Rattle.mk_run_laws.specs.inner.Running.{HasChannel}
use Rattle.mk_run_laws.proofs.Stepping.{open_sent, sent_away, sent_here, got_sent, step_opens}
use Rattle.mk_run_crew.specs.Seen.{CrewSeen, crew_of}
use Rattle.mk_run.specs.inner.Sendings.{EndsWithItem}
use Rattle.mk_run.specs.inner.Underway.{Setting, reply_in}
use Rattle.mk_run.proofs.LastItem.{get_last}
use Rattle.mk_run.proofs.LoopSteps.{asked_opens, asked_ready}
use Rattle.mk_sched.proofs.Pushed.{fault_after_sent, patient_sent}
use Rattle.mk_run.proofs.Pushed.{kinds_sent, range_sent, sent_front}
use Rattle.mk_run.proofs.Times.{ready_time}
use Rattle.mk_pace_held.specs.declared.held.Held.{Held}
use Rattle.mk_pace_held.specs.Firsts.{IsChanged}
use Rattle.mk_pace_laws.specs.declared.end.Moment.{Moment}
use Rattle.mk_pace_laws.specs.Moments.{Tempo, moment_at}
use Rattle.mk_pace_loop.specs.inner.Pacing.{AreHeldItems, BeginsWithStep, IsHolding, IsOneAtMost, IsPacing, held_at, replies_kept}
use Rattle.mk_pace_loop.specs.inner.Turns.{GoesOn}
use Rattle.mk_pace_loop.specs.inner.Waiting.{DueAs, HasTime, IsHeldLast, WaitingSeen, waiting_seen}
use Rattle.mk_pace_loop.proofs.Grown.{begins_push, changed_set, held_longer, held_push, kept_sent, moments_longer, naps_longer, none_pushed, none_shut, one_moved}
use Rattle.mk_base.proofs.Counts.{same_or_not}

module _ (S : Setting) (T : Tempo) (strict : Option ℕ) (P : Plan) (J : List Entry) (log : List LogEntry) (C : CrewState) (sims : List (Option Simulator)) (holds after : List (List Held)) (moments : List Moment) (p : IsPacing S P J log C sims (waiting_seen T strict holds moments))
    (s : SimNo) (x : Tier) (inputs : List Input) (advance : ℤ) (ready : IsReady P (view P J) s.0 x) (stands : Stands P (J ++ Sent s (Step x inputs advance) ∷ []))
    (was : List Held) (h : Held) (ch : IsChanged s.0 was (was ++ h ∷ []) holds after) (place : h.place + 1 ≡ length (J ++ Sent s (Step x inputs advance) ∷ [])) (numbered : h.id ≡ id_after (first_id P s.0) (sent J s.0)) (due : DueAs T (Step x inputs advance) h.due) where
  abbrev item : Item
  item = Step x inputs advance

  abbrev K : List Entry
  K = J ++ Sent s (Step x inputs advance) ∷ []

  shut : is_some ((view P J).open_at s.0) ≡ false
  shut = ap (λ (o : Option OpenTurn). is_some o) ready.closed

  -- what is held of simulator i, and fits it
  abbrev HeldSo : ℕ → Type 0
  HeldSo i = (t : IsHolding P T K after i (p.queued i)) × (is_within S.scenario i ≡ true → IsOneAtMost P K i t.waiting)

  one_here : (waiting : List Item) → IsOneAtMost P J s.0 waiting → IsOneAtMost P K s.0 (waiting ++ item ∷ [])
  one_here [] one = let t = ready_time P (p.stands).valid J (p.stands).orderly.0 s.0 x ready in ((t.0, t.1), step_opens P J s x inputs advance)
  one_here (i ∷ []) one = absurd (true≢false (sym one.1 ∙ shut))
  one_here (i ∷ (j ∷ more)) one = absurd one

  here : s.0 < sim_count P → HeldSo s.0
  here low =
      let t = p.holding s.0 low in
      let same : t.held ≡ was = some_same (sym t.there ∙ ch.there) in (
        record {
          held = was ++ h ∷ [];
          there = ch.here;
          waiting = t.waiting ++ item ∷ [];
          items = sent_here J s item ∙ ap (λ (l : List Item). l ++ item ∷ []) t.items ∙ append_assoc (p.queued s.0) t.waiting (item ∷ []);
          are = held_push P T K s.0 (p.queued s.0) was t.waiting h item
              (subst (λ (l : List Held). AreHeldItems P T K s.0 (p.queued s.0) l t.waiting) same (held_longer P T J (Sent s item) s.0 (p.queued s.0) t.held t.waiting t.are))
              (record { sim = s; whose = refl; there = get_last J (Sent s item) h.place place; id = λ takes. numbered ∙ ap (id_after (first_id P s.0)) t.items; due = due });
        },
        (λ inside. one_here t.waiting (p.fit s.0 low inside)),
      )

  away : (i : ℕ) → i < sim_count P → (i ≡ s.0 → ⊥) → HeldSo i
  away i low apart =
      let t = p.holding i low in (
        record {
          held = t.held;
          there = ch.others i apart ∙ t.there;
          waiting = t.waiting;
          items = sent_away J s item i apart ∙ t.items;
          are = held_longer P T J (Sent s item) i (p.queued i) t.held t.waiting t.are;
        },
        (λ inside. one_moved P J K i t.waiting (open_sent P J s item i apart) (p.fit i low inside)),
      )

  all : (i : ℕ) → i < sim_count P → HeldSo i
  all i low = elim (same_or_not i s.0) [
    | inl q ↦ subst HeldSo (sym q) (here (subst (λ (n : ℕ). n < sim_count P) q low))
    | inr apart ↦ away i low apart
  ]

  steps_at : (i : ℕ) (held : List Held) → slice_get after i ≡ Some held → BeginsWithStep held
  steps_at i held there = elim (same_or_not i s.0) [
    | inl q ↦ subst BeginsWithStep (sym (some_same (sym there ∙ ap (slice_get after) q ∙ ch.here))) (begins_push was h (p.steps s.0 was tt ch.there) (λ none. (record { at = x; moment = moment_at T x.time }, due)))
    | inr apart ↦ p.steps i held tt (sym (ch.others i apart) ∙ there)
  ]

  kept_at : (i : ℕ) → kept_of i C.kept ≡ replies_kept S P K i (held_at after i)
  kept_at i = elim (same_or_not i s.0) [
    | inl q ↦ subst (λ (j : ℕ). kept_of j C.kept ≡ replies_kept S P K j (held_at after j)) (sym q)
        (p.kept s.0 ∙ none_shut S P J s.0 (held_at holds s.0) shut ∙ sym (ap (λ (o : Option (List Held)). replies_kept S P K s.0 (unwrap_or o [])) ch.here ∙ none_pushed S P K s.0 was h))
    | inr apart ↦ p.kept i ∙ sym (kept_sent S P J s item i (held_at holds i) apart) ∙ ap (λ (o : Option (List Held)). replies_kept S P K i (unwrap_or o [])) (sym (ch.others i apart))
  ]

  pub asked_waits : IsPacing S P (J ++ Sent s (Step x inputs advance) ∷ []) log C sims (waiting_seen T strict after moments)
  asked_waits = record {
    suits = p.suits;
    stands = stands;
    patient = patient_sent P J s item p.patient;
    in_range = range_sent J s item p.in_range;
    no_fault = fault_after_sent P J s item p.no_fault;
    count = ch.count ∙ p.count;
    queued = p.queued;
    holding = λ i low. (all i low).0;
    steps = λ i held begins there. steps_at i held there;
    fit = λ i low inside. (all i low).1 inside;
    channels = λ i l linked. subst (λ (ms : List Message). HasChannel S.scenario S.replies log i l ms (p.queued i) C) (sym (got_sent J s item i)) (p.channels i l linked);
    no_channel = p.no_channel;
    no_other = p.no_other;
    kept = kept_at;
    kinds = kinds_sent (reply_in S) (is_within S.scenario) P J s item p.kinds;
    come = p.come;
    only_within = p.only_within;
    setup_rests = p.setup_rests;
    on_links = p.on_links;
    origin = p.origin;
    told = p.told;
    timely = p.timely;
    moments_are = moments_longer T strict J K log moments (sent_front J (Sent s item)) p.moments_are;
    counts = p.counts;
    replied = λ i inside. ap (λ (ms : List Message). length ms + length (kept_of i C.kept)) (got_sent J s item i) ∙ p.replied i inside;
    naps = λ linked. naps_longer S.started S.scenario S.replies P T J log (p.naps linked) (Sent s item ∷ []) (λ nobody. absurd (nobody s.0 x ready));
    looks = p.looks;
  }

-- what waits is seen with its other parts as they were
pub as_seen : (S : Setting) (P : Plan) (J : List Entry) (log : List LogEntry) (C : CrewState) (sims : List (Option Simulator)) (W V : WaitingSeen) → V.tempo ≡ W.tempo → V.strict ≡ W.strict → V.moments ≡ W.moments
    → IsPacing S P J log C sims (waiting_seen W.tempo W.strict V.holds W.moments) → IsPacing S P J log C sims V
as_seen S P J log C sims W V tempo strict moments p =
    subst (λ (m : List Moment). IsPacing S P J log C sims (waiting_seen V.tempo V.strict V.holds m)) (sym moments)
    (subst (λ (o : Option ℕ). IsPacing S P J log C sims (waiting_seen V.tempo o V.holds W.moments)) (sym strict)
    (subst (λ (t : Tempo). IsPacing S P J log C sims (waiting_seen t W.strict V.holds W.moments)) (sym tempo) p))

module _ (S : Setting) (old new : CoreState) (log : List LogEntry) (C : CrewSeen) (W : WaitingSeen) (s : SimNo) (p : GoesOn S old log C W) (stands : Stands new.plan new.entries) (a : IsAsked old s new) where
  abbrev step : Item
  step = Step a.at a.inputs a.advance

  ready_so : IsReady old.plan (view old.plan old.entries) s.0 a.at
  ready_so = asked_ready old new s p.stands a

  stands_so : Stands old.plan (old.entries ++ Sent s (Step a.at a.inputs a.advance) ∷ [])
  stands_so = subst (λ (c : CoreState). Stands c.plan c.entries) a.moved stands

  pub asked_low : s.0 < sim_count new.plan
  asked_low = subst (λ (c : CoreState). s.0 < sim_count c.plan) (sym a.moved) (ready_time old.plan (p.stands).valid old.entries (p.stands).orderly.0 s.0 a.at ready_so).2

  pub asked_sized : length W.holds ≡ sim_count new.plan
  asked_sized = p.count ∙ ap (λ (c : CoreState). sim_count c.plan) (sym a.moved)

  pub asked_ends : EndsWithItem new s (Step a.at a.inputs a.advance) (id_after (first_id old.plan s.0) (sent old.entries s.0))
  asked_ends = record { before = old.entries; last = ap (λ (c : CoreState). c.entries) a.moved; opened = asked_opens old new s p.stands a }

  pub asked_time : HasTime (Step a.at a.inputs a.advance)
  asked_time = let t = ready_time old.plan (p.stands).valid old.entries (p.stands).orderly.0 s.0 a.at ready_so in (t.0, t.1)

  -- the Step waits
  pub asked_on : (V : WaitingSeen) → IsHeldLast new s (Step a.at a.inputs a.advance) (id_after (first_id old.plan s.0) (sent old.entries s.0)) W V → GoesOn S new log C V
  asked_on V k = subst (λ (c : CoreState). GoesOn S c log C V) (sym a.moved)
      (as_seen S old.plan (old.entries ++ Sent s (Step a.at a.inputs a.advance) ∷ []) log (crew_of C) C.sims W V (k.anew).same.tempo (k.anew).same.strict (k.anew).moments
      (asked_waits S W.tempo W.strict old.plan old.entries log (crew_of C) C.sims W.holds V.holds W.moments p s a.at a.inputs a.advance ready_so stands_so k.was k.held (k.anew).changed
      (k.place ∙ ap (λ (c : CoreState). length c.entries) a.moved) k.numbered k.due))

  -- it would wait, if there were memory
  low_so : s.0 < length W.holds
  low_so = subst (λ (n : ℕ). s.0 < n) (sym p.count) (ready_time old.plan (p.stands).valid old.entries (p.stands).orderly.0 s.0 a.at ready_so).2

  abbrev ghost_held : Held
  ghost_held = record { place = length old.entries; id = id_after (first_id old.plan s.0) (sent old.entries s.0); due = Some (record { at = a.at; moment = moment_at W.tempo (a.at).time }) }

  pub asked_unheld : (after : List (List Held)) × IsPacing S new.plan new.entries log (crew_of C) C.sims (waiting_seen W.tempo W.strict after W.moments)
  asked_unheld =
      let b = below_get W.holds s.0 low_so in
      let after : List (List Held) = slice_set W.holds s.0 (b.0 ++ ghost_held ∷ []) in (
        after,
        subst (λ (c : CoreState). IsPacing S c.plan c.entries log (crew_of C) C.sims (waiting_seen W.tempo W.strict after W.moments)) (sym a.moved)
            (asked_waits S W.tempo W.strict old.plan old.entries log (crew_of C) C.sims W.holds after W.moments p s a.at a.inputs a.advance ready_so stands_so b.0 ghost_held
            (changed_set W.holds s.0 b.0 (b.0 ++ ghost_held ∷ []) b.1) (sym (length-append old.entries (Sent s (Step a.at a.inputs a.advance) ∷ []))) refl refl),
      )
