-- The core took a message, and nothing is owed after it; or what is owed waits.
use Rattle.std.proofs.Common.{◌≡◌, inl, inr, ℕ, ◌+◌, ◌<◌, true, List, [], ◌∷◌, ◌++◌, length, Option, Some, None, is_some, slice_get, unwrap_or, refl, sym, ap, ◌∙◌, subst, append_assoc}
use Rattle.mk_base.specs.declared.SimNo.{SimNo}
use Rattle.mk_base.proofs.Lists.{some_same}
use Rattle.mk_plan.specs.declared.Entry.{Entry}
use Rattle.mk_plan.specs.declared.Entry.TheVariants.{Sent, Got}
use Rattle.mk_plan.specs.declared.Item.{Item}
use Rattle.mk_plan.specs.declared.Message.{Message}
use Rattle.mk_plan.specs.declared.Plan.{Plan}
use Rattle.mk_plan.specs.Journals.{Arrival, sent, view}
use Rattle.mk_plan.specs.Plans.{first_id, sim_count}
use Rattle.mk_plan.specs.Sequential.{takes_id, id_after}
use Rattle.mk_outside.specs.declared.fleet.LogEntry.{LogEntry}
use Rattle.mk_local.specs.Replies.{IsItemReplied}
use Rattle.mk_local.specs.Simulators.{Simulator}
use Rattle.mk_sched.specs.Cores.{Stands}
use Rattle.mk_sched.specs.Answers.{SomeReady}
use Rattle.mk_run_laws.specs.Handshake.{is_within}
use Rattle.mk_run_laws.specs.Crews.{CrewState, IsHeard, kept_of}
use Rattle.mk_run_laws.specs.inner.Running.{HasChannel}
use Rattle.mk_run_laws.proofs.Stepping.{after_message, item_leaves_open, open_got, open_sent, sent_away, sent_here, got_sent, sent_got}
use Rattle.mk_run_links.specs.Entries.{AreOfLinks, IsRunLink}
use Rattle.mk_run_links.proofs.OnEntries.{no_rests}
use Rattle.mk_run_local.specs.Calls.{IsFitSuccess}
use Rattle.mk_run.specs.inner.Underway.{Setting, reply_in}
use Rattle.mk_run.proofs.LastItem.{get_last}
use Rattle.mk_run.proofs.LoopSteps.{owed_after}
use Rattle.mk_sched.proofs.Pushed.{fault_after_sent, patient_got, patient_sent}
use Rattle.mk_run.proofs.Pushed.{kinds_sent, range_got, range_sent, sent_front}
use Rattle.mk_pace_held.specs.declared.held.Held.{Held}
use Rattle.mk_pace_held.specs.Firsts.{IsChanged}
use Rattle.mk_pace_laws.specs.declared.end.Moment.{Moment}
use Rattle.mk_pace_laws.specs.Moments.{Tempo}
use Rattle.mk_pace_laws.specs.Naps.{AreNaps}
use Rattle.mk_pace_loop.specs.inner.Pacing.{AreHeldItems, BeginsWithStep, IsHolding, IsOneAtMost, IsPacing, IsPacingFor, held_at, replies_kept}
use Rattle.mk_pace_loop.specs.inner.Waiting.{DueAs, waiting_seen}
use Rattle.mk_pace_loop.proofs.Grown.{begins_push, held_longer, held_push, kept_got, kept_sent, moments_longer, none_pushed, none_shut, none_waits, one_moved}
use Rattle.mk_pace_loop.proofs.Meeting.{met_fits, met_kept_away, met_kept_here, met_kinds, met_channels, met_looks, met_moments, met_naps, met_no_channel, met_no_other, met_replied, met_timely, met_told, met_within}
use Rattle.mk_pace_loop.proofs.Passing.{on_later, origin_later, setup_later}
use Rattle.mk_base.proofs.Counts.{same_or_not}

module _ (S : Setting) (T : Tempo) (strict : Option ℕ) (P : Plan) (J : List Entry) (before entries : List LogEntry) (C D : CrewState) (sims : List (Option Simulator)) (holds : List (List Held)) (moments : List Moment) (p : IsPacing S P J before C sims (waiting_seen T strict holds moments))
    (s : SimNo) (m : Message) (nobody : SomeReady P J → ⊥) (of_links : AreOfLinks (IsRunLink S.started S.scenario) entries) (fit : (k : Arrival) (more : List Arrival) → C.kept ≡ k ∷ more → IsFitSuccess m) (heard : IsHeard entries s.0 m C D)
    (owes : (view P J).owed ≡ None) (fine : (view P (J ++ Got s m ∷ [])).fault ≡ None) where
  abbrev K : List Entry
  K = J ++ Got s m ∷ []

  -- what is held of simulator i with the message, and fits it, but for the one that sent it
  abbrev still_held : (i : ℕ) → i < sim_count P → IsHolding P T K holds i (p.queued i)
  still_held i low =
      let t = p.holding i low in
      record {
        held = t.held;
        there = t.there;
        waiting = t.waiting;
        items = sent_got J s m i ∙ t.items;
        are = held_longer P T J (Got s m) i (p.queued i) t.held t.waiting t.are;
      }

  -- of a simulator within the program that sent it nothing waits
  none_here : (low : s.0 < sim_count P) → is_within S.scenario s.0 ≡ true → (p.holding s.0 low).waiting ≡ []
  none_here low inside =
      let t = p.holding s.0 low in
      none_waits P T J s.0 (p.queued s.0) t.held t.waiting t.are
      (ap (λ (o : Option (List Held)). unwrap_or o []) (sym t.there) ∙ (met_within S T strict P J before entries C D sims holds moments p s m nobody of_links fit heard inside).1)

  still_fit : (i : ℕ) (low : i < sim_count P) → is_within S.scenario i ≡ true → IsOneAtMost P K i (p.holding i low).waiting
  still_fit i low inside = elim (same_or_not i s.0) [
    | inl q ↦ subst (λ (j : ℕ). (low : j < sim_count P) → is_within S.scenario j ≡ true → IsOneAtMost P K j (p.holding j low).waiting) (sym q) (λ low inside. subst (IsOneAtMost P K s.0) (sym (none_here low inside)) tt) low inside
    | inr apart ↦ one_moved P J K i (p.holding i low).waiting (open_got P J s m i apart) (p.fit i low inside)
  ]

  kept_still : (i : ℕ) → (i ≡ s.0 → ⊥) → kept_of i D.kept ≡ replies_kept S P K i (held_at holds i)
  kept_still i apart = met_kept_away S T strict P J before entries C D sims holds moments p s m nobody of_links fit heard i apart ∙ p.kept i ∙ sym (kept_got S P J s m i (held_at holds i) apart)

  -- nothing is owed
  pub quiet_on : Stands P (J ++ Got s m ∷ []) → (view P (J ++ Got s m ∷ [])).owed ≡ None → IsPacing S P (J ++ Got s m ∷ []) (before ++ entries) D sims (waiting_seen T strict holds moments)
  quiet_on stands none = record {
    suits = p.suits;
    stands = stands;
    patient = patient_got P J s m p.patient nobody;
    in_range = range_got J s m p.in_range (met_fits S T strict P J before entries C D sims holds moments p s m nobody of_links fit heard);
    no_fault = fine;
    count = p.count;
    queued = p.queued;
    holding = still_held;
    steps = p.steps;
    fit = still_fit;
    channels = met_channels S T strict P J before entries C D sims holds moments p s m nobody of_links fit heard;
    no_channel = met_no_channel S T strict P J before entries C D sims holds moments p s m nobody of_links fit heard;
    no_other = met_no_other S T strict P J before entries C D sims holds moments p s m nobody of_links fit heard;
    kept = kept_at;
    kinds = met_kinds S T strict P J before entries C D sims holds moments p s m nobody of_links fit heard;
    come = p.come;
    only_within = p.only_within;
    setup_rests = setup_later S.started S.scenario before entries (no_rests (IsRunLink S.started S.scenario) entries of_links) p.setup_rests;
    on_links = on_later S.started S.scenario before entries p.on_links of_links;
    origin = origin_later S.started S.scenario before entries T.origin p.origin;
    told = met_told S T strict P J before entries C D sims holds moments p s m nobody of_links fit heard;
    timely = met_timely S T strict P J before entries C D sims holds moments p s m nobody of_links fit heard;
    moments_are = met_moments S T strict P J before entries C D sims holds moments p s m nobody of_links fit heard;
    counts = p.counts;
    replied = met_replied S T strict P J before entries C D sims holds moments p s m nobody of_links fit heard;
    naps = met_naps S T strict P J before entries C D sims holds moments p s m nobody of_links fit heard [];
    looks = met_looks S T strict P J before entries C D sims holds moments p s m nobody of_links fit heard;
  }
    where
      kept_at : (i : ℕ) → kept_of i D.kept ≡ replies_kept S P K i (held_at holds i)
      kept_at i = elim (same_or_not i s.0) [
        | inl q ↦ subst (λ (j : ℕ). kept_of j D.kept ≡ replies_kept S P K j (held_at holds j)) (sym q)
            (met_kept_here S T strict P J before entries C D sims holds moments p s m nobody of_links fit heard ∙ sym (none_shut S P K s.0 (held_at holds s.0) ((after_message P J s m owes fine).0 none)))
        | inr apart ↦ kept_still i apart
      ]

  -- an item is owed, and waits behind what waits of its simulator
  module _ (item : Item) (stands : Stands P ((J ++ Got s m ∷ []) ++ Sent s item ∷ [])) (owed : (view P (J ++ Got s m ∷ [])).owed ≡ Some (record { sim = s.0; item = item })) (begins : ℕ → Type 0) (after : List (List Held)) (was : List Held) (h : Held)
      (ch : IsChanged s.0 was (was ++ h ∷ []) holds after) (place : h.place + 1 ≡ length ((J ++ Got s m ∷ []) ++ Sent s item ∷ [])) (numbered : takes_id item ≡ true → h.id ≡ id_after (first_id P s.0) (sent (J ++ Got s m ∷ []) s.0)) (due : DueAs T item h.due)
      (only : begins s.0 → was ≡ [] → ⊥) where
    abbrev L : List Entry
    L = (J ++ Got s m ∷ []) ++ Sent s item ∷ []

    abbrev HeldSo : ℕ → Type 0
    HeldSo i = (t : IsHolding P T L after i (p.queued i)) × (is_within S.scenario i ≡ true → IsOneAtMost P L i t.waiting)

    replied_so : is_within S.scenario s.0 ≡ true → IsItemReplied item
    replied_so inside =
        let f = (met_within S T strict P J before entries C D sims holds moments p s m nobody of_links fit heard inside).0 in
        subst IsItemReplied (sym ((owed_after P J s m item owes owed).after_success f.id f.content f.is)) tt

    open_so : is_some ((view P L).open_at s.0) ≡ true
    open_so = item_leaves_open P K s item ((after_message P J s m owes fine).1 (record { sim = s.0; item = item }) owed)

    here : s.0 < sim_count P → HeldSo s.0
    here low =
        let t = p.holding s.0 low in
        let same : t.held ≡ was = some_same (sym t.there ∙ ch.there) in
        let g = still_held s.0 low in (
          record {
            held = was ++ h ∷ [];
            there = ch.here;
            waiting = t.waiting ++ item ∷ [];
            items = sent_here K s item ∙ ap (λ (l : List Item). l ++ item ∷ []) g.items ∙ append_assoc (p.queued s.0) t.waiting (item ∷ []);
            are = held_push P T L s.0 (p.queued s.0) was t.waiting h item
                (subst (λ (l : List Held). AreHeldItems P T L s.0 (p.queued s.0) l t.waiting) same (held_longer P T K (Sent s item) s.0 (p.queued s.0) t.held t.waiting g.are))
                (record { sim = s; whose = refl; there = get_last K (Sent s item) h.place place; id = λ takes. numbered takes ∙ ap (id_after (first_id P s.0)) g.items; due = due });
          },
          (λ inside. subst (λ (l : List Item). IsOneAtMost P L s.0 (l ++ item ∷ [])) (sym (none_here low inside)) (replied_so inside, open_so)),
        )

    away : (i : ℕ) → i < sim_count P → (i ≡ s.0 → ⊥) → HeldSo i
    away i low apart =
        let g = still_held i low in (
          record {
            held = g.held;
            there = ch.others i apart ∙ g.there;
            waiting = g.waiting;
            items = sent_away K s item i apart ∙ g.items;
            are = held_longer P T K (Sent s item) i (p.queued i) g.held g.waiting g.are;
          },
          (λ inside. one_moved P K L i g.waiting (open_sent P K s item i apart) (still_fit i low inside)),
        )

    all : (i : ℕ) → i < sim_count P → HeldSo i
    all i low = elim (same_or_not i s.0) [
      | inl q ↦ subst HeldSo (sym q) (here (subst (λ (n : ℕ). n < sim_count P) q low))
      | inr apart ↦ away i low apart
    ]

    steps_at : (i : ℕ) (held : List Held) → begins i → slice_get after i ≡ Some held → BeginsWithStep held
    steps_at i held b there = elim (same_or_not i s.0) [
      | inl q ↦ subst BeginsWithStep (sym (some_same (sym there ∙ ap (slice_get after) q ∙ ch.here))) (begins_push was h (p.steps s.0 was tt ch.there) (λ none. absurd (only (subst begins q b) none)))
      | inr apart ↦ p.steps i held tt (sym (ch.others i apart) ∙ there)
    ]

    kept_at : (i : ℕ) → kept_of i D.kept ≡ replies_kept S P L i (held_at after i)
    kept_at i = elim (same_or_not i s.0) [
      | inl q ↦ subst (λ (j : ℕ). kept_of j D.kept ≡ replies_kept S P L j (held_at after j)) (sym q)
          (met_kept_here S T strict P J before entries C D sims holds moments p s m nobody of_links fit heard
          ∙ sym (ap (λ (o : Option (List Held)). replies_kept S P L s.0 (unwrap_or o [])) ch.here ∙ none_pushed S P L s.0 was h))
      | inr apart ↦ kept_still i apart ∙ sym (kept_sent S P K s item i (held_at holds i) apart) ∙ ap (λ (o : Option (List Held)). replies_kept S P L i (unwrap_or o [])) (sym (ch.others i apart))
    ]

    pub owed_waits : IsPacingFor begins S P ((J ++ Got s m ∷ []) ++ Sent s item ∷ []) (before ++ entries) D sims (waiting_seen T strict after moments)
    owed_waits = record {
      suits = p.suits;
      stands = stands;
      patient = patient_sent P K s item (patient_got P J s m p.patient nobody);
      in_range = range_sent K s item (range_got J s m p.in_range (met_fits S T strict P J before entries C D sims holds moments p s m nobody of_links fit heard));
      no_fault = fault_after_sent P K s item fine;
      count = ch.count ∙ p.count;
      queued = p.queued;
      holding = λ i low. (all i low).0;
      steps = steps_at;
      fit = λ i low inside. (all i low).1 inside;
      channels = λ i l linked. subst (λ (ms : List Message). HasChannel S.scenario S.replies (before ++ entries) i l ms (p.queued i) D) (sym (got_sent K s item i))
          (met_channels S T strict P J before entries C D sims holds moments p s m nobody of_links fit heard i l linked);
      no_channel = met_no_channel S T strict P J before entries C D sims holds moments p s m nobody of_links fit heard;
      no_other = met_no_other S T strict P J before entries C D sims holds moments p s m nobody of_links fit heard;
      kept = kept_at;
      kinds = kinds_sent (reply_in S) (is_within S.scenario) P K s item (met_kinds S T strict P J before entries C D sims holds moments p s m nobody of_links fit heard);
      come = p.come;
      only_within = p.only_within;
      setup_rests = setup_later S.started S.scenario before entries (no_rests (IsRunLink S.started S.scenario) entries of_links) p.setup_rests;
      on_links = on_later S.started S.scenario before entries p.on_links of_links;
      origin = origin_later S.started S.scenario before entries T.origin p.origin;
      told = met_told S T strict P J before entries C D sims holds moments p s m nobody of_links fit heard;
      timely = met_timely S T strict P J before entries C D sims holds moments p s m nobody of_links fit heard;
      moments_are = moments_longer T strict K L (before ++ entries) moments (sent_front K (Sent s item)) (met_moments S T strict P J before entries C D sims holds moments p s m nobody of_links fit heard);
      counts = p.counts;
      replied = λ i inside. ap (λ (ms : List Message). length ms + length (kept_of i D.kept)) (got_sent K s item i) ∙ met_replied S T strict P J before entries C D sims holds moments p s m nobody of_links fit heard i inside;
      naps = λ linked. subst (λ (k : List Entry). AreNaps S.started S.scenario S.replies P T k (before ++ entries)) (sym (append_assoc J (Got s m ∷ []) (Sent s item ∷ [])))
          (met_naps S T strict P J before entries C D sims holds moments p s m nobody of_links fit heard (Sent s item ∷ []) linked);
      looks = met_looks S T strict P J before entries C D sims holds moments p s m nobody of_links fit heard;
    }
