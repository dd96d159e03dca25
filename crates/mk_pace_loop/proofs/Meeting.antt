-- A message was heard, and the core has it.
use Rattle.std.proofs.Common.{◌≡◌, inl, inr, ℕ, suc, ◌+◌, ◌<◌, Bool, true, false, ◌&&◌, List, [], ◌∷◌, ◌++◌, length, map, filter, Option, Some, None, is_some, refl, sym, ap, ◌∙◌, subst, arith, if◌then◌else◌, true≢false, length-append}
use Rattle.std.specs.List.{cons_option}
use Rattle.mk_base.specs.declared.LinkNo.{LinkNo}
use Rattle.mk_base.specs.declared.SimNo.{SimNo}
use Rattle.mk_base.proofs.Lists.{append_nil, none_some}
use Rattle.mk_plan.specs.declared.Entry.{Entry}
use Rattle.mk_plan.specs.declared.Entry.TheVariants.{Got}
use Rattle.mk_plan.specs.declared.Message.{Message}
use Rattle.mk_plan.specs.declared.Plan.{Plan}
use Rattle.mk_plan.specs.Journals.{Arrival, OpenTurn, bare, got, sent, view}
use Rattle.mk_plan.specs.Plans.{sim_count}
use Rattle.mk_plan.specs.Sequential.{takes_id}
use Rattle.mk_outside.specs.declared.fleet.LogEntry.{LogEntry}
use Rattle.mk_outside.specs.declared.fleet.LogEntry.TheVariants.{Nap}
use Rattle.mk_local.specs.Simulators.{Simulator}
use Rattle.mk_sched.specs.Answers.{SomeReady}
use Rattle.mk_run_laws.specs.Handshake.{is_within, sim_link}
use Rattle.mk_run_laws.specs.Kinds.{IsKindReply, KeepsToKinds, Replies}
use Rattle.mk_run_laws.specs.Channels.{Channel}
use Rattle.mk_run_laws.specs.Crews.{CrewState, IsHeard, IsMovedAt, given_by, kept_of, channel_at}
use Rattle.mk_run_laws.specs.Running.{BeginsOnLink}
use Rattle.mk_run_laws.specs.inner.Running.{HasChannel}
use Rattle.mk_run_laws.proofs.Stepping.{sent_got, got_given, given_here, given_away}
use Rattle.mk_run_laws.proofs.Moving.{moved_none}
use Rattle.mk_run_links.specs.Entries.{AreOfLinks, IsRunLink}
use Rattle.mk_run_links.proofs.OnEntries.{no_clock}
use Rattle.mk_run_local.specs.Calls.{IsFitSuccess}
use Rattle.mk_run.specs.inner.Underway.{HasNoOther, Setting, reply_in}
use Rattle.mk_run.proofs.InRange.{success_in_range}
use Rattle.mk_run.proofs.Linked.{linked_outside, no_other_heard, within_below}
use Rattle.mk_sched.proofs.Pushed.{last_or_before}
use Rattle.mk_run.proofs.Hearing.{taken_read}
use Rattle.mk_pace_held.specs.declared.held.Held.{Held}
use Rattle.mk_pace_laws.specs.declared.end.Moment.{Moment}
use Rattle.mk_pace_laws.specs.Moments.{AreMoments, Tempo}
use Rattle.mk_pace_laws.specs.Naps.{AreAllLinked, AreNaps, AreTold, IsTimely, NapsLook}
use Rattle.mk_pace_laws.proofs.Timely.{timely_more, told_later}
use Rattle.mk_pace_loop.specs.inner.Pacing.{IsPacing, held_at, replies_kept}
use Rattle.mk_pace_loop.specs.inner.Waiting.{waiting_seen}
use Rattle.mk_pace_loop.proofs.Grown.{moments_longer, naps_longer}
use Rattle.mk_pace_loop.proofs.Passing.{looks_later, moments_later, naps_later, no_naps}
use Rattle.mk_pace_loop.proofs.Queueing.{has_channel_moved}
use Rattle.mk_base.proofs.Counts.{not_same, same_or_not, same_self}
use Rattle.mk_base.proofs.Items.{same_heads}
use Rattle.mk_plan.specs.Messages.{is_message_in_range}

not_nil : {X : Type 0} {x : X} {xs : List X} → x ∷ xs ≡ [] → ⊥
not_nil e = cc

same_channels : (i : ℕ) (C D : CrewState) → D.channels ≡ C.channels → channel_at D i ≡ channel_at C i
same_channels i C D e = ap (λ (l : List (Option Channel)). channel_at (record { channels = l; kept = [] }) i) e

-- one more message, which is its kind's
kinds_got : (reply : Replies) (within : ℕ → Bool) (P : Plan) (J : List Entry) (s : SimNo) (m : Message) → (within s.0 ≡ true → IsKindReply reply P J s.0 m) → KeepsToKinds reply within P J → KeepsToKinds reply within P (J ++ Got s m ∷ [])
kinds_got reply within P J s m one kinds H t n more is inside = elim (last_or_before J (Got s m) H (Got t n) more is) [
  | inl z ↦ let e = got_is z.1 in subst (λ (K : List Entry). IsKindReply reply P K t.0 n) z.0 (subst (λ (k : Message). IsKindReply reply P J t.0 k) e.1 (subst (λ (q : SimNo). IsKindReply reply P J q.0 m) e.0 (one (ap (λ (q : SimNo). within q.0) e.0 ∙ inside))))
  | inr z ↦ kinds H t n z.0 z.1 inside
]
  where
    got_is : Got s m ≡ Got t n → (s ≡ t) × (m ≡ n)
    got_is e = (cc, cc)

-- a reply that is kept is awaited of a simulator within the program, of which nothing is held
pub record IsTakenReply (S : Setting) (P : Plan) (J : List Entry) (s : ℕ) (m : Message) (held : List Held) (left : List Message) : Type 0 where
  pub inside : is_within S.scenario s ≡ true
  pub opened : is_some ((view P J).open_at s) ≡ true
  pub none_held : held ≡ []
  pub is_kind : IsKindReply (reply_in S) P J s m
  pub none_left : left ≡ []

taken_reply : (S : Setting) (P : Plan) (J : List Entry) (s : ℕ) (m : Message) (held : List Held) (left : List Message) → m ∷ left ≡ replies_kept S P J s held → IsTakenReply S P J s m held left
taken_reply S P J s m (k ∷ held) left e = absurd (not_nil e)
taken_reply S P J s m [] left e = by_cases (is_within S.scenario s) ((view P J).open_at s) refl refl e
  where
    by_cases : (a : Bool) (o : Option OpenTurn) → is_within S.scenario s ≡ a → (view P J).open_at s ≡ o → m ∷ left ≡ (if a && is_some o then reply_in S s (map bare (sent J s)) ∷ [] else []) → IsTakenReply S P J s m [] left
    by_cases false o inside opened h = absurd (not_nil h)
    by_cases true None inside opened h = absurd (not_nil h)
    by_cases true (Some t) inside opened h = record {
      inside = inside;
      opened = ap (λ (o : Option OpenTurn). is_some o) opened;
      none_held = refl;
      is_kind = record { is = (same_heads h).0; open_there = λ shut. none_some (sym shut ∙ opened) };
      none_left = (same_heads h).1;
    }

module _ (S : Setting) (T : Tempo) (strict : Option ℕ) (P : Plan) (J : List Entry) (before entries : List LogEntry) (C D : CrewState) (sims : List (Option Simulator)) (holds : List (List Held)) (moments : List Moment) (p : IsPacing S P J before C sims (waiting_seen T strict holds moments))
    (s : SimNo) (m : Message) (nobody : SomeReady P J → ⊥) (of_links : AreOfLinks (IsRunLink S.started S.scenario) entries) (fit : (k : Arrival) (more : List Arrival) → C.kept ≡ k ∷ more → IsFitSuccess m) (heard : IsHeard entries s.0 m C D) where
  -- where it was kept
  pub taken_kept : C.kept ≡ record { sim = s.0; message = m } ∷ D.kept → IsTakenReply S P J s.0 m (held_at holds s.0) (kept_of s.0 D.kept)
  taken_kept is = taken_reply S P J s.0 m (held_at holds s.0) (kept_of s.0 D.kept) (ap (λ (b : Bool). cons_option (if b then Some m else None) (kept_of s.0 D.kept)) (sym (same_self s.0)) ∙ ap (kept_of s.0) (sym is) ∙ p.kept s.0)

  -- where it is of a link
  linked_out : (w : Channel) → channel_at C s.0 ≡ Some w → is_within S.scenario s.0 ≡ false
  linked_out w there = let t = p.no_other s.0 w there in (linked_outside S.started S.scenario s.0 t.0 t.1).0

  -- it is of a simulator of the plan
  pub met_low : s.0 < sim_count P
  met_low = go heard
    where
      in_plan : s.0 < length S.scenario.sims → s.0 < sim_count P
      in_plan low = subst (λ (n : ℕ). s.0 < n) (sym (p.suits).sims) low

      go : IsHeard entries s.0 m C D → s.0 < sim_count P
      go (IsHeard.kept is channels none) = in_plan (within_below S.scenario s.0 (taken_kept is).inside)
      go (IsHeard.on_link none after w there moved parked) = let t = p.no_other s.0 w there in in_plan (linked_outside S.started S.scenario s.0 t.0 t.1).1

  -- its numbers are in range
  pub met_fits : is_message_in_range m ≡ true
  met_fits = go heard
    where
      by_channel : (o q : Option Channel) (w : Channel) → o ≡ Some w → IsMovedAt entries (given_by s.0 m s.0) o q → is_message_in_range m ≡ true
      by_channel None q w e moved = absurd (none_some e)
      by_channel (Some v) None w e moved = absurd moved
      by_channel (Some v) (Some x) w e moved = taken_read _ (given_by s.0 m s.0) _ m moved.taken (given_here s.0 m)

      go : IsHeard entries s.0 m C D → is_message_in_range m ≡ true
      go (IsHeard.kept is channels none) = success_in_range m (fit (record { sim = s.0; message = m }) D.kept is)
      go (IsHeard.on_link none after w there moved parked) = by_channel (channel_at C s.0) (channel_at D s.0) w there (moved s.0)

  pub met_in_range : is_message_in_range m ≡ true
  met_in_range = met_fits

  -- that of a simulator within the program is a success, and nothing of it is held
  pub met_within : is_within S.scenario s.0 ≡ true → IsFitSuccess m × (held_at holds s.0 ≡ [])
  met_within inside = go heard
    where
      go : IsHeard entries s.0 m C D → IsFitSuccess m × (held_at holds s.0 ≡ [])
      go (IsHeard.kept is channels none) = (fit (record { sim = s.0; message = m }) D.kept is, (taken_kept is).none_held)
      go (IsHeard.on_link none after w there moved parked) = absurd (true≢false (sym inside ∙ linked_out w there))

  -- the channels, once the message is an entry
  pub met_channels : (i : ℕ) (l : LinkNo) → sim_link S.started S.scenario i ≡ Some l → HasChannel S.scenario S.replies (before ++ entries) i l (got (J ++ Got s m ∷ []) i) (p.queued i) D
  met_channels i l linked = go heard
    where
      go : IsHeard entries s.0 m C D → HasChannel S.scenario S.replies (before ++ entries) i l (got (J ++ Got s m ∷ []) i) (p.queued i) D
      go (IsHeard.kept is channels none) =
          let g = p.channels i l linked in
          let apart : i ≡ s.0 → ⊥ = (λ q. true≢false (sym (taken_kept is).inside ∙ ap (is_within S.scenario) (sym q) ∙ (linked_outside S.started S.scenario i l linked).0)) in
          let log_is : before ++ entries ≡ before = ap (λ (e : List LogEntry). before ++ e) none ∙ append_nil before in
          let given_is : got (J ++ Got s m ∷ []) i ≡ got J i = got_given J s m i ∙ ap (λ (l : List Message). got J i ++ l) (given_away s.0 m i apart) ∙ append_nil (got J i) in
          subst (λ (b : List LogEntry). HasChannel S.scenario S.replies b i l (got (J ++ Got s m ∷ []) i) (p.queued i) D) (sym log_is)
          (subst (λ (ms : List Message). HasChannel S.scenario S.replies before i l ms (p.queued i) D) (sym given_is)
          (record { channel = g.channel; there = same_channels i C D channels ∙ g.there; link = g.link; in_step = g.in_step }))
      go (IsHeard.on_link none after w there moved parked) =
          subst (λ (ms : List Message). HasChannel S.scenario S.replies (before ++ entries) i l ms (p.queued i) D) (sym (got_given J s m i))
          (has_channel_moved S.scenario S.replies before entries i l (got J i) (given_by s.0 m i) (p.queued i) C D (p.channels i l linked) (moved i))

  pub met_no_channel : (i : ℕ) → is_within S.scenario i ≡ true → channel_at D i ≡ None
  met_no_channel i inside = go heard
    where
      go : IsHeard entries s.0 m C D → channel_at D i ≡ None
      go (IsHeard.kept is channels none) = same_channels i C D channels ∙ p.no_channel i inside
      go (IsHeard.on_link none after w there moved parked) = moved_none entries (given_by s.0 m i) (channel_at C i) (channel_at D i) (p.no_channel i inside) (moved i)

  pub met_no_other : HasNoOther S D
  met_no_other = no_other_heard S entries s.0 m C D heard p.no_other

  -- what is kept then
  pub met_kept_here : kept_of s.0 D.kept ≡ []
  met_kept_here = go heard
    where
      go : IsHeard entries s.0 m C D → kept_of s.0 D.kept ≡ []
      go (IsHeard.kept is channels none) = (taken_kept is).none_left
      go (IsHeard.on_link none after w there moved parked) = ap (kept_of s.0) after

  pub met_kept_away : (i : ℕ) → (i ≡ s.0 → ⊥) → kept_of i D.kept ≡ kept_of i C.kept
  met_kept_away i apart = go heard
    where
      go : IsHeard entries s.0 m C D → kept_of i D.kept ≡ kept_of i C.kept
      go (IsHeard.kept is channels none) = ap (λ (b : Bool). cons_option (if b then Some m else None) (kept_of i D.kept)) (sym (not_same s.0 i (λ q. apart (sym q)))) ∙ ap (kept_of i) (sym is)
      go (IsHeard.on_link none after w there moved parked) = ap (kept_of i) (after ∙ sym none)

  pub met_kinds : KeepsToKinds (reply_in S) (is_within S.scenario) P (J ++ Got s m ∷ [])
  met_kinds = kinds_got (reply_in S) (is_within S.scenario) P J s m one p.kinds
    where
      go : is_within S.scenario s.0 ≡ true → IsHeard entries s.0 m C D → IsKindReply (reply_in S) P J s.0 m
      go inside (IsHeard.kept is channels none) = (taken_kept is).is_kind
      go inside (IsHeard.on_link none after w there moved parked) = absurd (true≢false (sym inside ∙ linked_out w there))

      one : is_within S.scenario s.0 ≡ true → IsKindReply (reply_in S) P J s.0 m
      one inside = go inside heard

  -- a simulator within the program replies to what was queued alone
  pub met_replied : (i : ℕ) → is_within S.scenario i ≡ true → length (got (J ++ Got s m ∷ []) i) + length (kept_of i D.kept) ≡ length (filter takes_id (p.queued i))
  met_replied i inside = elim (same_or_not i s.0) [
    | inl q ↦ subst (λ (j : ℕ). length (got (J ++ Got s m ∷ []) j) + length (kept_of j D.kept) ≡ length (filter takes_id (p.queued j))) (sym q) (here (ap (is_within S.scenario) (sym q) ∙ inside) heard)
    | inr apart ↦
        let a : got (J ++ Got s m ∷ []) i ≡ got J i = got_given J s m i ∙ ap (λ (l : List Message). got J i ++ l) (given_away s.0 m i apart) ∙ append_nil (got J i) in
        ap (λ (l : List Message). length l + length (kept_of i D.kept)) a ∙ ap (λ (l : List Message). length (got J i) + length l) (met_kept_away i apart) ∙ p.replied i inside
  ]
    where
      here : is_within S.scenario s.0 ≡ true → IsHeard entries s.0 m C D → length (got (J ++ Got s m ∷ []) s.0) + length (kept_of s.0 D.kept) ≡ length (filter takes_id (p.queued s.0))
      here inside (IsHeard.kept is channels none) =
          let counted = p.replied s.0 inside in
          let one : length (kept_of s.0 C.kept) ≡ suc (length (kept_of s.0 D.kept)) =
          ap (λ (k : List Arrival). length (kept_of s.0 k)) is ∙ ap (λ (b : Bool). length (cons_option (if b then Some m else None) (kept_of s.0 D.kept))) (same_self s.0) in
          let more : length (got (J ++ Got s m ∷ []) s.0) ≡ length (got J s.0) + 1 = ap length (got_given J s m s.0 ∙ ap (λ (l : List Message). got J s.0 ++ l) (given_here s.0 m)) ∙ length-append (got J s.0) (m ∷ []) in
          omega (arith, counted, one, more)
      here inside (IsHeard.on_link none after w there moved parked) = absurd (true≢false (sym inside ∙ linked_out w there))

  -- nothing is told or slept
  awake : (less after : List LogEntry) → entries ≡ less ++ Nap ∷ after → ⊥
  awake less after is = no_naps entries less after (no_clock (IsRunLink S.started S.scenario) entries of_links) is

  pub met_told : (i : ℕ) → AreTold T (before ++ entries) (p.queued i)
  met_told i = told_later T before entries (p.queued i) (p.told i)

  pub met_timely : (i : ℕ) (l : LinkNo) → sim_link S.started S.scenario i ≡ Some l → IsTimely T S.scenario i l (p.queued i) (before ++ entries)
  met_timely i l linked = timely_more T S.scenario i l (p.queued i) before entries (p.told i) (p.timely i l linked)

  pub met_naps_before : AreAllLinked S.scenario → AreNaps S.started S.scenario S.replies P T J (before ++ entries)
  met_naps_before linked = naps_later S.started S.scenario S.replies P T J before entries awake (p.naps linked)

  -- it is of a link, where all have one
  pub met_begins : AreAllLinked S.scenario → (later : List Entry) → BeginsOnLink S.started S.scenario (Got s m ∷ later)
  met_begins linked later = go heard
    where
      go : IsHeard entries s.0 m C D → BeginsOnLink S.started S.scenario (Got s m ∷ later)
      go (IsHeard.kept is channels none) = absurd (linked s.0 (taken_kept is).inside)
      go (IsHeard.on_link none after w there moved parked) = let t = p.no_other s.0 w there in (s, m, later, t.0, refl, t.1)

  pub met_naps : (later : List Entry) → AreAllLinked S.scenario → AreNaps S.started S.scenario S.replies P T (J ++ Got s m ∷ later) (before ++ entries)
  met_naps later linked = naps_longer S.started S.scenario S.replies P T J (before ++ entries) (met_naps_before linked) (Got s m ∷ later) (λ nobody. met_begins linked later)

  pub met_looks : NapsLook S.started S.scenario (before ++ entries)
  met_looks = looks_later S.started S.scenario before entries awake p.looks

  pub met_moments : AreMoments T strict (J ++ Got s m ∷ []) (before ++ entries) moments
  met_moments = moments_longer T strict J (J ++ Got s m ∷ []) (before ++ entries) moments (λ i. ([], sent_got J s m i ∙ sym (append_nil (sent J i)))) (moments_later T strict J before entries moments p.moments_are)
