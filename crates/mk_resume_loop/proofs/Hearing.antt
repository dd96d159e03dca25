-- A message was heard by a resumed run: whose it is, what it may be, and what it leaves.
use Rattle.std.proofs.Common.{◌≡◌, inl, inr, ℕ, ◌+◌, ◌<◌, Bool, true, List, [], ◌∷◌, ◌++◌, length, Option, Some, None, if◌then◌else◌, sym, ap, ◌∙◌, subst, arith, length-append}
use Rattle.mk_base.specs.declared.LinkNo.{LinkNo}
use Rattle.mk_base.specs.declared.SimNo.{SimNo}
use Rattle.mk_base.proofs.Lists.{none_some}
use Rattle.mk_plan.specs.declared.Plan.{Plan}
use Rattle.mk_plan.specs.declared.Item.{Item}
use Rattle.mk_plan.specs.declared.Message.{Message}
use Rattle.mk_plan.specs.declared.Entry.{Entry}
use Rattle.mk_plan.specs.Plans.{sim_count}
use Rattle.mk_outside.specs.declared.fleet.LogEntry.{LogEntry}
use Rattle.mk_outside.specs.declared.fleet.LogEntry.TheVariants.{Rest}
use Rattle.mk_outside.specs.Logs.{heard_on}
use Rattle.mk_local.specs.Simulators.{Simulator}
use Rattle.mk_run_laws.specs.Hearing.{messages_heard}
use Rattle.mk_run_laws.specs.Handshake.{setup_count, sim_link, is_within}
use Rattle.mk_run_laws.specs.Channels.{Channel}
use Rattle.mk_run_laws.specs.Crews.{CrewState, channel_at, given_by, IsMovedAt, IsHeard}
use Rattle.mk_run_laws.specs.Rests.{AllSetUp}
use Rattle.mk_run_laws.proofs.Stepping.{first_or_second}
use Rattle.mk_run_laws.proofs.Taking.{takes_on, taken_heard}
use Rattle.mk_run_links.specs.Entries.{AreOn, IsRunLink}
use Rattle.mk_run_links.proofs.OnEntries.{on_more}
use Rattle.mk_run_local.specs.Calls.{IsFitSuccess}
use Rattle.mk_run.specs.Ends.{SetupRestsWell}
use Rattle.mk_run.specs.inner.Underway.{Setting, reply_in, Suits, HasNoOther, IsLogRight}
use Rattle.mk_run.proofs.Hearing.{taken_read}
use Rattle.mk_run.proofs.InRange.{success_in_range}
use Rattle.mk_run.proofs.Linked.{linked_outside, within_below, no_other_heard}
use Rattle.mk_resume_walk.specs.Talks.{free_items}
use Rattle.mk_resume_links.specs.Rests.{Counts, repeated}
use Rattle.mk_resume_links.specs.inner.Touching.{IsInTouch}
use Rattle.mk_resume_links.specs.inner.Catching.{WasAwaited, awaited}
use Rattle.mk_resume_links.proofs.Catching.{apart_within}
use Rattle.mk_resume_loop.specs.inner.Underway.{IsMet, IsResuming, saved_of}
use Rattle.mk_base.proofs.Counts.{same_self}
use Rattle.mk_outside.proofs.OnLogs.{heard-append}
use Rattle.mk_plan.specs.Messages.{is_message_in_range}

-- ---- the handshake's rests: once the run goes on, all have set up

module _ (T : Setting) (messages : ℕ → List Message) (items : ℕ → List Item) (awaits : ℕ → List Message) where
  all_set_up : (P : Plan) (log : List LogEntry) (C : CrewState) → Suits T P → IsInTouch messages items awaits T.started T.scenario T.replies log C → (less : List LogEntry) → AllSetUp T.started T.scenario (log ++ less)
  all_set_up P log C suits touch less i l linked =
      let h = touch.channels i l linked in
      let ms : List Message = T.replies i ++ messages i in
      let t = takes_on (heard_on h.channel.link log) ms h.channel.held (heard_on h.channel.link less) h.in_step.heard in
      let heard : messages_heard (heard_on l (log ++ less)) ≡ ms ++ messages_heard (h.channel.held ++ heard_on h.channel.link less) =
      ap (λ (k : LinkNo). messages_heard (heard_on k (log ++ less))) (sym h.link) ∙ ap messages_heard (heard-append h.channel.link log less)
      ∙ taken_heard (heard_on h.channel.link log ++ heard_on h.channel.link less) ms (h.channel.held ++ heard_on h.channel.link less) t in
      let a : length (messages_heard (heard_on l (log ++ less))) ≡ length ms + length (messages_heard (h.channel.held ++ heard_on h.channel.link less)) = ap length heard ∙ length-append ms (messages_heard (h.channel.held ++ heard_on h.channel.link less)) in
      let b : length ms ≡ length (T.replies i) + length (messages i) = length-append (T.replies i) (messages i) in
      let c : length (T.replies i) ≡ setup_count T.scenario i = suits.counts i l linked in
      omega (arith, a, b, c)

  setup_rests_on : (P : Plan) (log entries : List LogEntry) (C : CrewState) → Suits T P → IsInTouch messages items awaits T.started T.scenario T.replies log C → SetupRestsWell T.started T.scenario log → SetupRestsWell T.started T.scenario (log ++ entries)
  setup_rests_on P log entries C suits touch rests before after is not_up = elim (first_or_second log entries before after Rest is) [
    | inl t ↦ rests before t.0 t.1 not_up
    | inr t ↦ absurd (not_up (subst (AllSetUp T.started T.scenario) (sym t.1) (all_set_up P log C suits touch t.0)))
  ]

  pub log_right_on : (P : Plan) (log entries : List LogEntry) (C : CrewState) → Suits T P → IsInTouch messages items awaits T.started T.scenario T.replies log C → IsLogRight T log → AreOn (IsRunLink T.started T.scenario) entries → IsLogRight T (log ++ entries)
  log_right_on P log entries C suits touch right more = record {
    setup_rests = setup_rests_on P log entries C suits touch right.setup_rests;
    on_links = on_more (IsRunLink T.started T.scenario) log entries right.on_links more;
  }

module _ (T : Setting) (P : Plan) (first J : List Entry) (heard : Counts) (log : List LogEntry) (s : SimNo) (m : Message) (D : CrewState) (sims : List (Option Simulator)) (h : IsMet T P first J heard log s.0 m D sims) where
  abbrev u : IsResuming T P first J heard h.before h.crew sims
  u = h.resuming

  -- a kept reply was awaited
  pub met_kept : h.crew.kept ≡ record { sim = s.0; message = m } ∷ D.kept → D.channels ≡ h.crew.channels → h.entries ≡ [] → WasAwaited T.scenario (reply_in T) J heard s.0 m D.kept
  met_kept is channels none = (apart_within (saved_of first) T.started T.scenario T.replies (reply_in T) P J heard h.before h.entries h.crew D s.0 m u.catching is channels none).2

  pub met_back : (w : Channel) → channel_at h.crew s.0 ≡ Some w → (l : LinkNo) × (sim_link T.started T.scenario s.0 ≡ Some l)
  met_back w there = u.no_other s.0 w there

  -- it is of a simulator of the plan
  pub met_low : s.0 < sim_count P
  met_low = go h.met
    where
      in_plan : s.0 < length T.scenario.sims → s.0 < sim_count P
      in_plan low = subst (λ (n : ℕ). s.0 < n) (sym u.suits.sims) low

      go : IsHeard h.entries s.0 m h.crew D → s.0 < sim_count P
      go (IsHeard.kept is channels none) = in_plan (within_below T.scenario s.0 (met_kept is channels none).inside)
      go (IsHeard.on_link none after w there moved parked) = let t = met_back w there in in_plan (linked_outside T.started T.scenario s.0 t.0 t.1).1

  -- its numbers are in range
  pub met_fits : is_message_in_range m ≡ true
  met_fits = go h.met
    where
      by_channel : (o p : Option Channel) (w : Channel) → o ≡ Some w → IsMovedAt h.entries (given_by s.0 m s.0) o p → is_message_in_range m ≡ true
      by_channel None p w e moved = absurd (none_some e)
      by_channel (Some v) None w e moved = absurd moved
      by_channel (Some v) (Some x) w e moved = taken_read _ (given_by s.0 m s.0) _ m moved.taken (ap (λ (b : Bool). if b then m ∷ [] else []) (same_self s.0))

      go : IsHeard h.entries s.0 m h.crew D → is_message_in_range m ≡ true
      go (IsHeard.kept is channels none) = success_in_range m (h.fit (record { sim = s.0; message = m }) D.kept is)
      go (IsHeard.on_link none after w there moved parked) = by_channel (channel_at h.crew s.0) (channel_at D s.0) w there (moved s.0)

  pub met_in_range : is_message_in_range m ≡ true
  met_in_range = met_fits

  -- that of a simulator within the program is a success
  pub met_success : is_within T.scenario s.0 ≡ true → IsFitSuccess m
  met_success inside = go h.met
    where
      go : IsHeard h.entries s.0 m h.crew D → IsFitSuccess m
      go (IsHeard.kept is channels none) = h.fit (record { sim = s.0; message = m }) D.kept is
      go (IsHeard.on_link none after w there moved parked) = absurd (none_some (sym (u.catching.touch.no_channel s.0 inside) ∙ there))

  pub met_no_other : HasNoOther T D
  met_no_other = no_other_heard T h.entries s.0 m h.crew D h.met u.no_other

  pub met_log_right : IsLogRight T log
  met_log_right = subst (IsLogRight T) (sym h.parts)
      (log_right_on T (λ i. repeated J i (heard i)) (λ i. free_items J i (heard i)) (awaited T.scenario (reply_in T) J heard) P h.before h.entries h.crew u.suits u.catching.touch u.log_right h.on_links)
