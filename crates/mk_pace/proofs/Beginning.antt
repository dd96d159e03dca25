-- A paced run begins where the handshake is over and the clock told the origin.
use Rattle.std.proofs.Common.{◌≡◌, inl, inr, ℕ, ◌+◌, ◌<◌, Bool, true, false, ◌||◌, List, [], ◌∷◌, ◌++◌, length, length-append, replicate, Option, Some, None, slice_get, unwrap_or, refl, sym, ap, ◌∙◌, subst, arith}
use Rattle.std.specs.List.{list_any}
use Rattle.std.proofs.lemmas.List.{get_or-replicate, length-replicate}
use Rattle.std.proofs.lemmas.Option.{get_or_from_slice_get, slice_get-get_or, slice_get_within}
use Rattle.mk_base.specs.declared.LinkNo.{LinkNo}
use Rattle.mk_base.specs.Lists.{IsIn}
use Rattle.mk_base.proofs.Lists.{some_same}
use Rattle.mk_plan.specs.declared.Plan.{Plan}
use Rattle.mk_plan.specs.Journals.{Arrival}
use Rattle.mk_plan.specs.Plans.{sim_count}
use Rattle.mk_outside.specs.declared.fleet.LogEntry.{LogEntry}
use Rattle.mk_outside.specs.declared.fleet.LogEntry.TheVariants.{Rest, Told, Nap}
use Rattle.mk_outside.specs.Logs.{heard_on}
use Rattle.mk_sched.specs.Cores.{CoreState}
use Rattle.mk_run_laws.specs.Crews.{kept_of}
use Rattle.mk_run_laws.specs.Handshake.{is_within, sim_link}
use Rattle.mk_run_laws.specs.Hearing.{messages_heard}
use Rattle.mk_run_laws.specs.Channels.{Channel}
use Rattle.mk_run_laws.specs.Rests.{AllSetUp, IsWellInSetup}
use Rattle.mk_run_laws.specs.inner.Running.{HasChannel}
use Rattle.mk_run_laws.proofs.Stepping.{first_or_second}
use Rattle.mk_run_laws.proofs.Taking.{taken_heard}
use Rattle.mk_run_links.specs.Entries.{IsClockless, IsRunLink}
use Rattle.mk_run_links.proofs.OnEntries.{on_or_clock, or_clock_more}
use Rattle.mk_run_links.specs.Places.{AreOpen}
use Rattle.mk_run_crew.specs.Seen.{CrewSeen, crew_of}
use Rattle.mk_run_crew.specs.Attempts.{Attempt}
use Rattle.mk_run.specs.inner.Underway.{IsUnderway, Setting}
use Rattle.mk_run.specs.inner.Turns.{AreLinksOpen}
use Rattle.mk_run.proofs.Beginning.{links_open, run_begins, setting_of}
use Rattle.mk_pace_held.specs.declared.held.Held.{Held}
use Rattle.mk_pace_laws.specs.declared.end.PaceEnd.{PaceEnd}
use Rattle.mk_pace_laws.specs.Clocks.{is_told}
use Rattle.mk_pace_laws.specs.Paced.{IsAwake}
use Rattle.mk_pace_loop.specs.inner.Pacing.{BeginsWithStep, IsPacing, held_at, replies_kept}
use Rattle.mk_pace_loop.specs.inner.Turns.{IsStopping}
use Rattle.mk_pace_loop.specs.inner.Waiting.{WaitingSeen, waiting_seen}
use Rattle.mk_pace_loop.proofs.Passing.{no_naps, alone}
use Rattle.mk_pace_loop.proofs.Queueing.{has_channel_moved, told_moved}
use Rattle.mk_pace.specs.inner.Going.{IsStarted}
use Rattle.mk_pace.proofs.Whole.{untold_entry}
use Rattle.mk_base.proofs.Items.{not_empty}

-- nothing waits of any simulator
nothing_held : (n i : ℕ) → i < n → slice_get (replicate {A = List Held} n []) i ≡ Some []
nothing_held n i low =
    let size : length (replicate {A = List Held} n []) ≡ n = length-replicate n [] in
    slice_get-get_or (replicate {A = List Held} n []) i [] (omega (arith, size, low)) ∙ ap (λ (h : List Held). Some h) (get_or-replicate n i [] [] low)

held_none : (n i : ℕ) (h : List Held) → slice_get (replicate {A = List Held} n []) i ≡ Some h → h ≡ []
held_none n i h there =
    let size : length (replicate {A = List Held} n []) ≡ n = length-replicate n [] in
    let low = slice_get_within (replicate {A = List Held} n []) i h there in
    sym (get_or_from_slice_get (replicate {A = List Held} n []) i h [] there) ∙ get_or-replicate n i [] [] (omega (arith, size, low))

held_nowhere : (n i : ℕ) → held_at (replicate {A = List Held} n []) i ≡ []
held_nowhere n i = go (slice_get (replicate {A = List Held} n []) i) refl
  where
    go : (o : Option (List Held)) → slice_get (replicate {A = List Held} n []) i ≡ o → unwrap_or o [] ≡ []
    go None is = refl
    go (Some h) is = held_none n i h is

none_told : (log : List LogEntry) → IsClockless log → list_any is_told log ≡ false
none_told [] all = refl
none_told (e ∷ log) all = ap (λ (b : Bool). b || list_any is_told log) (untold_entry e all.0) ∙ none_told log all.1

module _ (A : Attempt) (C : CrewSeen) (P : Plan) (s : IsStarted A C P) where
  abbrev pub setting_at : Setting
  setting_at = setting_of A.started A.scenario A.ranks A.rows A.log C P s.begun

  underway : IsUnderway setting_at P [] A.log (crew_of C) C.sims
  underway = run_begins A.started A.scenario A.ranks A.rows A.log C P s.begun s.prepared

  -- all messages of the handshake were heard
  set_up : AllSetUp A.started A.scenario A.log
  set_up i l linked =
      let t = s.begun.begun.channels i l linked in
      let heard : messages_heard (heard_on l A.log) ≡ s.begun.replies i ++ messages_heard t.0.held = ap (λ (k : LinkNo). messages_heard (heard_on k A.log)) (sym t.2) ∙ taken_heard (heard_on t.0.link A.log) (s.begun.replies i) t.0.held t.3.heard in
      let size : length (messages_heard (heard_on l A.log)) ≡ length (s.begun.replies i) + length (messages_heard t.0.held) = ap length heard ∙ length-append (s.begun.replies i) (messages_heard t.0.held) in
      let count = s.begun.counts i l linked in
      omega (arith, size, count)

  awake : IsAwake A.log
  awake before after is = no_naps A.log before after s.clockless is

  pub links_at : (open_links : List LinkNo) → AreOpen C.channels open_links → AreLinksOpen setting_at open_links
  links_at open_links all = links_open A.started A.scenario A.ranks A.rows A.log C P s.begun open_links all

  module _ (origin factor : ℕ) (strict : Option ℕ) where
    told_once : List LogEntry
    told_once = A.log ++ Told origin ∷ []

    channels_told : (i : ℕ) (l : LinkNo) → sim_link A.started A.scenario i ≡ Some l → HasChannel A.scenario s.begun.replies (A.log ++ Told origin ∷ []) i l [] [] (crew_of C)
    channels_told i l linked = has_channel_moved A.scenario s.begun.replies A.log (Told origin ∷ []) i l [] [] [] (crew_of C) (crew_of C) (underway.running.channels i l linked) (told_moved origin (crew_of C) i)

    rests_told : (before after : List LogEntry) → A.log ++ Told origin ∷ [] ≡ before ++ Rest ∷ after → IsWellInSetup A.started A.scenario before × (AllSetUp A.started A.scenario before → ⊥)
    rests_told before after is = elim (first_or_second A.log (Told origin ∷ []) before after Rest is) [
      | inl t ↦ (s.begun.rests before t.0 t.1, s.begun.begun.setting_up before t.0 t.1)
      | inr t ↦ absurd (alone (Told origin) Rest t.0 after (λ e. cc) t.2)
    ]

    awake_told : IsAwake (A.log ++ Told origin ∷ [])
    awake_told before after is = elim (first_or_second A.log (Told origin ∷ []) before after Nap is) [
      | inl t ↦ awake before t.0 t.1
      | inr t ↦ alone (Told origin) Nap t.0 after (λ e. cc) t.2
    ]

    none_kept : (i : ℕ) → is_within A.scenario i ≡ true → length (kept_of i (crew_of C).kept) ≡ 0
    none_kept i within = ap (λ (k : List Arrival). length (kept_of i k)) s.begun.begun.none_kept

    pub begins : IsPacing setting_at P [] (A.log ++ Told origin ∷ []) (crew_of C) C.sims (waiting_seen (record { origin = origin; factor = factor }) strict (replicate (sim_count P) []) [])
    begins = record {
      suits = underway.suits;
      stands = underway.stands;
      patient = underway.patient;
      in_range = underway.in_range;
      no_fault = underway.no_fault;
      count = length-replicate (sim_count P) [];
      queued = λ i. [];
      holding = λ i low. record { held = []; there = nothing_held (sim_count P) i low; waiting = []; items = refl; are = tt };
      steps = λ i h all there. subst BeginsWithStep (sym (held_none (sim_count P) i h there)) tt;
      fit = λ i low within. tt;
      channels = channels_told;
      no_channel = underway.running.no_channel;
      no_other = underway.no_other;
      kept = λ i. underway.running.kept i ∙ ap (replies_kept setting_at P [] i) (sym (held_nowhere (sim_count P) i));
      kinds = underway.running.kinds;
      come = underway.come;
      only_within = underway.only_within;
      setup_rests = rests_told;
      on_links = or_clock_more (IsRunLink A.started A.scenario) A.log (Told origin ∷ []) (on_or_clock (IsRunLink A.started A.scenario) A.log s.begun.on_links) (tt, tt);
      origin = record { before = A.log; later = []; parts = refl; set_up = set_up; untold = none_told A.log s.clockless; awake = awake };
      told = λ i first later x inputs advance parts. absurd (not_empty first later _ parts);
      timely = λ i l linked before after is first later x inputs advance parts early. absurd (not_empty first later _ parts);
      moments_are = record {
        steps = λ i. ([], refl);
        moment = tt;
        due = tt;
        told = tt;
        in_time = λ allowed is. tt;
        in_order = λ rising first later m is. absurd (not_empty first later m is);
      };
      counts = λ i low. refl;
      replied = λ i within. let e = none_kept i within in omega (arith, e);
      naps = λ linked before after is. absurd (awake_told before after is);
      looks = λ before after is. absurd (awake_told before after is);
    }

-- the links of a crew that is to be stopped are open still
pub stopping_open : (risen : Type 0) (S : Setting) (core : CoreState) (log : List LogEntry) (C : CrewSeen) (W : WaitingSeen) (end : PaceEnd) (open_links : List LinkNo) → IsStopping risen S core log C W end → AreLinksOpen S open_links → AreOpen C.channels open_links
stopping_open risen S core log C W end open_links u links i w there =
    let t = u.no_other i w there in
    let g = (u.channels i t.0 t.1).channel in
    subst (λ (l : LinkNo). IsIn l open_links) (sym (ap (λ (v : Channel). v.link) (some_same (sym there ∙ g.there)) ∙ g.link)) (links i t.0 t.1)
