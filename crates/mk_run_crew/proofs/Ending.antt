-- What is left behind a handshake: a crew that has begun, or one that was stopped.
use Rattle.std.proofs.lemmas.Fmt.{length-decimal-le_succ}
use Rattle.std.proofs.Common.{decimal, ◌≡◌, ℕ, ◌<◌, true, List, [], ◌++◌, length, take, drop, filter_map, fold, Option, Some, None, option_map, refl, sym, ap, ◌∙◌, subst, ◌⊎◌, inl, inr, arith, true≢false, append_assoc}
use Rattle.mk_base.specs.declared.LinkNo.{LinkNo}
use Rattle.mk_base.proofs.Lists.{none_some, in_front}
use Rattle.mk_frame.specs.Frames.{IsTooLong, frames_of}
use Rattle.mk_message.specs.Written.{call_text}
use Rattle.mk_outside.specs.declared.fleet.LogEntry.{LogEntry}
use Rattle.mk_outside.specs.declared.fleet.LogEntry.TheVariants.{Rest, Ended}
use Rattle.mk_outside.specs.Logs.{heard_on}
use Rattle.mk_plan.specs.declared.Call.TheVariants.{Stop}
use Rattle.mk_plan.specs.declared.Message.{Message}
use Rattle.mk_plan.specs.declared.Plan.{Plan}
use Rattle.mk_plan.specs.Plans.{IsValidPlan, first_id, sim_count}
use Rattle.mk_plan.specs.Journals.{Arrival}
use Rattle.mk_scenario.specs.declared.parts.Scenario.{Scenario}
use Rattle.mk_run_crew.specs.Attempts.{attempt}
use Rattle.mk_local.specs.declared.turn.Turn.{Turn}
use Rattle.mk_local.specs.Calls.{after_call}
use Rattle.mk_local.specs.Simulators.{Simulator}
use Rattle.mk_session.specs.Fronts.{BeginsGarbled}
use Rattle.mk_run_laws.specs.Channels.{Channel}
use Rattle.mk_run_laws.specs.Crews.{CrewState, AreStopped, IsRestless}
use Rattle.mk_run_laws.specs.Handshake.{Request, setup_requests, call_to, setup_count, sim_link, is_within}
use Rattle.mk_run_laws.specs.Hearing.{rest_heard}
use Rattle.mk_run_laws.specs.Payloads.{IsFramed, link_payloads}
use Rattle.mk_run_laws.specs.Running.{IsBegun}
use Rattle.mk_run_laws.specs.inner.Running.{IsBetween}
use Rattle.mk_run_laws.proofs.Clauses.{handshake_says}
use Rattle.mk_run_laws.proofs.Greeting.{greeted}
use Rattle.mk_run_laws.proofs.Moving.{heard_at_stop}
use Rattle.mk_run_laws.proofs.Stepping.{first_or_second}
use Rattle.mk_setup.specs.Handshakes.{IsMade}
use Rattle.mk_run_links.specs.Entries.{AreOn, IsRunLink}
use Rattle.mk_run_links.specs.Places.{IsChannelLink, at, crew}
use Rattle.mk_run_links.proofs.OnEntries.{on_more, on_or_clock, on_run}
use Rattle.mk_run_links.proofs.OnStops.{framed_is}
use Rattle.mk_run_local.specs.Made.{first_at}
use Rattle.mk_run_crew.specs.declared.halt.Halt.{Halt}
use Rattle.mk_run_crew.specs.declared.halt.Halt.TheVariants as halt
use Rattle.mk_run_crew.specs.inner.Asking.{IsAnswered, IsHalting}
use Rattle.mk_run_crew.specs.Begun.{HasBegun}
use Rattle.mk_run_crew.specs.Halted.{HasHalted, ShowsCause}
use Rattle.mk_run_crew.specs.Seen.{CrewSeen, crew_of}
use Rattle.mk_run_crew.proofs.ButOne.{none_asked, still_answered}
use Rattle.mk_run_crew.proofs.Requests.{none_dropped}
use Rattle.mk_run_crew.proofs.Simulators.{linked_away}
use Rattle.mk_run_crew.proofs.Stopped.{all_said}
use Rattle.mk_base.proofs.Items.{not_empty, take_all}

module _ (started : ℕ) (S : Scenario) (ranks : List ℕ) (rows : List Turn) where
  -- ---- a crew that has begun

  pub begun_now : (log : List LogEntry) (answers : List Message) (C : CrewSeen) (P : Plan) → IsAnswered started S rows log answers C → IsMade S ranks answers P → IsValidPlan P → sim_count P ≡ length S.sims → ((i : ℕ) → i < length S.sims → first_id P i ≡ setup_count S i)
      → HasBegun (attempt started S ranks rows log) C P
  begun_now log answers C P a m valid sims first = record {
    answers = answers;
    made = m;
    kinds = a.kinds;
    replies = a.replies;
    told = a.told;
    counts = λ i l e. (a.between).counts i l e ∙ ap (λ (rs : List Request). length (filter_map (call_to i) rs)) whole;
    begun = subst (λ (D : CrewState). IsBegun started S a.replies log D) (ap (λ (ks : List Arrival). let D : CrewState = record { channels = C.channels; kept = ks } in D) (sym a.kept))
        (greeted started S a.replies log (crew C.channels) (setup_requests S) over no_channel refl);
    rests = λ before after is. ((a.between).rests before after is).0;
    valid = valid;
    sims = sims;
    first = first;
    within = λ i. a.sims i ∙ ap (λ (rs : List Request). option_map (λ (L : Simulator). fold after_call L (filter_map (call_to i) rs)) (first_at rows S i)) whole;
    known = a.known;
    back = a.back;
    places = a.places;
    halt = a.halt;
    on_links = a.on_links;
  }
    where
      whole : take (length answers) (setup_requests S) ≡ setup_requests S
      whole = ap (λ (n : ℕ). take n (setup_requests S)) m.all ∙ take_all (setup_requests S)

      over : IsBetween started S a.replies log (crew C.channels) (setup_requests S) []
      over = subst (λ (rs : List Request). IsBetween started S a.replies log (crew C.channels) rs []) whole
          (subst (λ (rs : List Request). IsBetween started S a.replies log (crew C.channels) (take (length answers) (setup_requests S)) rs) (ap (λ (n : ℕ). drop n (setup_requests S)) m.all ∙ none_dropped (setup_requests S)) a.between)

      no_channel : (i : ℕ) → is_within S i ≡ true → at C.channels i ≡ None
      no_channel i within = go (at C.channels i) refl
        where
          go : (o : Option Channel) → at C.channels i ≡ o → o ≡ None
          go None e = refl
          go (Some w) e = let b = a.back i w e in absurd (true≢false (sym within ∙ (linked_away rows started S i b.0 b.1).1))

  -- ---- a crew that was stopped

  cause_later : (log stop : List LogEntry) (risen later_risen : Type 0) (queued later : List Request) (h : Halt) → ((i : ℕ) (l : LinkNo) → sim_link started S i ≡ Some l → heard_on l (log ++ stop) ≡ heard_on l log) → (risen → later_risen)
      → ShowsCause (attempt started S ranks rows log) risen queued later h → ShowsCause (attempt started S ranks rows (log ++ stop)) later_risen queued later h
  cause_later log stop risen later_risen queued later (halt.Setup fault) same on c = (
    record {
      answers = c.0.answers;
      last = c.0.last;
      faulty = c.0.faulty;
      before = c.0.before;
      after = c.0.after ++ stop;
      parts = ap (λ (x : List LogEntry). x ++ stop) c.0.parts ∙ append_assoc c.0.before c.0.after stop;
      heard = c.0.heard;
      asked = c.0.asked;
    },
    c.1,
  )
  cause_later log stop risen later_risen queued later halt.Fleet same on c = on c
  cause_later log stop risen later_risen queued later (halt.Gone sim) same on c = (c.0, c.1, in_front (Ended c.0) log stop c.2)
  cause_later log stop risen later_risen queued later (halt.Garbled sim test) same on c = (c.0, c.1, subst (λ (x : List ℕ). BeginsGarbled (rest_heard x) test) (sym (same sim.0 c.0 c.1)) c.2)
  cause_later log stop risen later_risen queued later (halt.LongFrame sim n) same on c = (c.0, c.1, subst (λ (x : List ℕ). IsTooLong n (rest_heard x)) (sym (same sim.0 c.0 c.1)) c.2)
  cause_later log stop risen later_risen queued later (halt.LongItem sim n) same on c = c
  cause_later log stop risen later_risen queued later halt.Mem same on c = tt

  -- the entries of the stop are on the run's links
  pub halted_on : (log stop : List LogEntry) (risen : Type 0) (h : Halt) (C : CrewSeen) → IsHalting (attempt started S ranks rows log) risen h C → AreOn (IsChannelLink C.channels) stop → AreOn (IsRunLink started S) (log ++ stop)
  halted_on log stop risen h C g of_channels = on_more (IsRunLink started S) log stop g.on_links (on_run started S C.channels stop (λ i l e. let t = g.channels i l e in (t.1, t.2, t.3)) g.back of_channels)

  -- the stop of a crew whose handshake has ended early
  pub halted : (log stop : List LogEntry) (risen later_risen : Type 0) (h : Halt) (C : CrewSeen) → IsHalting (attempt started S ranks rows log) risen h C → AreStopped stop later_risen (crew_of C) → IsRestless stop → AreOn (IsChannelLink C.channels) stop → (risen → later_risen)
      → HasHalted (attempt started S ranks rows (log ++ stop)) later_risen h
  halted log stop risen later_risen h C g stopped restless of_channels on = record {
    queued = g.queued;
    later = g.later;
    parts = g.parts;
    says = λ reply i l e. let t = g.channels i l e in handshake_says started S reply log stop later_risen i l g.queued g.later g.parts t.0 t.1 t.3 t.4 (stopped i t.1 t.2);
    whole = λ some i l e. let t = g.channels i l e in all_said S log stop later_risen later_risen i l g.queued g.later g.parts t.0 t.1 t.3 t.4 (stopped i t.1 t.2) (λ rose. rose);
    rests = λ before after is. elim (first_or_second log stop before after Rest is) [
      | inl t ↦ g.rests before t.0 t.1
      | inr t ↦ absurd (restless t.0 after t.2)
    ];
    on_links = on_or_clock (IsRunLink started S) (log ++ stop) (halted_on log stop risen h C g of_channels);
    cause = cause_later log stop risen later_risen g.queued g.later h
        (λ i l e. let t = g.channels i l e in subst (λ (k : LinkNo). heard_on k (log ++ stop) ≡ heard_on k log) t.3 (heard_at_stop log stop later_risen t.1 (stopped i t.1 t.2))) on g.cause;
    answered = still_answered (attempt started S ranks rows log) stop g.queued g.answered;
  }

  first_stop : IsFramed (call_text 0 Stop)
  first_stop = framed_is 0 (decimal 0) refl (let e = length-decimal-le_succ 0 (omega arith) in omega (arith, e))

  -- before any channel is there nothing is said
  pub halted_silently : (risen : Type 0) (h : Halt) → (h ≡ halt.Mem) ⊎ ((h ≡ halt.Fleet) × risen) → HasHalted (attempt started S ranks rows []) risen h
  halted_silently risen h why = record {
    queued = [];
    later = setup_requests S;
    parts = refl;
    says = λ reply i l e. record { handshake = omega arith; behind = inl refl; said = (frames_of (link_payloads S i 0 [] true), refl); framed = (first_stop, tt); as_executed = λ P q. absurd (none_some q) };
    whole = λ some i l e. elim why [ inl q ↦ absurd (some (q, refl)) | inr t ↦ inr (inr t.1) ];
    on_links = tt;
    rests = λ before after is. absurd (not_empty before after Rest is);
    cause = elim why [ inl q ↦ subst (ShowsCause (attempt started S ranks rows []) risen [] (setup_requests S)) (sym q) tt | inr t ↦ subst (ShowsCause (attempt started S ranks rows []) risen [] (setup_requests S)) (sym t.0) t.1 ];
    answered = none_asked started S ranks rows;
  }
