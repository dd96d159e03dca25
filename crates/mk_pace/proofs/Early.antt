-- A call of `paced` that makes no run: the handshake ended early, the clock failed, or memory was
-- wanting.
use Rattle.std.proofs.Common.{◌≡◌, inl, inr, ℕ, List, [], ◌∷◌, ◌++◌, Option, None, refl, sym, ◌∙◌, subst}
use Rattle.mk_base.proofs.Lists.{append_nil}
use Rattle.mk_plan.specs.declared.Plan.{Plan}
use Rattle.mk_outside.specs.Counts.{HasRisen}
use Rattle.mk_outside.specs.declared.fleet.LogEntry.{LogEntry}
use Rattle.mk_outside.specs.declared.fleet.LogEntry.TheVariants.{Rest, Told, Nap}
use Rattle.mk_outside.specs.Logs.{last_write}
use Rattle.mk_scenario.specs.declared.parts.Scenario.{Scenario}
use Rattle.mk_run_crew.specs.Attempts.{Attempt, attempt, longer}
use Rattle.mk_local.specs.declared.turn.Turn.{Turn}
use Rattle.mk_run_laws.specs.Crews.{AreStopped, CrewState, IsRestless}
use Rattle.mk_run_laws.specs.Handshake.{setup_requests}
use Rattle.mk_run_laws.proofs.Clauses.{handshake_says}
use Rattle.mk_run_laws.proofs.Stepping.{first_or_second}
use Rattle.mk_run_links.specs.Entries.{AreOn, AreOnOrOfClock, IsClockless, IsRunLink}
use Rattle.mk_run_links.specs.Places.{IsChannelLink}
use Rattle.mk_run_links.proofs.OnEntries.{on_no_clock, on_or_clock, on_run_or_clock, or_clock_more}
use Rattle.mk_run_crew.specs.declared.halt.Halt.{Halt}
use Rattle.mk_run_crew.specs.declared.halt.Halt.TheVariants as halt
use Rattle.mk_run_crew.specs.Halted.{HasHalted, ShowsCause}
use Rattle.mk_run_crew.specs.Seen.{CrewSeen, crew_of}
use Rattle.mk_run_crew.proofs.ButOne.{begun_answered}
use Rattle.mk_run_crew.proofs.Stopped.{all_said}
use Rattle.mk_run.specs.declared.outcome.Outcome.{Outcome}
use Rattle.mk_run.specs.declared.outcome.Outcome.TheVariants as outcome
use Rattle.mk_run.specs.Outcomes.{outcome_of}
use Rattle.mk_pace_laws.specs.declared.end.PaceEnd.TheVariants as pace
use Rattle.mk_pace_laws.specs.declared.end.PaceRan.{PaceRan}
use Rattle.mk_pace_laws.specs.Paced.{HasNotPaced, IsAwake, PacesAs}
use Rattle.mk_pace_loop.proofs.Passing.{no_naps}
use Rattle.mk_pace.specs.inner.Going.{IsStarted, PlanPacesAs}
use Rattle.mk_base.proofs.Items.{same_heads}
use Rattle.mk_outside.proofs.OnLogs.{later-none}
use Rattle.mk_session.proofs.Polling.{risen_after}

-- what is left then
abbrev pub nothing_left : Outcome → PaceRan
nothing_left end = record { end = pace.Outcome end; plan = None; journal = None; moments = [] }

-- ---- a look at the clock before the stop

told_stopped : (n : ℕ) (entries : List LogEntry) (risen : Type 0) (C : CrewState) → AreStopped entries risen C → AreStopped (Told n ∷ entries) risen C
told_stopped n entries risen C stopped i w there =
    let s = stopped i w there in
    record { unheard = s.unheard; said = s.said; framed = s.framed; whole = elim s.whole [ inl said ↦ inl said | inr why ↦ inr (elim why [ inl held ↦ inl (later-none (last_write w.link entries) ∙ held) | inr risen ↦ inr risen ]) ] }

told_restless : (n : ℕ) (entries : List LogEntry) → IsRestless entries → IsRestless (Told n ∷ entries)
told_restless n entries restless [] after is = apart (same_heads is).0
  where
    apart : Told n ≡ Rest → ⊥
    apart e = cc
told_restless n entries restless (x ∷ before) after is = restless before after (same_heads is).1

told_awake : (n : ℕ) (entries : List LogEntry) → IsAwake entries → IsAwake (Told n ∷ entries)
told_awake n entries awake [] after is = apart (same_heads is).0
  where
    apart : Told n ≡ Nap → ⊥
    apart e = cc
told_awake n entries awake (x ∷ before) after is = awake before after (same_heads is).1

awake_on : (log entries : List LogEntry) → IsAwake log → IsAwake entries → IsAwake (log ++ entries)
awake_on log entries one two before after is = elim (first_or_second log entries before after Nap is) [
  | inl t ↦ one before t.0 t.1
  | inr t ↦ two t.0 after t.2
]

-- ---- the crew of a whole handshake is stopped

halted : (A : Attempt) (C : CrewSeen) (P : Plan) (s : IsStarted A C P) (entries : List LogEntry) (some risen : Type 0) (h : Halt) → (some → risen) → ShowsCause (longer A entries) risen (setup_requests A.scenario) [] h
    → AreStopped entries some (crew_of C) → IsRestless entries → AreOnOrOfClock (IsChannelLink C.channels) entries → HasHalted (longer A entries) risen h
halted A C P s entries some risen h on cause stopped restless of_channels = record {
  queued = setup_requests A.scenario;
  later = [];
  parts = sym (append_nil (setup_requests A.scenario));
  says = λ reply i l linked. let t = s.begun.begun.channels i l linked in
      handshake_says A.started A.scenario reply A.log entries some i l (setup_requests A.scenario) [] (sym (append_nil (setup_requests A.scenario))) (s.begun.replies i) t.0 t.2 t.3 (stopped i t.0 t.1);
  whole = λ apart i l linked. let t = s.begun.begun.channels i l linked in
      all_said A.scenario A.log entries some risen i l (setup_requests A.scenario) [] (sym (append_nil (setup_requests A.scenario))) (s.begun.replies i) t.0 t.2 t.3 (stopped i t.0 t.1) on;
  rests = λ before after is. elim (first_or_second A.log entries before after Rest is) [
    | inl t ↦ (s.begun.rests before t.0 t.1, s.begun.begun.setting_up before t.0 t.1)
    | inr t ↦ absurd (restless t.0 after t.2)
  ];
  cause = cause;
  answered = begun_answered A C P s.begun entries;
  on_links = or_clock_more (IsRunLink A.started A.scenario) A.log entries (on_or_clock (IsRunLink A.started A.scenario) A.log s.begun.on_links)
      (on_run_or_clock A.started A.scenario C.channels entries (λ i l linked. let t = s.begun.begun.channels i l linked in (t.0, t.1, t.2)) s.begun.back of_channels);
}

not_paced : (A : Attempt) (C : CrewSeen) (P : Plan) (s : IsStarted A C P) (entries : List LogEntry) (some risen : Type 0) (h : Halt) → (some → risen) → ShowsCause (longer A entries) risen (setup_requests A.scenario) [] h
    → AreStopped entries some (crew_of C) → IsRestless entries → AreOnOrOfClock (IsChannelLink C.channels) entries → IsAwake entries → HasNotPaced (longer A entries) risen (pace.Outcome (outcome_of h))
not_paced A C P s entries some risen h on cause stopped restless of_channels awake = record {
  outcome = outcome_of h;
  is = refl;
  run = record { halt = h; is = refl; halted = halted A C P s entries some risen h on cause stopped restless of_channels };
  awake = awake_on A.log entries (λ before after is. no_naps A.log before after s.clockless is) awake;
}

-- the stop takes no nap
awake_of : (C : CrewSeen) (entries : List LogEntry) → AreOn (IsChannelLink C.channels) entries → IsAwake entries
awake_of C entries of_channels before after parts = no_naps entries before after (on_no_clock (IsChannelLink C.channels) entries of_channels) parts

-- the clock failed: the count had risen before the stop
pub clock_failed : (P : Plan) (C : CrewSeen) (factor : ℕ) (strict : Option ℕ) (entries : List LogEntry) (faults new_faults : ℕ) (some : Type 0) (ran : PaceRan) → HasRisen faults new_faults → AreStopped entries some (crew_of C) → IsRestless entries → AreOn (IsChannelLink C.channels) entries → ran ≡ nothing_left outcome.Fleet
    → PlanPacesAs P C factor strict entries faults new_faults ran.plan ran.journal ran.moments ran.end
clock_failed P C factor strict entries faults new_faults some ran risen stopped restless of_channels is =
    subst (λ (r : PaceRan). PlanPacesAs P C factor strict entries faults new_faults r.plan r.journal r.moments r.end) (sym is)
    (λ A before low s.
    let all : HasRisen before new_faults = risen_after before faults new_faults low risen in
    (not_paced A C P s entries some (HasRisen before new_faults) halt.Fleet (λ more. all) all stopped restless (on_or_clock (IsChannelLink C.channels) entries of_channels) (awake_of C entries of_channels), refl))

-- there was no memory for the run, when the clock had told its origin
pub no_memory : (P : Plan) (C : CrewSeen) (origin factor : ℕ) (strict : Option ℕ) (entries : List LogEntry) (faults new_faults : ℕ) (ran : PaceRan) → AreStopped entries (HasRisen faults new_faults) (crew_of C) → IsRestless entries → AreOn (IsChannelLink C.channels) entries → ran ≡ nothing_left outcome.Mem
    → PlanPacesAs P C factor strict (Told origin ∷ entries) faults new_faults ran.plan ran.journal ran.moments ran.end
no_memory P C origin factor strict entries faults new_faults ran stopped restless of_channels is =
    subst (λ (r : PaceRan). PlanPacesAs P C factor strict (Told origin ∷ entries) faults new_faults r.plan r.journal r.moments r.end) (sym is) (λ A before low s. (
      not_paced A C P s (Told origin ∷ entries) (HasRisen faults new_faults) (HasRisen before new_faults) halt.Mem (risen_after before faults new_faults low) tt (told_stopped origin entries (HasRisen faults new_faults) (crew_of C) stopped) (told_restless origin entries restless)
          (tt, on_or_clock (IsChannelLink C.channels) entries of_channels) (told_awake origin entries (awake_of C entries of_channels)),
      refl,
    ))

-- the handshake ended early
pub begun_not : (started : ℕ) (S : Scenario) (ranks : List ℕ) (rows : List Turn) (factor : ℕ) (strict : Option ℕ) (entries : List LogEntry) (faults new_faults : ℕ) (h : Halt) (end : Outcome) (ran : PaceRan)
    → HasHalted (attempt started S ranks rows entries) (HasRisen faults new_faults) h → IsClockless entries → end ≡ outcome_of h → ran ≡ nothing_left end → PacesAs (attempt started S ranks rows entries) factor strict ran.plan ran.journal ran.moments faults new_faults ran.end
begun_not started S ranks rows factor strict entries faults new_faults h end ran halted clockless end_is is =
    subst (λ (r : PaceRan). PacesAs (attempt started S ranks rows entries) factor strict r.plan r.journal r.moments faults new_faults r.end) (sym is)
    (record { outcome = end; is = refl; run = record { halt = h; is = end_is; halted = halted }; awake = λ b after parts. no_naps entries b after clockless parts }, refl)
