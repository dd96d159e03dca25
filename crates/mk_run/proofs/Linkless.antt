-- A run whose simulators are all within the program: it has no links, and nothing is added to a log.
use Rattle.std.proofs.Common.{◌≡◌, ℕ, ◌≤◌, true, List, [], ◌++◌, Option, Some, None, Err, refl, sym, ◌∙◌, subst, arith}
use Rattle.mk_base.proofs.Lists.{append_nil, none_some}
use Rattle.mk_plan.specs.declared.Plan.{Plan}
use Rattle.mk_outside.specs.Counts.{HasRisen}
use Rattle.mk_outside.specs.declared.fleet.LogEntry.{LogEntry}
use Rattle.mk_run_laws.specs.Channels.{Channel}
use Rattle.mk_sched.specs.Cores.{CoreState}
use Rattle.mk_run_links.specs.Places.{at}
use Rattle.mk_run_crew.specs.declared.halt.Halt.{Halt}
use Rattle.mk_run_crew.specs.declared.halt.Halt.TheVariants as halt
use Rattle.mk_run_crew.specs.Seen.{CrewSeen, crew_of}
use Rattle.mk_run_crew.specs.Wholly.{IsWithinHalt, is_wholly_within}
use Rattle.mk_run_crew.proofs.Unlinked.{never_linked, restless, silently}
use Rattle.mk_run.specs.declared.outcome.Outcome.{Outcome}
use Rattle.mk_run.specs.declared.outcome.Outcome.TheVariants as outcome
use Rattle.mk_run.specs.Ends.{IsRun}
use Rattle.mk_run.specs.Outcomes.{IsWithinOutcome, outcome_of}
use Rattle.mk_run.specs.inner.Turns.{GoesOn, IsLinkedIfLong, IsStopping, TurnsAs, Waits}
use Rattle.mk_run.specs.inner.Underway.{EndsBy, IsUnderway, Setting, exchange_at}
use Rattle.mk_run.proofs.Turning.{may_hear, stopping_by}
use Rattle.mk_run.proofs.WholeRuns.{new_core, run_whole}

module _ (T : Setting) (all : is_wholly_within T.scenario ≡ true) where
  no_channel : (channels : List (Option Channel)) → ((i : ℕ) (w : Channel) → at channels i ≡ Some w → ⊥) → (i : ℕ) → at channels i ≡ None
  no_channel channels never i = go (at channels i) refl
    where
      go : (o : Option Channel) → at channels i ≡ o → o ≡ None
      go None e = refl
      go (Some w) e = absurd (never i w e)

  -- the crew has no channels
  pub linkless : (core : CoreState) (log : List LogEntry) (C : CrewSeen) → GoesOn T core log C → (i : ℕ) → at C.channels i ≡ None
  linkless core log C u = no_channel C.channels (λ i w there. let t = u.no_other i w there in never_linked T.started T.scenario all i t.0 t.1)

  -- nor has it at the end
  pub linkless_end : (core : CoreState) (log : List LogEntry) (C : CrewSeen) (end : Outcome) → IsStopping ⊥ T core log C end → (i : ℕ) → at C.channels i ≡ None
  linkless_end core log C end u = no_channel C.channels (λ i w there. let t = u.no_other i w there in never_linked T.started T.scenario all i t.0 t.1)

  -- where a request is open, a reply is kept
  pub kept_there : (core : CoreState) (log : List LogEntry) (C : CrewSeen) → GoesOn T core log C → Waits core → C.kept ≡ [] → ⊥
  kept_there core log C u waits none =
      let t = may_hear T core log C u waits.1 none in
      none_some (sym (linkless core log C u t.0) ∙ t.1.1)

  -- the run ends as one without links does
  pub within_outcome : (core : CoreState) (log : List LogEntry) (C : CrewSeen) (end : Outcome) → IsStopping ⊥ T core log C end → IsLinkedIfLong C end → IsWithinOutcome end
  within_outcome core log C end u long = go end u.ends long
    where
      go : (e : Outcome) → EndsBy ⊥ T core.plan core.entries log (crew_of C) e → IsLinkedIfLong C e → IsWithinOutcome e
      go outcome.Done is long = tt
      go (outcome.Setup f) is long = tt
      go (outcome.Core f) is long = tt
      go outcome.Fleet is long = is
      go (outcome.Gone i) is long = never_linked T.started T.scenario all i.0 is.0 is.1.linked
      go (outcome.Garbled i n) is long = never_linked T.started T.scenario all i.0 is.0 is.1.linked
      go (outcome.LongFrame i n) is long = never_linked T.started T.scenario all i.0 is.0 is.1.linked
      go (outcome.LongItem i n) is long = let t = long i n refl in none_some (sym (linkless_end core log C end u i.0) ∙ t.1)
      go outcome.Mem is long = tt

-- a run from its first turn to its end
pub run_within : (P : Plan) (old core : CoreState) (C D : CrewSeen) (faults : ℕ) (end : Outcome) → old ≡ new_core P → TurnsAs (Err end) [] ⊥ old C core D → ((i : ℕ) → at D.channels i ≡ None)
    → (T : Setting) (log : List LogEntry) (before : ℕ) → before ≤ faults → IsUnderway T P [] log (crew_of C) C.sims
    → (core.plan ≡ P) × (r : IsRun (exchange_at T (log ++ [])) core.plan core.entries before faults end) × (r.replies ≡ T.replies)
run_within P old core C D faults end is ends none = run_whole P old core C D [] [] faults faults faults end is (omega arith) (omega arith)
    (λ T log u. stopping_by ⊥ (HasRisen faults faults) T core (log ++ []) D end (λ e. absurd e) (ends T log u)) (silently (HasRisen faults faults) D none) restless tt

-- ---- turns one after another, which add nothing to a log

pub goes_after : (old mid new : CoreState) (C D E : CrewSeen) → ((T : Setting) (log : List LogEntry) → GoesOn T old log C → GoesOn T mid log D) → ((T : Setting) (log : List LogEntry) → GoesOn T mid log D → GoesOn T new (log ++ []) E)
    → (T : Setting) (log : List LogEntry) → GoesOn T old log C → GoesOn T new log E
goes_after old mid new C D E goes more T log u = subst (λ (l : List LogEntry). GoesOn T new l E) (append_nil log) (more T log (goes T log u))

pub ends_after : (old mid new : CoreState) (C D E : CrewSeen) (end : Outcome) → ((T : Setting) (log : List LogEntry) → GoesOn T old log C → GoesOn T mid log D) → TurnsAs (Err end) [] ⊥ mid D new E → TurnsAs (Err end) [] ⊥ old C new E
ends_after old mid new C D E end goes ends T log u = ends T log (goes T log u)

-- a halt of a handshake without links is an outcome of a run without links
pub within_halts : (h : Halt) → IsWithinHalt h → IsWithinOutcome (outcome_of h)
within_halts (halt.Setup f) is = tt
within_halts halt.Fleet is = is
within_halts (halt.Gone i) is = is
within_halts (halt.Garbled i n) is = is
within_halts (halt.LongFrame i n) is = is
within_halts (halt.LongItem i n) is = is
within_halts halt.Mem is = tt
