-- For proofs alone. What comes of a crew whose handshake is over, once the clock was looked at.
use Rattle.std.specs.Prelude.{◌≡◌, ℕ, ◌≤◌, List, ◌∷◌, ◌++◌, map, Option, Some, None, IsSome}
use Rattle.mk_plan.specs.declared.Plan.{Plan}
use Rattle.mk_plan.specs.declared.Journal.{Journal}
use Rattle.mk_outside.specs.declared.fleet.LogEntry.{LogEntry}
use Rattle.mk_outside.specs.declared.fleet.LogEntry.TheVariants.{Told}
use Rattle.mk_outside.specs.Logs.{Adds, greatest_told}
use Rattle.mk_launch.specs.Ready.{IsPrepared}
use Rattle.mk_run_crew.specs.Attempts.{Attempt, longer}
use Rattle.mk_local.specs.Kinds.{name_of}
use Rattle.mk_sched.specs.Cores.{CoreState}
use Rattle.mk_run_links.specs.Entries.{IsClockless}
use Rattle.mk_run_crew.specs.Begun.{HasBegun}
use Rattle.mk_run_crew.specs.Seen.{CrewSeen}
use Rattle.mk_run.specs.inner.Underway.{Setting, exchange_at}
use Rattle.mk_pace_laws.specs.declared.end.Moment.{Moment}
use Rattle.mk_pace_laws.specs.declared.end.PaceEnd.{PaceEnd}
use Rattle.mk_pace_laws.specs.Paced.{IsPaced, PacesAs}
use Rattle.mk_pace_loop.specs.inner.Turns.{GoesOn}
use Rattle.mk_pace_loop.specs.inner.Waiting.{WaitingSeen}
use Rattle.mk_pace_laws.specs.Moments.{timing}

-- the log has grown by these entries, and each number that the clock told is no less than those
-- that it told before
pub record AddsRising (entries : List LogEntry) (old new : Option (List LogEntry)) : Type 0 where
  pub adds : Adds entries old new
  pub rising : IsSome new → (base : List LogEntry) → old ≡ Some base
      → (before after : List LogEntry) (n : ℕ) → entries ≡ before ++ Told n ∷ after
      → greatest_told (base ++ before) ≤ n

-- the handshake is over, the crew stands for what came of it, and no clock was looked at
pub record IsStarted (A : Attempt) (C : CrewSeen) (P : Plan) : Type 0 where
  pub prepared : IsPrepared A.scenario (map name_of A.rows)
  pub begun : HasBegun A C P
  pub clockless : IsClockless A.log

-- what the whole run means, from the clock's origin to the stop of the crew
abbrev pub GoesOnAs : CoreState → CrewSeen → WaitingSeen → List LogEntry → ℕ → ℕ → Option Plan
    → Option Journal → List Moment → PaceEnd → Type 0
GoesOnAs core C W entries faults new_faults (Some P) (Some J) moments end = (S : Setting)
    (log : List LogEntry) (before : ℕ) → before ≤ faults → GoesOn S core log C W
    → (P ≡ core.plan) × (r : IsPaced (exchange_at S (log ++ entries)) P J.entries
    (timing W.tempo W.strict moments) before new_faults end)
    × (r.replies ≡ S.replies)
GoesOnAs core C W entries faults new_faults (Some P) None moments end = ⊥
GoesOnAs core C W entries faults new_faults None J moments end = ⊥

-- what comes of the plan that a handshake was made of, whatever came before
abbrev pub PlanPacesAs : Plan → CrewSeen → ℕ → Option ℕ → List LogEntry → ℕ → ℕ → Option Plan
    → Option Journal → List Moment → PaceEnd → Type 0
PlanPacesAs plan C factor strict entries faults new_faults P J moments end = (A : Attempt)
    (before : ℕ) → before ≤ faults → IsStarted A C plan
    → PacesAs (longer A entries) factor strict P J moments before new_faults end
