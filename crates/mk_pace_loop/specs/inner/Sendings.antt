-- For proofs alone. What is sent of what waits in a paced run.
use Rattle.std.specs.Prelude.{◌≡◌, ℕ, ◌+◌, ◌<◌, ◌≤◌, List, [], ◌∷◌, length, Result, Ok, Err}
use Rattle.mk_outside.specs.declared.fleet.LogEntry.{LogEntry}
use Rattle.mk_sched.specs.Cores.{CoreState}
use Rattle.mk_run_crew.specs.Seen.{CrewSeen, crew_of}
use Rattle.mk_run.specs.declared.outcome.Outcome.{Outcome}
use Rattle.mk_run.specs.inner.Underway.{Setting}
use Rattle.mk_pace_held.specs.declared.held.Held.{Held}
use Rattle.mk_pace_laws.specs.declared.end.PaceEnd.TheVariants as pace
use Rattle.mk_pace_loop.specs.inner.Pacing.{IsPacingBut}
use Rattle.mk_pace_loop.specs.inner.Turns.{GoesOn, HasJustTold, IsStopping}
use Rattle.mk_pace_loop.specs.inner.Waiting.{IsOnTempo, WaitingSeen}

-- how many items wait of all simulators
abbrev pub held_count : List (List Held) → ℕ
held_count [] = 0
held_count (q ∷ holds) = length q + held_count holds

-- so over the log, but for simulator s
abbrev pub GoesOnBut : ℕ → Setting → CoreState → List LogEntry → CrewSeen → WaitingSeen → Type 0
GoesOnBut s S core log C W = IsPacingBut s S core.plan core.entries log (crew_of C) C.sims W

-- a Step of simulator s was sent; or the run came to an end
abbrev pub SendsStepAs : Result (Unit {0}) Outcome → ℕ → ℕ → CoreState → CrewSeen → WaitingSeen
    → CrewSeen → WaitingSeen → Type 0
SendsStepAs (Ok done) s told core C W D V = (S : Setting) (log : List LogEntry)
    → GoesOn S core log C W → HasJustTold told log → GoesOnBut s S core log D V
SendsStepAs (Err end) s told core C W D V = (S : Setting) (log : List LogEntry)
    → GoesOn S core log C W → HasJustTold told log → IsStopping ⊥ S core log D V (pace.Outcome end)

-- an item was sent that stands right behind a Step of simulator s; or the run came to an end
abbrev pub SendsNextAs : Result (Unit {0}) Outcome → ℕ → CoreState → CrewSeen → WaitingSeen
    → CrewSeen → WaitingSeen → Type 0
SendsNextAs (Ok done) s core C W D V = (S : Setting) (log : List LogEntry)
    → GoesOnBut s S core log C W → GoesOnBut s S core log D V
SendsNextAs (Err end) s core C W D V = (S : Setting) (log : List LogEntry)
    → GoesOnBut s S core log C W → IsStopping ⊥ S core log D V (pace.Outcome end)

-- all were sent that stand right behind a Step of simulator s; or the run came to an end
abbrev pub SendsBehindAs : Result (Unit {0}) Outcome → ℕ → CoreState → CrewSeen → WaitingSeen
    → CrewSeen → WaitingSeen → Type 0
SendsBehindAs (Ok done) s core C W D V = (S : Setting) (log : List LogEntry)
    → GoesOnBut s S core log C W → GoesOn S core log D V
SendsBehindAs (Err end) s core C W D V = (S : Setting) (log : List LogEntry)
    → GoesOnBut s S core log C W → IsStopping ⊥ S core log D V (pace.Outcome end)

-- a Step was sent, and what stands right behind it; or the run came to an end
abbrev pub SendsFirstAs : Result (Unit {0}) Outcome → ℕ → CoreState → CrewSeen → WaitingSeen
    → CrewSeen → WaitingSeen → Type 0
SendsFirstAs (Ok done) told core C W D V = (S : Setting) (log : List LogEntry)
    → GoesOn S core log C W → HasJustTold told log → GoesOn S core log D V
SendsFirstAs (Err end) told core C W D V = (S : Setting) (log : List LogEntry)
    → GoesOn S core log C W → HasJustTold told log → IsStopping ⊥ S core log D V (pace.Outcome end)

-- the tempo stays, and fewer items wait
pub record IsFewer (old new : WaitingSeen) : Type 0 where
  pub same : IsOnTempo old new
  pub count : held_count new.holds < held_count old.holds
  pub sims : length new.holds ≡ length old.holds

-- the tempo stays, and no more items wait
pub record IsNoMore (old new : WaitingSeen) : Type 0 where
  pub same : IsOnTempo old new
  pub count : held_count new.holds ≤ held_count old.holds
  pub sims : length new.holds ≡ length old.holds
