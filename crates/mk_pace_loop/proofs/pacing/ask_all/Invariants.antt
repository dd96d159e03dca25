-- The invariants and measures of the loops of `pacing::ask_all`.
use Rattle.std.proofs.Common.{◌≡◌, ◌-◌, None, List, length}
use Rattle.mk_outside.specs.declared.fleet.LogEntry.{LogEntry}
use Rattle.mk_run_crew.specs.Seen.{CrewSeen}
use Rattle.mk_run.specs.inner.Underway.{Setting}
use Rattle.mk_pace_loop.specs.inner.Turns.{GainsItems, GoesOn}
use Rattle.mk_pace_loop.specs.inner.Waiting.{IsOnTempo}
use Rattle.mk_pace_loop.proofs.pacing.ask_all.Given as goal

-- the Step of whoever was asked so far waits
abbrev pub invariant-asking : goal.invariant-asking
invariant-asking l = record {
  going : l.core.ended ≡ None;
  gained : GainsItems l.fn.core l.core;
  tempo : IsOnTempo l.fn.waiting l.waiting;
  goes : (S : Setting) (log : List LogEntry) (C : CrewSeen) → GoesOn S l.fn.core log C l.fn.waiting → GoesOn S l.core log C l.waiting;
}

abbrev pub decreases-asking : goal.decreases-asking
decreases-asking l = l.core.plan.entries - length l.core.entries
