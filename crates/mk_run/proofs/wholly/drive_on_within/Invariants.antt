-- The invariants and measures of the loops of `wholly::drive_on_within`.
use Rattle.std.proofs.Common.{◌≡◌, ◌-◌, None, List, length, false}
use Rattle.mk_outside.specs.declared.fleet.LogEntry.{LogEntry}
use Rattle.mk_local.specs.Registries.{rows_in}
use Rattle.mk_run_local.specs.Seen.{AreOf}
use Rattle.mk_run_crew.specs.Seen.{within_of}
use Rattle.mk_onlooker.specs.Showings.{IsShownOn}
use Rattle.mk_run.specs.inner.Underway.{Setting}
use Rattle.mk_run.specs.inner.Turns.{GoesOn, Waits}
use Rattle.mk_run.proofs.wholly.drive_on_within.Given as goal

-- the run went on so far
abbrev pub invariant-turns : goal.invariant-turns
invariant-turns g l = record {
  going : l.core.ended ≡ None;
  known : AreOf (rows_in l.kinds) (within_of l.crew);
  waits : Waits l.core;
  plan : l.core.plan ≡ l.fn.core.plan;
  shown : IsShownOn g.O.Onlooker.looks l.fn.core.plan false l.fn.core.entries l.core.entries l.fn.onlooker l.onlooker;
  goes : (T : Setting) (log : List LogEntry) → GoesOn T l.fn.core log l.fn.crew → GoesOn T l.core log l.crew;
}

abbrev pub decreases-turns : goal.decreases-turns
decreases-turns g l = l.core.plan.entries - length l.core.entries
