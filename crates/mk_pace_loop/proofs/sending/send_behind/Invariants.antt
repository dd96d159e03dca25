-- The invariants and measures of the loops of `sending::send_behind`.
use Rattle.std.proofs.Common.{◌≡◌, List}
use Rattle.mk_outside.specs.declared.fleet.LogEntry.{LogEntry}
use Rattle.mk_local.specs.Registries.{rows_in}
use Rattle.mk_run_local.specs.Seen.{AreOf}
use Rattle.mk_run_crew.specs.Seen.{within_of}
use Rattle.mk_run.specs.inner.Turns.{IsStill}
use Rattle.mk_run.specs.inner.Underway.{Setting}
use Rattle.mk_pace_loop.specs.inner.Sendings.{GoesOnBut, IsNoMore, held_count}
use Rattle.mk_pace_loop.proofs.sending.send_behind.Given as goal

-- what was sent so far stood right behind the Step
abbrev pub invariant-behind : goal.invariant-behind
invariant-behind g l = record {
  known : AreOf (rows_in l.kinds) (within_of l.crew);
  still : IsStill l.fn.crew l.crew;
  same_halt : l.crew.halt ≡ l.fn.crew.halt;
  no_more : IsNoMore l.fn.waiting l.waiting;
  goes : (S : Setting) (log : List LogEntry) → GoesOnBut l.sim.0 S l.core log l.fn.crew l.fn.waiting → GoesOnBut l.sim.0 S l.core log l.crew l.waiting;
}

abbrev pub decreases-behind : goal.decreases-behind
decreases-behind g l = held_count l.waiting.holds
