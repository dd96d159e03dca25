-- The invariants and measures of the loops of `driving::ask_all`.
use Rattle.std.proofs.Common.{◌≡◌, ◌-◌, None, List, length}
use Rattle.mk_outside.specs.declared.fleet.LogEntry.{LogEntry}
use Rattle.mk_local.specs.Registries.{rows_in}
use Rattle.mk_run_local.specs.Seen.{AreOf}
use Rattle.mk_run_crew.specs.Seen.{within_of}
use Rattle.mk_run.specs.inner.Underway.{Setting}
use Rattle.mk_run.specs.inner.Turns.{GetsItems, GoesOn, IsStill}
use Rattle.mk_run.proofs.driving.ask_all.Given as goal

-- whoever was asked so far was sent a Step
abbrev pub invariant-asking : goal.invariant-asking
invariant-asking g l = record {
  going : l.core.ended ≡ None;
  items : GetsItems l.fn.core l.core;
  known : AreOf (rows_in l.kinds) (within_of l.crew);
  still : IsStill l.fn.crew l.crew;
  same_halt : l.crew.halt ≡ l.fn.crew.halt;
  goes : (T : Setting) (log : List LogEntry) → GoesOn T l.fn.core log l.fn.crew → GoesOn T l.core log l.crew;
}

abbrev pub decreases-asking : goal.decreases-asking
decreases-asking g l = l.core.plan.entries - length l.core.entries
