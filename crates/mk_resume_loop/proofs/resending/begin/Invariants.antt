-- The invariants and measures of the loops of `resending::begin`.
use Rattle.std.proofs.Common.{◌≡◌}
use Rattle.mk_local.specs.Registries.{rows_in}
use Rattle.mk_run_local.specs.Seen.{AreOf}
use Rattle.mk_run_crew.specs.Seen.{within_of}
use Rattle.mk_run.specs.inner.Turns.{IsStill}
use Rattle.mk_resume_loop.specs.inner.Turns.{IsSized}
use Rattle.mk_resume_loop.proofs.FirstItems.{HaveBegun}
use Rattle.mk_resume_loop.proofs.resending.begin.Given as goal

-- the simulators before this one were sent their first items
abbrev pub invariant-loop-sim : goal.invariant-loop-sim
invariant-loop-sim g l = record {
  known : AreOf (rows_in l.kinds) (within_of l.crew);
  sized : IsSized l.core l.behind;
  still : IsStill l.fn.crew l.crew;
  same_halt : l.crew.halt ≡ l.fn.crew.halt;
  so_far : HaveBegun l.core l.fn.crew l.sim l.crew l.behind;
}
