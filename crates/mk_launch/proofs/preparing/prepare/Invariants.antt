-- The invariants and measures of the loops of `preparing::prepare`.
use Rattle.std.proofs.Common.{take}
use Rattle.mk_base.specs.Lists.{Each}
use Rattle.mk_launch.specs.Ready.{CanBegin}
use Rattle.mk_launch.proofs.preparing.prepare.Given as goal

abbrev pub invariant-loop-i : goal.invariant-loop-i
invariant-loop-i l = Each (CanBegin l.kinds) (take l.i l.scenario.sims)
