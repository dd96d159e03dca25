-- The invariants and measures of the loops of `kinds::count_so`.
use Rattle.mk_base.specs.Lists.{IsIn}
use Rattle.mk_local.specs.Registries.{rows_in}
use Rattle.mk_local_trials.proofs.kinds.count_so.Given as goal

abbrev pub invariant-loop-place : goal.invariant-loop-place
invariant-loop-place g l = IsIn l.sim.kind (rows_in l.kinds)
