-- The invariants and measures of the loops of `making::empty_sets`.
use Rattle.std.proofs.Common.{[], ◌≤◌, ◌-◌, length}
use Rattle.mk_plan_names.specs.inner.Making.{AreAttrsOf}
use Rattle.mk_plan_names.proofs.making.empty_sets.Given as goal

abbrev pub invariant-loop-alloc : goal.invariant-loop-alloc
invariant-loop-alloc l = AreAttrsOf [] l.sets.items × (length l.sets.items ≤ l.count)

abbrev pub decreases-loop-alloc : goal.decreases-loop-alloc
decreases-loop-alloc l = l.count - length l.sets.items
