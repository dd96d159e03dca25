-- The invariants and measures of the loops of `marks::targets`.
use Rattle.std.proofs.Common.{◌≡◌, map, take}
use Rattle.mk_plan_check.specs.inner.Marks.{label_of, target_label}
use Rattle.mk_plan_check.proofs.marks.targets.Given as goal

abbrev pub invariant-loop-conn : goal.invariant-loop-conn
invariant-loop-conn l = map label_of l.marks.items ≡ map target_label (take l.conn-index l.plan.conns)
