-- The invariants and measures of the loops of `marks::names`.
use Rattle.std.proofs.Common.{◌≡◌, map}
use Rattle.std.specs.List.{range_with_len}
use Rattle.mk_plan_check.specs.inner.Marks.{label_of, name_label}
use Rattle.mk_plan_check.proofs.marks.names.Given as goal

abbrev pub invariant-loop-entity : goal.invariant-loop-entity
invariant-loop-entity l = map label_of l.marks.items ≡ map (name_label l.plan) (range_with_len 0 l.entity)
