-- The invariants and measures of the loops of `making::ids_of`.
use Rattle.mk_plan_names.specs.inner.Making.{AreFirstIds}
use Rattle.mk_plan_names.proofs.making.ids_of.Given as goal

abbrev pub invariant-loop-place : goal.invariant-loop-place
invariant-loop-place l = AreFirstIds l.plan l.place l.ids.keys
