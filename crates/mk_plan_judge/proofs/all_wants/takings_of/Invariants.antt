-- The invariants and measures of the loops of `all_wants::takings_of`.
use Rattle.std.proofs.Common.{◌≡◌, take}
use Rattle.mk_plan_judge.specs.inner.Takings.{AreTakings}
use Rattle.mk_plan_judge.proofs.all_wants.takings_of.Given as goal

abbrev pub invariant-loop-conn : goal.invariant-loop-conn
invariant-loop-conn l = record {
  items : l.conn-items ≡ l.plan.conns;
  so_far : AreTakings l.plan (take l.conn-index l.conn-items) l.takings.items;
}
