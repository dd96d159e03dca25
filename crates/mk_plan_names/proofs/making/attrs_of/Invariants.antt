-- The invariants and measures of the loops of `making::attrs_of`.
use Rattle.std.proofs.Common.{◌≡◌, length, take}
use Rattle.mk_plan_names.specs.inner.Making.{AreAttrsOf}
use Rattle.mk_plan_names.proofs.making.attrs_of.Given as goal

abbrev pub invariant-loop-conn : goal.invariant-loop-conn
invariant-loop-conn l = AreAttrsOf (take l.conn-index l.plan.conns) l.attrs.items × (length l.attrs.items ≡ length l.plan.entities)
