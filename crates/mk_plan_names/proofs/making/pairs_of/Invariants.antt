-- The invariants and measures of the loops of `making::pairs_of`.
use Rattle.std.proofs.Common.{take}
use Rattle.mk_plan_names.specs.inner.Making.{ArePairsOf}
use Rattle.mk_plan_names.proofs.making.pairs_of.Given as goal

abbrev pub invariant-loop-pair : goal.invariant-loop-pair
invariant-loop-pair l = ArePairsOf (take l.pair-index l.asyncs) l.pairs.keys
