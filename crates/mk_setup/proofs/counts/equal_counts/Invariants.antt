-- The invariants and measures of the loops of `counts::equal_counts`.
use Rattle.std.proofs.Common.{◌≡◌, replicate}
use Rattle.mk_setup.proofs.counts.equal_counts.Given as goal

abbrev pub invariant-loop-made : goal.invariant-loop-made
invariant-loop-made l = l.counts ≡ replicate l._made l.count
