-- The invariants and measures of the loops of `making::listed`.
use Rattle.std.proofs.Common.{◌≡◌, ◌++◌}
use Rattle.mk_entities.proofs.making.listed.Given as goal

abbrev pub invariant-loop-number : goal.invariant-loop-number
invariant-loop-number l = l.numbers.keys ≡ l.list ++ l.number-iterator
