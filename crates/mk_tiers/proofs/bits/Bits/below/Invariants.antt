-- The invariants and measures of the loops of `bits::Bits::below`.
use Rattle.mk_tiers.specs.Sets.{IsAllBelow}
use Rattle.mk_tiers.proofs.bits.Bits.below.Given as goal

abbrev pub invariant-loop-number : goal.invariant-loop-number
invariant-loop-number l = IsAllBelow l.number l.all
