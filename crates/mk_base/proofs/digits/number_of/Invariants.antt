-- The invariants and measures of the loops of `digits::number_of`.
use Rattle.std.proofs.Common.{◌≡◌, ◌+◌, ◌*◌, ◌^◌, ◌≤◌, take}
use Rattle.mk_base.specs.Numbers as numbers
use Rattle.mk_base.proofs.digits.number_of.Given as goal

abbrev pub invariant-loop-digit : goal.invariant-loop-digit
invariant-loop-digit l = record {
  told : l.number ≡ numbers.number_of (take l.digit-index l.digits);
  small : l.number + 23 ≤ 23 * 10 ^ l.digit-index;
}
