-- The invariants and measures of the loops of `signs::more_digits`.
use Rattle.std.proofs.Common.{◌≡◌, ◌<◌, ◌^◌, ◌++◌, decimal, length}
use Rattle.mk_message_plain.proofs.signs.more_digits.Given as goal

abbrev pub invariant-loop-digit : goal.invariant-loop-digit
invariant-loop-digit l = record {
  text : decimal l.fn.first ++ l.fn.text ≡ decimal l.number ++ l.rest;
  above : 0 < l.number;
  small : l.number < 10 ^ 18;
}

abbrev pub decreases-loop-digit : goal.decreases-loop-digit
decreases-loop-digit l = length l.rest
