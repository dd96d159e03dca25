-- Answers to the goals of `signs::more_digits` that the prover leaves.
use Rattle.std.proofs.Common.{arith}
use Rattle.mk_message_plain.proofs.Bytes.{digits_more}
use Rattle.mk_message_plain.proofs.signs.more_digits.Goals as goal

pub loop-digit-preserved : goal.loop-digit-preserved
loop-digit-preserved c =
    let l = c.loop-digit in
    let some = l.invariant.above in
    let small = c.in-Some.ensures.below in
    let few = c.if-number-ge-MOST.false in
    record {
      text = digits_more c.args.first l.number c.in-Some.digit c.args.text.now l.rest.now c.in-Some.more.now l.invariant.text c.in-Some.ensures.text some small few;
      above = omega (arith, some);
      small = omega (arith, small, few);
    }
