-- Answers to the goals of `plainly::plain_arrival` that the prover leaves.
use Rattle.std.proofs.Common.{arith}
use Rattle.mk_record_read.proofs.PlainLines.{arrives}
use Rattle.mk_record_read.proofs.plainly.plain_arrival.Goals as goal

pub returns-in-Some-2-clause-ok : goal.returns-in-Some-2-clause-ok
returns-in-Some-2-clause-ok c =
    let count = c.len.ensures in
    let there = c.in-Some-place_in.ensures.there in
    arrives c.args.plan.now c.args.text.now c.in-Some.payload.now c.in-Some.number c.in-Some-place_in.sim c.in-Some-2.message c.in-Some.ensures.text c.in-Some.ensures.small c.in-Some-place_in.ensures.same (omega (arith, count, there))
    (rw c.in-Some-2.is at c.in_ok-message.ensures.written) (rw c.in-Some-2.is at c.in_ok-message.ensures.message)
