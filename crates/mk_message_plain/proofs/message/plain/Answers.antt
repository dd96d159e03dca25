-- Answers to the goals of `message::plain` that the prover leaves.
use Rattle.std.proofs.Common.{arith}
use Rattle.mk_message_plain.proofs.Messages.{told_back, written}
use Rattle.mk_message_plain.proofs.message.plain.Goals as goal

pub returns-in-Some-2-clause-message : goal.returns-in-Some-2-clause-message
returns-in-Some-2-clause-message c =
    let small = c.in-Some.ensures.small in
    told_back c.in-Some.id c.in-Some-2.content (rw c.in-Some-2.is at c.in_ok-content.ensures.content) c.args.payload.now c.in-Some.text.now (omega (arith, small)) c.in-Some.ensures.text (rw c.in-Some-2.is at c.in_ok-content.ensures.text)

pub returns-in-Some-2-clause-written : goal.returns-in-Some-2-clause-written
returns-in-Some-2-clause-written c =
    let small = c.in-Some.ensures.small in
    written c.in-Some.id c.in-Some-2.content (rw c.in-Some-2.is at c.in_ok-content.ensures.content) c.args.payload.now c.in-Some.text.now (omega (arith, small)) c.in-Some.ensures.text (rw c.in-Some-2.is at c.in_ok-content.ensures.text)
