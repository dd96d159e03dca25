-- Answers to the goals of `sending::send_due` that the prover leaves.
use Rattle.mk_pace_loop.proofs.SendSteps.{due_late, due_not}
use Rattle.mk_pace_loop.proofs.sending.send_due.Goals as goal

pub returns-in-Some-too_late-clause-sent : goal.returns-in-Some-too_late-clause-sent
returns-in-Some-too_late-clause-sent g c =
    due_late c.args.core.now c.args.crew.now c.sending.crew c.args.waiting.now c.sending.waiting c.args.told c.in-Some.first c.in-Some-too_late.late c.sending.invariant.goes c.in-Some.ensures.some c.in-Some-too_late.ensures.some

pub returns-in-Err-clause-sent : goal.returns-in-Err-clause-sent
returns-in-Err-clause-sent g c =
    due_not c.args.core.now c.args.crew.now c.sending.crew c.send_first.new.crew c.args.waiting.now c.sending.waiting c.send_first.new.waiting c.args.told c.in-Err.end c.sending.invariant.goes c.in-Err.ensures.sent
