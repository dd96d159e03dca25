-- Answers to the goals of `sending::send_behind` that the prover leaves.
use Rattle.std.proofs.Common.{refl}
use Rattle.mk_pace_loop.proofs.SendSteps.{behind_done, behind_not}
use Rattle.mk_pace_loop.proofs.sending.send_behind.Goals as goal

pub returns-then-not-is_behind-clause-sent : goal.returns-then-not-is_behind-clause-sent
returns-then-not-is_behind-clause-sent g c =
    let e = c.if-not-is_behind.ensures.none refl in
    behind_done c.args.core.now c.args.crew.now c.behind.crew c.args.waiting.now c.behind.waiting c.args.sim.0 c.behind.invariant.goes e.0 e.1 e.2

pub returns-in-Err-clause-sent : goal.returns-in-Err-clause-sent
returns-in-Err-clause-sent g c =
    behind_not c.args.core.now c.args.crew.now c.behind.crew c.send_next.new.crew c.args.waiting.now c.behind.waiting c.send_next.new.waiting c.args.sim.0 c.in-Err.end c.behind.invariant.goes c.in-Err.ensures.sent
