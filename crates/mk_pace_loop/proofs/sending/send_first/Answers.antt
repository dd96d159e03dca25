-- Answers to the goals of `sending::send_first` that the prover leaves.
use Rattle.mk_pace_loop.proofs.SendSteps.{first_so}
use Rattle.mk_pace_loop.proofs.sending.send_first.Goals as goal

pub returns-in-Ok-clause-sent : goal.returns-in-Ok-clause-sent
returns-in-Ok-clause-sent g c =
    first_so c.args.core.now c.args.crew.now c.send_step.new.crew c.send_behind.new.crew c.args.waiting.now c.send_step.new.waiting c.send_behind.new.waiting c.args.first.sim.0 c.args.told c.send_behind.result c.in-Ok.ensures.sent c.send_behind.ensures.sent
