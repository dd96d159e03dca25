-- Answers to the goals of `sending::send_next` that the prover leaves.
use Rattle.mk_pace_loop.proofs.Fewer.{taken_fewer}
use Rattle.mk_pace_loop.proofs.SendSteps.{next_late, next_so, next_taken}
use Rattle.mk_pace_loop.proofs.sending.send_next.Goals as goal

pub send_at-requires-clause-due : goal.send_at-requires-clause-due
send_at-requires-clause-due g c =
    let t = c.requires.goes in
    let taken = c.in-Some.ensures in
    next_taken c.args.core.now c.args.crew.now c.args.waiting.now c.args.sim.0 c.in-Some.held taken.0 c.take.new.self taken.1 t.0 t.1 t.2

pub returns-clause-sent : goal.returns-clause-sent
returns-clause-sent g c =
    let taken = c.in-Some.ensures in
    next_so c.args.core.now c.args.crew.now c.args.waiting.now c.args.sim.0 c.in-Some.held taken.0 c.take.new.self taken.1 c.send_at.new.crew c.send_at.result
    (next_late c.args.waiting.now.holds c.args.sim.0 c.in-Some.held taken.0 c.requires.next taken.1.changed.there) c.replies_are_kinds.ensures c.send_at.ensures.sent c.send_at.ensures.unsent c.send_at.ensures.err

pub returns-clause-fewer : goal.returns-clause-fewer
returns-clause-fewer g c = let taken = c.in-Some.ensures in taken_fewer c.args.sim.0 c.in-Some.held taken.0 c.args.waiting.now c.take.new.self taken.1
