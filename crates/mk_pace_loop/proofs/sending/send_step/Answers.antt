-- Answers to the goals of `sending::send_step` that the prover leaves.
use Rattle.std.proofs.Common.{◌<◌, List, length, sym, subst}
use Rattle.mk_pace_held.specs.declared.held.Held.{Held}
use Rattle.mk_pace_loop.proofs.Fewer.{step_fewer}
use Rattle.mk_pace_loop.proofs.HeldFirst.{first_below}
use Rattle.mk_pace_loop.proofs.SendSteps.{step_can, step_for_memory, step_not, step_so, step_taken}
use Rattle.mk_pace_loop.proofs.sending.send_step.Goals as goal

pub returns-in-Err-clause-sent : goal.returns-in-Err-clause-sent
returns-in-Err-clause-sent g c = step_for_memory c.args.core.now c.args.crew.now c.args.waiting.now c.push.new.self c.args.first.sim.0 c.args.told c.in-Err.ensures.err

pub take-requires : goal.take-requires
take-requires g c = subst (λ (l : List (List Held)). c.args.first.sim.0 < length l) (sym c.in_default.ensures.ok.1) (first_below c.args.first c.args.waiting.now.holds c.requires.first)

pub send_at-requires-clause-due : goal.send_at-requires-clause-due
send_at-requires-clause-due g c =
    let t = c.requires.goes in
    let taken = c.in-Some.ensures in
    step_can c.args.core.now c.args.crew.now c.args.waiting.now c.args.first c.args.told c.in-Some.held taken.0 c.take.new.self c.requires.first
    (step_taken c.args.first c.args.told c.args.waiting.now c.push.new.self c.take.new.self c.in-Some.held taken.0 c.in_default.ensures.ok taken.1) t.0 t.1 t.2

pub returns-in-Ok-clause-sent : goal.returns-in-Ok-clause-sent
returns-in-Ok-clause-sent g c =
    let taken = c.in-Some.ensures in
    step_so c.args.core.now c.args.crew.now c.args.waiting.now c.args.first c.args.told c.in-Some.held taken.0 c.take.new.self c.requires.first
    (step_taken c.args.first c.args.told c.args.waiting.now c.push.new.self c.take.new.self c.in-Some.held taken.0 c.in_default.ensures.ok taken.1) c.send_at.new.crew c.requires.due c.requires.in_time c.replies_are_kinds.ensures
    c.in-Ok.ensures.sent

pub returns-in-Ok-clause-fewer : goal.returns-in-Ok-clause-fewer
returns-in-Ok-clause-fewer g c =
    let taken = c.in-Some.ensures in
    let t = step_taken c.args.first c.args.told c.args.waiting.now c.push.new.self c.take.new.self c.in-Some.held taken.0 c.in_default.ensures.ok taken.1 in
    step_fewer c.args.first.sim.0 c.in-Some.held taken.0 c.args.waiting.now c.take.new.self t.changed t.same

pub returns-in-Err-send_at-clause-sent : goal.returns-in-Err-send_at-clause-sent
returns-in-Err-send_at-clause-sent g c =
    let taken = c.in-Some.ensures in
    step_not c.args.core.now c.args.crew.now c.args.waiting.now c.args.first c.args.told c.in-Some.held taken.0 c.take.new.self c.requires.first
    (step_taken c.args.first c.args.told c.args.waiting.now c.push.new.self c.take.new.self c.in-Some.held taken.0 c.in_default.ensures.ok taken.1) c.send_at.new.crew c.pop.new.self c.in-Err-send_at.end c.in-Err-send_at.ensures.unsent
    c.in-Err-send_at.ensures.err c.pop.ensures.moments c.pop.ensures.same
