-- Answers to the goals of `links::waiting_wires` that the prover leaves.
use Rattle.mk_tiers.proofs.Wiring.{wires_more, wires_all, wires_whole}
use Rattle.mk_tiers.proofs.links.waiting_wires.Goals as goal

pub loop-conn-preserved : goal.loop-conn-preserved
loop-conn-preserved c = wires_more c.args.plan.now c.as_slice-conn-items.result.now c.loop-conn.conn-index c.conn-item.result c.loop-conn.wires.items c.push.new.self.items c.wire_of.result c.as_slice-conn-items.ensures c.loop-conn-test.true c.conn-item.is c.loop-conn.invariant c.wire_of.ensures c.in_ok-push.ensures.items

pub loop-pair-init : goal.loop-pair-init
loop-pair-init c = wires_all c.args.plan.now c.as_slice-conn-items.result.now c.loop-conn.conn-index c.loop-conn.wires.items c.as_slice-conn-items.ensures c.loop-conn-test.false c.loop-conn.invariant

pub returns : goal.returns
returns c = wires_whole c.args.plan.now c.as_slice-pair-items.result.now c.loop-pair.pair-index c.loop-pair.wires.items c.as_slice-pair-items.ensures c.loop-pair-test.false c.loop-pair.invariant
