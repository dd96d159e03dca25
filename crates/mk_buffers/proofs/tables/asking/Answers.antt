-- Answers to the goals of `tables::asking` that the prover leaves.
use Rattle.std.proofs.Common.{arith, subst, sym, refl, length, ◌<◌}
use Rattle.mk_buffers.proofs.Asking.{asked_more, asking_all, paired_more, paired_none, target_there, second_there, at_place}
use Rattle.mk_buffers.proofs.tables.asking.Goals as goal

pub loop-conn-preserved : goal.loop-conn-preserved
loop-conn-preserved c = asked_more c.args.plan.now c.as_slice-conn-items.result.now c.loop-conn.conn-index c.conn-item.result c.owner.result.0 c.loop-conn.asks.items c.ask.new.asks.items c.loop-conn.invariant c.loop-conn-test.true c.conn-item.is c.owner.ensures
    (subst (λ n. n < length c.args.plan.now.sims) (sym c.owner.ensures) (target_there c.args.plan.now c.requires.references c.as_slice-conn-items.result.now c.loop-conn.conn-index c.conn-item.result c.as_slice-conn-items.ensures c.loop-conn-test.true c.conn-item.is)) c.ask.ensures.count c.ask.ensures.here

pub loop-place-preserved : goal.loop-place-preserved
loop-place-preserved c =
    let there = at_place c.args.plan.now.asyncs c.loop-place.place c.at.result.now c.at.ensures in
    paired_more c.args.plan.now c.args.plan.now.asyncs c.loop-place.place c.at.result.now c.loop-place.asks.items c.ask-in-loop-place.new.asks.items c.loop-place.invariant there.0 there.1
    (second_there c.args.plan.now c.requires.references c.args.plan.now.asyncs c.loop-place.place c.at.result.now refl there.0 there.1) c.ask-in-loop-place.ensures.count c.ask-in-loop-place.ensures.here

pub loop-place-init : goal.loop-place-init
loop-place-init c = paired_none c.args.plan.now c.as_slice-conn-items.result.now c.args.plan.now.asyncs c.loop-conn.conn-index c.loop-conn.asks.items c.as_slice-conn-items.ensures c.loop-conn-test.false c.loop-conn.invariant

pub returns : goal.returns
returns c = asking_all c.args.plan.now c.args.plan.now.asyncs c.loop-place.place c.loop-place.asks.items refl (omega (arith, c.loop-place-test.false, c.len-place-end.ensures)) c.loop-place.invariant
