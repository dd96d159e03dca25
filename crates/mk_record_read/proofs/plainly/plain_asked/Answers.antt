-- Answers to the goals of `plainly::plain_asked` that the prover leaves.
use Rattle.std.proofs.Common.{◌≡◌, pos, arith}
use mir.Val.{to_z}
use Rattle.std.proofs.lemmas.Int.{ints}
use Rattle.std.specs.Int.{w128}
use Rattle.mk_record_read.proofs.PlainLines.{asks}
use Rattle.mk_record_read.proofs.plainly.plain_asked.Goals as goal

pub returns-in-Ok : goal.returns-in-Ok
returns-in-Ok c =
    let n = c.in_ok-number in
    let count = c.len.ensures in
    let there = c.in_ok-sim.ensures.there in
    let small = n.ensures.small.1.0 in
    let time : to_z w128 n.time ≡ pos n.time = omega (arith, ints, small) in
    let few = n.ensures.small.1.1.0 in
    let tier : to_z w128 n.tier ≡ pos n.tier = omega (arith, ints, few) in
    let low = n.ensures.small.1.1.1.0 in
    let advance : to_z w128 n.max_advance ≡ pos n.max_advance = omega (arith, ints, low) in
    asks c.args.plan.now c.args.before c.args.text.now n.number n.time n.tier n.max_advance c.in_ok-sim.sim (to_z w128 n.time) (to_z w128 n.tier) (to_z w128 n.max_advance) c.in-Ok.asked n.ensures.text n.ensures.small c.in_ok-sim.ensures.same (omega (arith, count, there))
    c.in-Ok.ensures.ok time tier advance
