-- Answers to the goals of `links::Links::new` that the prover leaves.
use Rattle.std.proofs.Common.{None, arith, get_or, ◌∙◌}
use Rattle.mk_run_links.proofs.Beginning.{all_begun, few_channels, channels_grow, place_fresh, ready_grow}
use Rattle.mk_run_links.proofs.links.Links.new.Goals as goal
use Rattle.mk_base.proofs.Items.{default_there}

pub add_place-requires-clause-few : goal.add_place-requires-clause-few
add_place-requires-clause-few c = few_channels c.args.links.now c.loop-place.place-index c.loop-place.channels c.loop-place-test.true c.requires.few c.loop-place.invariant.channels

pub add_place-requires-clause-fresh : goal.add_place-requires-clause-fresh
add_place-requires-clause-fresh c = place_fresh c.args.links.now c.loop-place.place-index (get_or c.args.links.now c.loop-place.place-index None) c.loop-place.turns c.requires.distinct c.loop-place-test.true
    (default_there c.args.links.now c.loop-place.place-index None c.loop-place-test.true) c.loop-place.invariant.ready c.loop-place.invariant.taken c.loop-place.invariant.parked

pub loop-place-preserved : goal.loop-place-preserved
loop-place-preserved c =
    let so_far = c.loop-place.invariant in
    let is = default_there c.args.links.now c.loop-place.place-index None c.loop-place-test.true in
    record {
      channels = channels_grow c.args.links.now c.loop-place.place-index _ c.loop-place.channels c.add_place.new.channels c.loop-place-test.true is so_far.channels c.in_ok-add_place.ensures.channels;
      ready = ready_grow c.args.links.now c.loop-place.place-index _ c.loop-place.turns.ready c.add_place.new.turns.ready c.loop-place-test.true is so_far.ready c.in_ok-add_place.ensures.ready;
      taken = c.in_ok-add_place.ensures.taken ∙ so_far.taken;
      parked = c.in_ok-add_place.ensures.parked ∙ so_far.parked;
    }

pub invariant_of-result : goal.invariant_of-result
invariant_of-result c =
    let so_far = c.loop-place.invariant in
    all_begun c.args.links.now c.loop-place.place-index c.loop-place.channels c.loop-place.turns c.requires.distinct (omega (arith, c.loop-place-test.false)) so_far.channels so_far.ready so_far.taken
