-- Answers to the goals of `closing::close_all` that the prover leaves.
use Rattle.std.proofs.Common.{None, [], get_or, refl, sym, ◌∙◌, arith}
use Rattle.mk_outside.proofs.OnLogs.{adds_more, adds_none}
use Rattle.mk_run_links.proofs.Beginning.{closed_more, place_open, without_none}
use Rattle.mk_run_links.proofs.closing.close_all.Goals as goal
use Rattle.mk_base.proofs.Items.{default_there}

pub loop-place-init : goal.loop-place-init
loop-place-init g c = record {
  closed = sym (without_none (g.F.Fleet.open_links c.args.fleet.now));
  counted = omega arith;
  same_count = refl;
  logged = adds_none _;
}

pub close_place-requires : goal.close_place-requires
close_place-requires g c = place_open c.args.links.now c.loop-place.place-index (get_or c.args.links.now c.loop-place.place-index None) _ _ c.requires.distinct c.requires.open c.loop-place-test.true
    (default_there c.args.links.now c.loop-place.place-index None c.loop-place-test.true) c.loop-place.invariant.closed

pub loop-place-preserved : goal.loop-place-preserved
loop-place-preserved g c =
    let so_far = c.loop-place.invariant in
    let is = default_there c.args.links.now c.loop-place.place-index None c.loop-place-test.true in
    record {
      closed = closed_more c.args.links.now c.loop-place.place-index _ _ _ _ c.loop-place-test.true is so_far.closed c.close_place.ensures.closed;
      counted = omega (arith, so_far.counted, c.close_place.ensures.count);
      same_count = c.close_place.ensures.same_count ∙ so_far.same_count;
      logged = adds_more [] [] _ _ _ so_far.logged c.close_place.ensures.logged;
    }
