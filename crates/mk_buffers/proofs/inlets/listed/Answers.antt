-- Answers to the goals of `inlets::listed` that the prover leaves.
use Rattle.mk_buffers.proofs.Listing.{comes_next, listed_more, listed_whole}
use Rattle.mk_buffers.proofs.Vias.{target_width}
use Rattle.mk_buffers.proofs.inlets.listed.Goals as goal

pub loop-target-preserved : goal.loop-target-preserved
loop-target-preserved c = listed_more _ c.args.targets.now c.loop-target.target-index c.target-item.result c.add_inlet.new.inlets.items c.loop-target-test.true c.target-item.is
    (c.in_ok-add_inlet.ensures _ _ c.loop-target.invariant (comes_next c.args.plan.now c.requires.targets.0 c.args.targets.now c.loop-target.target-index c.target-item.result c.requires.targets.1 c.loop-target-test.true c.target-item.is))

pub returns : goal.returns
returns c = listed_whole _ c.args.targets.now c.loop-target.target-index c.loop-target.inlets.items c.loop-target-test.false c.loop-target.invariant

pub add_inlet-requires : goal.add_inlet-requires
add_inlet-requires c = target_width c.args.plan.now c.requires.targets.0 c.args.targets.now c.loop-target.target-index c.target-item.result c.requires.widths c.requires.targets.1 c.loop-target-test.true c.target-item.is
