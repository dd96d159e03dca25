-- Answers to the goals of `outlets::filled` that the prover leaves.
use Rattle.mk_buffers.proofs.Collecting.{next_of, outlets_more, outlets_whole}
use Rattle.mk_buffers.proofs.Vias.{source_width}
use Rattle.mk_buffers.proofs.outlets.filled.Goals as goal

pub loop-source-preserved : goal.loop-source-preserved
loop-source-preserved c = outlets_more c.args.plan.now c.args.sources.now c.loop-source.source-index c.source-item.result c.add.new.self c.loop-source-test.true c.source-item.is
    (c.in_ok-add.ensures c.args.plan.now _ c.loop-source.invariant (next_of c.args.plan.now c.args.sources.now c.loop-source.source-index c.source-item.result c.requires.names c.requires.references c.requires.sources c.loop-source-test.true c.source-item.is))

pub add-requires : goal.add-requires
add-requires c = source_width c.args.plan.now c.args.sources.now c.loop-source.source-index c.source-item.result c.requires.widths c.requires.sources c.loop-source-test.true c.source-item.is

pub returns : goal.returns
returns c = outlets_whole c.args.plan.now c.args.sources.now c.loop-source.source-index c.loop-source.made c.loop-source-test.false c.loop-source.invariant
