-- Answers to the goals of `connections::conns_made` that the prover leaves.
use Rattle.std.proofs.Common.{[]}
use Rattle.mk_connect_pairs.specs.Connections.{block_made}
use Rattle.mk_connect_pairs.proofs.Going.{through_more, through_refused}
use Rattle.mk_connect_pairs.proofs.connections.conns_made.Goals as goal

pub returns-in-Err-clause-refused : goal.returns-in-Err-clause-refused
returns-in-Err-clause-refused c = through_refused (block_made c.args.study.now.sims.now c.args.study.now.models.now c.args.study.now.entities.now) [] c.loop-block.made c.args.blocks.now c.loop-block.block-index c.block-item.result c.loop-block-test.true c.block-item.is c.loop-block.invariant c.in-Err.fault c.in-Err.ensures.refused

pub loop-block-preserved : goal.loop-block-preserved
loop-block-preserved c = through_more (block_made c.args.study.now.sims.now c.args.study.now.models.now c.args.study.now.entities.now) [] c.loop-block.made c.args.blocks.now c.loop-block.block-index c.block-item.result c.loop-block-test.true c.block-item.is c.loop-block.invariant c.in-Ok.more c.in-Ok.ensures.ok
