-- Answers to the goals of `connections::pairs_made` that the prover leaves.
use Rattle.std.proofs.Common.{get_or}
use Rattle.mk_connect_pairs.specs.Connections.{pair_made}
use Rattle.mk_connect_pairs.proofs.Going.{through_more, through_refused}
use Rattle.mk_connect_pairs.proofs.connections.pairs_made.Goals as goal
use Rattle.mk_base.proofs.Items.{default_there}

pub returns-in-Err-clause-refused : goal.returns-in-Err-clause-refused
returns-in-Err-clause-refused c = through_refused (pair_made c.args.study.now.sims.now c.args.study.now.models.now c.args.study.now.entities.now c.args.block.now) c.args.made c.loop-ends.made c.args.pairs.now c.loop-ends.ends-index (get_or c.args.pairs.now c.loop-ends.ends-index (0, 0)) c.loop-ends-test.true
    (default_there c.args.pairs.now c.loop-ends.ends-index (0, 0) c.loop-ends-test.true) c.loop-ends.invariant c.in-Err.fault c.in-Err.ensures.refused

pub loop-ends-preserved : goal.loop-ends-preserved
loop-ends-preserved c = through_more (pair_made c.args.study.now.sims.now c.args.study.now.models.now c.args.study.now.entities.now c.args.block.now) c.args.made c.loop-ends.made c.args.pairs.now c.loop-ends.ends-index (get_or c.args.pairs.now c.loop-ends.ends-index (0, 0)) c.loop-ends-test.true
    (default_there c.args.pairs.now c.loop-ends.ends-index (0, 0) c.loop-ends-test.true) c.loop-ends.invariant c.in-Ok.more c.in-Ok.ensures.ok
