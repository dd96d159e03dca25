-- Answers to the goals of `connections::pair_made` that the prover leaves.
use Rattle.std.proofs.Common.{List, subst}
use Rattle.mk_scenario.specs.declared.parts.AttrPair.{AttrPair}
use Rattle.mk_connect_pairs.specs.Faults.{IsFaultOf, through}
use Rattle.mk_connect_pairs.specs.Connections.{connected}
use Rattle.mk_connect_pairs.proofs.Going.{through_more, through_refused}
use Rattle.mk_connect_pairs.proofs.connections.pair_made.Goals as goal

pub returns-in-Err-clause-refused : goal.returns-in-Err-clause-refused
returns-in-Err-clause-refused c = subst (λ (ps : List AttrPair). IsFaultOf (through (connected c.args.study.now.sims.now c.args.study.now.models.now c.args.study.now.entities.now c.args.block.now c.args.ends) c.args.made ps) c.in-Err.fault) c.as_slice-pair-items.ensures (through_refused (connected c.args.study.now.sims.now c.args.study.now.models.now c.args.study.now.entities.now c.args.block.now c.args.ends) c.args.made c.loop-pair.made c.as_slice-pair-items.result.now c.loop-pair.pair-index c.pair-item.result c.loop-pair-test.true c.pair-item.is c.loop-pair.invariant c.in-Err.fault c.in-Err.ensures.refused)

pub loop-pair-preserved : goal.loop-pair-preserved
loop-pair-preserved c = through_more (connected c.args.study.now.sims.now c.args.study.now.models.now c.args.study.now.entities.now c.args.block.now c.args.ends) c.args.made c.loop-pair.made c.as_slice-pair-items.result.now c.loop-pair.pair-index c.pair-item.result c.loop-pair-test.true c.pair-item.is c.loop-pair.invariant c.in-Ok.more c.in-Ok.ensures.ok
