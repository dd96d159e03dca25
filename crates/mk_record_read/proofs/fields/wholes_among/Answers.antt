-- Answers to the goals of `fields::wholes_among` that the prover leaves.
use Rattle.std.proofs.Common.{arith}
use Rattle.mk_base.specs.Trees.{whole_in}
use Rattle.mk_record_read.proofs.Gathering.{gathered-more, gathered-missed}
use Rattle.mk_record_read.proofs.fields.wholes_among.Goals as goal

pub returns-in_err-n-clause-err : goal.returns-in_err-n-clause-err
returns-in_err-n-clause-err c = let missed = gathered-missed whole_in c.args.items.now c.loop-item.item-index c.item-item.result c.in_err-n.field-0.0 c.loop-item-test.true c.item-item.is c.in_err-n.ensures.err in grind (arith, missed)

pub loop-item-preserved : goal.loop-item-preserved
loop-item-preserved c = let more = gathered-more whole_in c.args.items.now c.loop-item.item-index c.item-item.result c.in_ok-n.n c.loop-item.found c.loop-item-test.true c.item-item.is c.in_ok-n.ensures.ok c.loop-item.invariant in grind (arith, more)
