-- Answers to the goals of `fields::texts_among` that the prover leaves.
use Rattle.std.proofs.Common.{arith}
use Rattle.mk_base.specs.Trees.{text_in}
use Rattle.mk_record_read.proofs.Gathering.{gathered-more, gathered-missed}
use Rattle.mk_record_read.proofs.fields.texts_among.Goals as goal

pub returns-in_err-text-clause-err : goal.returns-in_err-text-clause-err
returns-in_err-text-clause-err c = let missed = gathered-missed text_in c.args.items.now c.loop-item.item-index c.item-item.result c.in_err-text.field-0.0 c.loop-item-test.true c.item-item.is c.in_err-text.ensures.err in grind (arith, missed)

pub loop-item-preserved : goal.loop-item-preserved
loop-item-preserved c = let more = gathered-more text_in c.args.items.now c.loop-item.item-index c.item-item.result c.in_ok-text.text.now c.loop-item.found c.loop-item-test.true c.item-item.is c.in_ok-text.ensures.ok c.loop-item.invariant in grind (arith, more)
