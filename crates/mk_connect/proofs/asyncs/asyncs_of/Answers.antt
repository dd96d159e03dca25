-- Answers to the goals of `asyncs::asyncs_of` that the prover leaves.
use Rattle.std.proofs.Common.{[], ap, sym, ◌∙◌}
use Rattle.std.specs.Prelude.{fold}
use Rattle.mk_connect.specs.Asyncs.{asyncs_in, pair_put}
use Rattle.mk_connect.proofs.Putting.{fold_more}
use Rattle.mk_connect.proofs.asyncs.asyncs_of.Goals as goal

pub loop-block-preserved : goal.loop-block-preserved
loop-block-preserved c = c.in_ok-put_async.ensures ∙ ap (λ l. fold pair_put l (asyncs_in c.args.groups.now c.block-item.result)) c.loop-block.invariant
    ∙ sym (fold_more pair_put (asyncs_in c.args.groups.now) [] c.args.blocks.now c.loop-block.block-index c.block-item.result c.loop-block-test.true c.block-item.is)
