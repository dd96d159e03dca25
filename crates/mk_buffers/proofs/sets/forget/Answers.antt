-- Answers to the goals of `sets::forget` that the prover leaves.
use Rattle.std.proofs.Common.{sym, ◌∙◌, arith}
use Rattle.mk_buffers.proofs.Lasts.{forget_first}
use Rattle.mk_buffers.proofs.sets.forget.Goals as goal

pub loop-values-preserved : goal.loop-values-preserved
loop-values-preserved c = forget_first c.args.mark c.loop-values.values.items c.args.values.now.items c.drop_first.new.values.items c.index.result.now c.index-in-loop-values.result.now (omega (arith, c.loop-values-test.true, c.len.ensures)) c.index.ensures c.index-in-loop-values.ensures
    (sym c.is_replaced.ensures ∙ c.if-is_replaced.true) c.drop_first.ensures.items c.loop-values.invariant
