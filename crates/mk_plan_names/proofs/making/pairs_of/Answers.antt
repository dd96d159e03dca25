-- Answers to the goals of `making::pairs_of` that the prover leaves.
use Rattle.std.proofs.Common.{refl, ap, arith, length}
use Rattle.mk_plan_names.proofs.Sources.{pairs_more, same_item, same_pair}
use Rattle.mk_plan_names.proofs.making.pairs_of.Goals as goal

pub loop-pair-preserved : goal.loop-pair-preserved
loop-pair-preserved c = pairs_more _ same_pair _ c.args.asyncs.now _ _ c.loop-pair.pair-index c.loop-pair.pairs.keys c.insert.new.self.keys
    (omega (arith, c.loop-pair-test.true, ap length c.as_slice-pair-items.ensures)) c.loop-pair.invariant c.in_ok-insert.ensures.keys refl (same_item _ c.args.asyncs.now c.loop-pair.pair-index _ c.as_slice-pair-items.ensures)
