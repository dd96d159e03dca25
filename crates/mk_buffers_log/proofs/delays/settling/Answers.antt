-- Answers to the goals of `delays::settling` that the prover leaves.
use Rattle.mk_buffers_log.proofs.Keeping.{settled_at}
use mir.Syntax.{w64}
use mir.Val.{to_z, of_z}
use Rattle.mk_buffers_log.proofs.delays.settling.Goals as goal

pub loop-via-preserved : goal.loop-via-preserved
loop-via-preserved c = λ m s. c.settling_by-last.ensures m (c.loop-via.invariant m s)
    (settled_at c.args.vias.now c.loop-via.via-index c.via-item.result (to_z w64 (of_z w64 c.args.until)) m c.args.made c.loop-via-test.true c.via-item.is s)
