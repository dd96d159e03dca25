-- Answers to the goals of `log::next_rising` that the prover leaves.
use Rattle.std.proofs.Common.{arith}
use Rattle.mk_buffers_log.proofs.Keeping.{stays_all}
use Rattle.mk_buffers_log.proofs.log.next_rising.Goals as goal

pub returns : goal.returns
returns c = stays_all c.args.vias.now c.args.until.now c.args.mark c.loop-place.next c.args.entries.now.items c.loop-place.place (omega (arith, c.loop-place-test.false, c.len.ensures)) c.loop-place.invariant.stays
