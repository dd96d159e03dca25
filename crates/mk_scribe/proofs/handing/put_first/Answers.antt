-- Answers to the goals of `handing::put_first` that the prover leaves.
use Rattle.std.proofs.Common.{arith}
use Rattle.mk_outside.proofs.Pieces.{next_piece, piece_within}
use Rattle.mk_scribe.proofs.handing.put_first.Goals as goal

pub loop-done-preserved : goal.loop-done-preserved
loop-done-preserved g c =
    let took = c.in-Took.ensures.taken in
    record {
      bounded = piece_within _ _ _ c.loop-done-test.true took.1;
      counted = grind arith;
      wanted = grind arith;
      taken = next_piece _ _ _ _ _ _ c.loop-done.invariant.taken took.2;
    }
