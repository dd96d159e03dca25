-- Answers to the goals of `laws::frames_joined` that the prover leaves.
use Rattle.mk_frame.proofs.OnFrames.{joined}
use Rattle.mk_frame.proofs.laws.frames_joined.Goals as goal

pub returns : goal.returns
returns c = joined
