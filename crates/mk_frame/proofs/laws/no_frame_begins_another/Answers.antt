-- Answers to the goals of `laws::no_frame_begins_another` that the prover leaves.
use Rattle.mk_frame.proofs.OnFrames.{not_prefix}
use Rattle.mk_frame.proofs.laws.no_frame_begins_another.Goals as goal

pub returns : goal.returns
returns c = not_prefix
