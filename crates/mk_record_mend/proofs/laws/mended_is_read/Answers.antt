-- Answers to the goals of `laws::mended_is_read` that the prover leaves.
use Rattle.mk_record_mend.proofs.Reading.{lines_read}
use Rattle.mk_record_mend.proofs.laws.mended_is_read.Goals as goal

pub returns : goal.returns
returns c bytes T short led ends = lines_read bytes T short led ends
