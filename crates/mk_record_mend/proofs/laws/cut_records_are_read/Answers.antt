-- Answers to the goals of `laws::cut_records_are_read` that the prover leaves.
use Rattle.mk_record_mend.proofs.Cutting.{cut_is_read}
use Rattle.mk_record_mend.proofs.laws.cut_records_are_read.Goals as goal

pub returns : goal.returns
returns c P J first others n ok is long = cut_is_read P J first others n ok is long
