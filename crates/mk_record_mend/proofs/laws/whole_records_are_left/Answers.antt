-- Answers to the goals of `laws::whole_records_are_left` that the prover leaves.
use Rattle.mk_record_mend.proofs.Reading.{whole_left}
use Rattle.mk_record_mend.proofs.laws.whole_records_are_left.Goals as goal

pub returns : goal.returns
returns c bytes P A s e = whole_left bytes P A s e
