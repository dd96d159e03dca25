-- Answers to the goals of `laws::other_faults_stay` that the prover leaves.
use Rattle.mk_record_mend.proofs.Reading.{fault_stays}
use Rattle.mk_record_mend.proofs.laws.other_faults_stay.Goals as goal

pub returns : goal.returns
returns c bytes line fault e other = fault_stays bytes line fault e other
