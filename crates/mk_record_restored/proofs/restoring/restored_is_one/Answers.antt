-- Answers to the goals of `restoring::restored_is_one` that the prover leaves.
use Rattle.mk_record_restored.proofs.OneRestored.{restored_one}
use Rattle.mk_record_restored.proofs.restoring.restored_is_one.Goals as goal

pub returns : goal.returns
returns c = restored_one
