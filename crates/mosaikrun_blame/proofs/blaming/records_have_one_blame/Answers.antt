-- Answers to the goals of `blaming::records_have_one_blame` that the prover leaves.
use Rattle.mosaikrun_blame.proofs.OneBlame.{one_blame}
use Rattle.mosaikrun_blame.proofs.blaming.records_have_one_blame.Goals as goal

pub returns : goal.returns
returns c = one_blame
