-- Answers to the goals of `laws::paced_records_are_there` that the prover leaves.
use Rattle.mosaikrun_paced.proofs.Recording.{records_there}
use Rattle.mosaikrun_paced.proofs.laws.paced_records_are_there.Goals as goal

pub returns : goal.returns
returns c = records_there
