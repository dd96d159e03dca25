-- Answers to the goals of `laws::records_are_there` that the prover leaves.
use Rattle.mosaikrun_run.proofs.Recording.{records_there}
use Rattle.mosaikrun_run.proofs.laws.records_are_there.Goals as goal

pub returns : goal.returns
returns c = records_there
