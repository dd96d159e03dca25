-- Answers to the goals of `checking::scenario_has_one_status` that the prover leaves.
use Rattle.mosaikrun_check.proofs.OneRanking.{one_status}
use Rattle.mosaikrun_check.proofs.checking.scenario_has_one_status.Goals as goal

pub returns : goal.returns
returns c = one_status
