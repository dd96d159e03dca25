-- Answers to the goals of `read::read_scenario` that the prover leaves.
use Rattle.mk_scenario.proofs.Wellformedness.{wellformed_where_ok}
use Rattle.mk_scenario.proofs.read.read_scenario.Goals as goal

pub returns-in-Ok-clause-wellformed : goal.returns-in-Ok-clause-wellformed
returns-in-Ok-clause-wellformed c = wellformed_where_ok _ _ c.in-Ok.ensures.sound.0 c.scenario_in.ensures.ok
