-- Answers to the goals of `scenario::demo_scenario` that the prover leaves.
use Rattle.mk_scenario_demo.proofs.Wellformed.{wellformed_where_made}
use Rattle.mk_scenario_demo.proofs.scenario.demo_scenario.Goals as goal

pub returns-clause-wellformed : goal.returns-clause-wellformed
returns-clause-wellformed c = wellformed_where_made c.args.size c.requires.low c.requires.high c.scenario.result c.scenario.ensures
