-- Answers to the goals of `within::Within::new` that the prover leaves.
use Rattle.mk_local.specs.Registries.{rows_in}
use Rattle.mk_run_local.proofs.Beginning.{begun_of, begun_stands}
use Rattle.mk_run_local.proofs.within.Within.new.Goals as goal

pub invariant_of-result : goal.invariant_of-result
invariant_of-result g c = begun_stands (rows_in c.args.kinds.now) c.args.scenario.now _ _ c.in_ok-sims.ensures c.new.ensures.items

pub returns-clause-kinds : goal.returns-clause-kinds
returns-clause-kinds g c = begun_of (rows_in c.args.kinds.now) c.args.scenario.now _ _ c.in_ok-sims.ensures c.new.ensures.items
