-- Answers to the goals of `stock::Stock::wants` that the prover leaves.
use Rattle.mk_plan_judge.proofs.AtPlaces.{get_some}
use Rattle.mk_sched_supply.proofs.stock.Stock.wants.Goals as goal

pub returns : goal.returns
returns c = λ P k. (k.feeds c.args.sim.0 c.index.result.now (get_some c.args.self.now.feeds.items c.args.sim.0 c.index.result.now c.requires c.index.ensures)).wants
