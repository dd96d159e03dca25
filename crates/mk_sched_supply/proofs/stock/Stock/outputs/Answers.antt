-- Answers to the goals of `stock::Stock::outputs` that the prover leaves.
use Rattle.std.proofs.Common.{◌≡◌, List, Some, slice_get, subst}
use Rattle.mk_sched_supply.specs.declared.feeds.Feed.{Feed}
use Rattle.mk_plan_judge.proofs.AtPlaces.{get_some}
use Rattle.mk_sched_supply.proofs.Giving.{data_found, outputs_found}
use Rattle.mk_sched_supply.proofs.stock.Stock.outputs.Goals as goal

here : (c : goal.After-outputs_of) → slice_get c.args.self.now.feeds.items c.args.sim.0 ≡ Some c.in-Some.feed.now
here c = subst (λ (l : List Feed). slice_get l c.args.sim.0 ≡ Some c.in-Some.feed.now) c.deref.ensures.value (get_some c.deref.result.now c.args.sim.0 c.in-Some.feed.now c.in-Some.ensures.lookup.3.0 c.in-Some.ensures.lookup.1)

pub returns-in-Some-clause-outputs : goal.returns-in-Some-clause-outputs
returns-in-Some-clause-outputs c = λ P k low. outputs_found P c.args.sim.0 c.args.content.now c.in-Some.feed.now c.outputs_of.result (k.feeds c.args.sim.0 c.in-Some.feed.now (here c)) c.outputs_of.ensures.values c.outputs_of.ensures.given

pub returns-in-Some-clause-data : goal.returns-in-Some-clause-data
returns-in-Some-clause-data c = λ P at k low range right. data_found P c.args.sim.0 at c.args.content.now c.in-Some.feed.now c.outputs_of.result (k.feeds c.args.sim.0 c.in-Some.feed.now (here c)) range right c.outputs_of.ensures.values
