-- Answers to the goals of `stock::Stock::take_outputs` that the prover leaves.
use Rattle.std.proofs.Common.{◌∙◌, arith}
use Rattle.mk_plan.specs.Journals.{view}
use Rattle.mk_plan_judge.proofs.AtPlaces.{get_some}
use Rattle.mk_sched_supply.proofs.Gaining.{gained_none}
use Rattle.mk_sched_supply.proofs.Taking.{data_at, gained_next, got_below, rest_itself, rest_through, stock_taken}
use Rattle.mk_sched_supply.proofs.stock.Stock.take_outputs.Goals as goal

pub loop-place-init : goal.loop-place-init
loop-place-init c = (rest_itself c.args.self.now, c.len-place-end.ensures ∙ c.args.outputs.now.values.ok.0, λ P S content st low values. gained_none P c.args.sim.0 c.args.made content S c.args.self.now.buffers st)

pub take_output-requires-clause-data : goal.take_output-requires-clause-data
take_output-requires-clause-data c = data_at c.args.outputs.now.values.items c.loop-place.place c.index.result.now (get_some c.args.outputs.now.values.items c.loop-place.place c.index.result.now (omega arith) c.index.ensures) c.requires.data

pub loop-place-preserved : goal.loop-place-preserved
loop-place-preserved c = (
  rest_through _ _ _ c.loop-place.invariant.0 c.in_ok-take_output.ensures.rest,
  c.loop-place.invariant.1,
  λ P S content st low values. gained_next P S content c.args.outputs.now c.loop-place.place c.args.sim.0 c.args.made c.index.result.now c.loop-place.self.buffers c.take_output.new.self.buffers
      (get_some c.args.outputs.now.values.items c.loop-place.place c.index.result.now (omega arith) c.index.ensures) low values (c.loop-place.invariant.2 P S content st low values) (λ T w st at. c.in_ok-take_output.ensures.given P T w st low at),
)

pub returns-clause-marks : goal.returns-clause-marks
returns-clause-marks c = c.loop-place.invariant.0.marks

pub returns-clause-stock : goal.returns-clause-stock
returns-clause-stock c = λ P J m T content may right is when out h.
    let low = got_below P (view P J) c.args.sim m (view P J).owed may.allowed.1 in
    stock_taken P J c.args.sim m T content c.args.made c.args.outputs.now c.args.self.now c.loop-place.self c.loop-place.place may right is when out h c.loop-place.invariant.0 (omega arith) (c.loop-place.invariant.2 P h.supplied.0 content h.supplied.1 low out.values)
