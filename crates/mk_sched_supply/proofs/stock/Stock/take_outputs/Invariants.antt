-- The invariants and measures of the loops of `stock::Stock::take_outputs`.
use Rattle.std.proofs.Common.{◌≡◌, ◌<◌, length, map}
use Rattle.mk_base.specs.declared.json.Json.{Json}
use Rattle.mk_plan.specs.declared.Plan.{Plan}
use Rattle.mk_plan.specs.Plans.{sim_count}
use Rattle.mk_plan.specs.Turns.{wanted, value_for}
use Rattle.mk_plan.specs.Deliveries.{Supply}
use Rattle.mk_buffers.specs.Standing.{StandFor}
use Rattle.mk_sched_supply.specs.Outputs.{found_values}
use Rattle.mk_sched_supply.specs.inner.Making.{HasSameRest}
use Rattle.mk_sched_supply.proofs.Gaining.{HasGained}
use Rattle.mk_sched_supply.proofs.stock.Stock.take_outputs.Given as goal

abbrev pub invariant-loop-place : goal.invariant-loop-place
invariant-loop-place l = HasSameRest l.fn.self l.self × (l.place-end ≡ length l.outputs.values.items)
    × ((P : Plan) (S : Supply) (content : Json) → StandFor P l.fn.self.buffers S → l.sim.0 < sim_count P → found_values l.outputs ≡ map (value_for content) (wanted P l.sim.0) → HasGained P l.sim.0 l.made content l.place S l.self.buffers)
