-- Answers to the goals of `numbers::models_of` that the prover leaves.
use Rattle.std.proofs.Common.{sym, ap, ◌∙◌, ◌++◌, map}
use Rattle.mk_connect_pairs.specs.Models.{sim_model}
use Rattle.mk_connect_pairs.proofs.Modelled.{models_more}
use Rattle.mk_connect_pairs.proofs.numbers.models_of.Goals as goal

pub loop-sim-preserved : goal.loop-sim-preserved
loop-sim-preserved c = c.in_ok-models.ensures ∙ ap (λ s. c.loop-sim.models ++ map (sim_model s c.meta-item.result.kind) c.meta-item.result.models) c.in_ok-sim.ensures ∙ ap (λ l. l ++ map (sim_model c.loop-sim.sim c.meta-item.result.kind) c.meta-item.result.models) c.loop-sim.invariant ∙ sym (models_more c.as_slice-meta-items.result.now c.loop-sim.sim c.meta-item.result c.loop-sim-test.true c.meta-item.is)
