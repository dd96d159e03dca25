-- The invariants and measures of the loops of `numbers::models_with`.
use Rattle.std.proofs.Common.{◌≡◌, ◌++◌, map, take}
use Rattle.mk_connect_pairs.specs.Models.{sim_model}
use Rattle.mk_connect_pairs.proofs.numbers.models_with.Given as goal

abbrev pub invariant-loop-model : goal.invariant-loop-model
invariant-loop-model l = l.models ≡ l.fn.models ++ map (sim_model l.sim.0 l.meta.kind) (take l.model-index l.model-items)
