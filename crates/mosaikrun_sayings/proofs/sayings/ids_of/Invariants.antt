-- The invariants and measures of the loops of `sayings::ids_of`.
use Rattle.std.proofs.Common.{◌≡◌, take, map}
use Rattle.mk_scenario.specs.declared.parts.SimPart.{SimPart}
use Rattle.mosaikrun_sayings.proofs.sayings.ids_of.Given as goal

abbrev pub invariant-loop-sim : goal.invariant-loop-sim
invariant-loop-sim l = l.ids ≡ map (λ (part : SimPart). part.id) (take l.sim-index l.sim-items)
