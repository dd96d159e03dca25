-- The invariants and measures of the loops of `groups::ids_of`.
use Rattle.std.proofs.Common.{◌≡◌, take}
use Rattle.mk_scenario.specs.Scenarios.{ids_of}
use Rattle.mk_scenario.proofs.groups.ids_of.Given as goal

abbrev pub invariant-loop-sim : goal.invariant-loop-sim
invariant-loop-sim l = l.ids ≡ ids_of (take l.sim-index l.sims)
