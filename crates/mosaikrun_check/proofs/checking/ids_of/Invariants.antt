-- The invariants and measures of the loops of `checking::ids_of`.
use Rattle.std.proofs.Common.{◌≡◌, take, map}
use Rattle.mk_base.specs.declared.SimNo.{SimNo}
use Rattle.mk_scenario.specs.Ids.{id_of_sim}
use Rattle.mosaikrun_check.proofs.checking.ids_of.Given as goal

abbrev pub invariant-loop-sim : goal.invariant-loop-sim
invariant-loop-sim l = l.ids ≡ map (λ (s : SimNo). id_of_sim l.scenario.sims s.0) (take l.sim-index l.sim-items)
