-- The invariants and measures of the loops of `cycles::edges_of`.
use Rattle.mk_cycles.specs.Edges.{EndsBelow}
use Rattle.mk_scenario_trials.proofs.cycles.edges_of.Given as goal

abbrev pub invariant-loop-from : goal.invariant-loop-from
invariant-loop-from l = EndsBelow l.sims l.edges.items
