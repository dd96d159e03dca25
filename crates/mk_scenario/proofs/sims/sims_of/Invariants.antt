-- The invariants and measures of the loops of `sims::sims_of`.
use Rattle.mk_scenario_keys.specs.Tests.{by_earlier}
use Rattle.mk_scenario_keys.proofs.Gathering.{Gathers}
use Rattle.mk_scenario.specs.Sims.{sim_in}
use Rattle.mk_scenario.proofs.sims.sims_of.Given as goal

abbrev pub invariant-loop-i : goal.invariant-loop-i
invariant-loop-i l = Gathers (by_earlier sim_in l.tables) l.tables l.i l.parts
