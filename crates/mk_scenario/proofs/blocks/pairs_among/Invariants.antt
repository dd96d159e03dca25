-- The invariants and measures of the loops of `blocks::pairs_among`.
use Rattle.mk_scenario_keys.specs.Tests.{found, item_in}
use Rattle.mk_scenario_keys.specs.declared.fault.ScenarioFault.TheVariants as faults
use Rattle.mk_scenario_keys.proofs.Gathering.{Gathers}
use Rattle.mk_scenario.specs.Blocks.{pair_in}
use Rattle.mk_scenario.proofs.blocks.pairs_among.Given as goal

abbrev pub invariant-loop-i : goal.invariant-loop-i
invariant-loop-i l = Gathers (λ i item. found (faults.WrongKind (item_in l.path i)) (pair_in item)) l.items l.i l.pairs
