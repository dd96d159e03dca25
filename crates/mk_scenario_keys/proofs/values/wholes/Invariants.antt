-- The invariants and measures of the loops of `values::wholes`.
use Rattle.mk_scenario_keys.proofs.Gathering.{Gathers}
use Rattle.mk_scenario_keys.specs.Keys as keys
use Rattle.mk_scenario_keys.specs.Tests.{item_in}
use Rattle.mk_scenario_keys.proofs.values.wholes.Given as goal

abbrev pub invariant-loop-i : goal.invariant-loop-i
invariant-loop-i l = Gathers (λ i item. keys.whole (item_in l.path i) item) l.items l.i l.numbers
