-- The invariants and measures of the loops of `values::all_times`.
use Rattle.std.proofs.Common.{pos}
use Rattle.mk_scenario_keys.proofs.Gathering.{Gathers}
use Rattle.mk_scenario_keys.specs.Keys as keys
use Rattle.mk_scenario_keys.specs.Tests.{item_in}
use Rattle.mk_scenario_keys.proofs.values.all_times.Given as goal
use Rattle.mk_base.specs.Limits.{latest_end}

abbrev pub invariant-loop-i : goal.invariant-loop-i
invariant-loop-i l = Gathers (λ i n. keys.within (pos 0) latest_end (item_in l.path i) n) l.numbers l.i l.found
