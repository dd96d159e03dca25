-- The invariants and measures of the loops of `wholly::no_links`.
use Rattle.std.proofs.Common.{◌≡◌, replicate, None}
use Rattle.mk_run_crew.proofs.wholly.no_links.Given as goal

abbrev pub invariant-loop-sim : goal.invariant-loop-sim
invariant-loop-sim l = l.places ≡ replicate l._sim None
