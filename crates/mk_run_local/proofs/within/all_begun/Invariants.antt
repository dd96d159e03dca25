-- The invariants and measures of the loops of `within::all_begun`.
use Rattle.std.proofs.Common.{◌≡◌, take, map}
use Rattle.mk_local.specs.Registries.{rows_in}
use Rattle.mk_run_local.specs.Seen.{first_of}
use Rattle.mk_run_local.proofs.within.all_begun.Given as goal

abbrev pub invariant-loop-sim : goal.invariant-loop-sim
invariant-loop-sim g l = l.places.items ≡ map (first_of (rows_in l.kinds)) (take l.sim-index l.sims)
