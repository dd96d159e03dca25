-- Which kinds are still to be made.
use Rattle.std.proofs.Common.{◌≡◌, true, drop}
use Rattle.mk_local.specs.Registries.{rows_in}
use Rattle.mk_local.specs.inner.Registries.{are_new}
use Rattle.mosaikrun.proofs.run.Given as goal

abbrev pub invariant-loop-turn : goal.invariant-loop-turn
invariant-loop-turn g l = are_new (rows_in l.kinds) (drop l.turn-index l.turns) ≡ true
