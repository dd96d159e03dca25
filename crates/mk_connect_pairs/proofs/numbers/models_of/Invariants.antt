-- The invariants and measures of the loops of `numbers::models_of`.
use Rattle.std.proofs.Common.{◌≡◌, take}
use Rattle.mk_connect_pairs.specs.Models.{models_of}
use Rattle.mk_connect_pairs.proofs.numbers.models_of.Given as goal

abbrev pub invariant-loop-sim : goal.invariant-loop-sim
invariant-loop-sim l = l.models ≡ models_of (take l.sim l.meta-items)
