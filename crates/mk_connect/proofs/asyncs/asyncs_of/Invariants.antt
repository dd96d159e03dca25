-- The invariants and measures of the loops of `asyncs::asyncs_of`.
use Rattle.std.proofs.Common.{◌≡◌, [], take}
use Rattle.std.specs.Prelude.{flat_map, fold}
use Rattle.mk_connect.specs.Asyncs.{asyncs_in, pair_put}
use Rattle.mk_connect.proofs.asyncs.asyncs_of.Given as goal

abbrev pub invariant-loop-block : goal.invariant-loop-block
invariant-loop-block l = l.pairs ≡ fold pair_put [] (flat_map (asyncs_in l.groups) (take l.block-index l.blocks))
