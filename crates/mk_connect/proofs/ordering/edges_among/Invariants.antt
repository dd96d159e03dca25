-- The edges so far are those of the blocks gone through.
use Rattle.std.proofs.Common.{◌≡◌, take}
use Rattle.std.specs.Prelude.{flat_map}
use Rattle.mk_connect.specs.Edges.{edges_in}
use Rattle.mk_connect.proofs.ordering.edges_among.Given as goal

abbrev pub invariant-loop-block : goal.invariant-loop-block
invariant-loop-block l = l.edges ≡ flat_map (edges_in l.groups) (take l.block-index l.blocks)
