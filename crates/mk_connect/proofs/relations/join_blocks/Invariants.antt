-- The invariants and measures of the loops of `relations::join_blocks`.
use Rattle.std.proofs.Common.{◌≡◌, take}
use Rattle.std.specs.Prelude.{flat_map, fold}
use Rattle.mk_connect_pairs.specs.Connections.{block_pairs}
use Rattle.mk_connect.specs.inner.Joining.{joined}
use Rattle.mk_connect.proofs.relations.join_blocks.Given as goal

abbrev pub invariant-loop-block : goal.invariant-loop-block
invariant-loop-block l = l.lists.items ≡ fold joined l.fn.lists.items (flat_map (block_pairs l.study.entities.now) (take l.block-index l.blocks))
