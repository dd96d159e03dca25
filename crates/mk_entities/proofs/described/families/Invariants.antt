-- The invariants and measures of the loops of `described::families`.
use Rattle.std.proofs.Common.{◌≡◌, flat_map, take, false}
use Rattle.mk_entities.specs.Descriptions.{family}
use Rattle.mk_entities.proofs.described.families.Given as goal

abbrev pub invariant-loop-tree : goal.invariant-loop-tree
invariant-loop-tree l = l.found ≡ flat_map (family false) (take l.tree-index l.trees)
