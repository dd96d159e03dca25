-- The invariants and measures of the loops of `described::eids_of`.
use Rattle.std.proofs.Common.{◌≡◌, filter_map, take}
use Rattle.mk_entities.specs.Descriptions.{eid_in}
use Rattle.mk_entities.proofs.described.eids_of.Given as goal

abbrev pub invariant-loop-tree : goal.invariant-loop-tree
invariant-loop-tree l = l.found ≡ filter_map eid_in (take l.tree-index l.trees)
