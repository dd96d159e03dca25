-- The invariants and measures of the loops of `json::Json::texts_of`.
use Rattle.std.proofs.Common.{◌≡◌, Some, map, take}
use Rattle.mk_base.specs.Lists.{all_there}
use Rattle.mk_base.specs.Trees.{text_in}
use Rattle.mk_base.proofs.json.Json.texts_of.Given as goal

abbrev pub invariant-loop-tree : goal.invariant-loop-tree
invariant-loop-tree l = all_there (map text_in (take l.tree-index l.trees)) ≡ Some l.found
