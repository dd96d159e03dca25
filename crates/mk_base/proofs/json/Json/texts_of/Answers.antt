-- Answers to the goals of `json::Json::texts_of` that the prover leaves.
use Rattle.std.proofs.Common.{arith}
use Rattle.mk_base.specs.Trees.{text_in}
use Rattle.mk_base.proofs.Gathering.{is_missing, more_there}
use Rattle.mk_base.proofs.json.Json.texts_of.Goals as goal

pub returns-in_default : goal.returns-in_default
returns-in_default c = let missing = is_missing c.args.trees.now c.loop-tree.tree-index c.tree-item.result c.loop-tree-test.true c.tree-item.is text_in in grind (arith, missing)

pub loop-tree-preserved : goal.loop-tree-preserved
loop-tree-preserved c = let more = more_there c.args.trees.now c.loop-tree.tree-index c.tree-item.result c.loop-tree-test.true c.tree-item.is text_in c.in-Some.text.now c.loop-tree.found in grind (arith, more)
