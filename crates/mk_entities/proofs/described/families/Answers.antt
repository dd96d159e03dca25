-- Answers to the goals of `described::families` that the prover leaves.
use Rattle.std.proofs.Common.{◌∙◌, ◌++◌, ap, sym, false}
use Rattle.mk_entities.specs.Descriptions.{family}
use Rattle.mk_entities.proofs.Families.{flat_more}
use Rattle.mk_entities.proofs.described.families.Goals as goal

pub loop-tree-preserved : goal.loop-tree-preserved
loop-tree-preserved c = c.in_ok-put_family.ensures ∙ ap (λ l. l ++ family false c.tree-item.result) c.loop-tree.invariant ∙ sym (flat_more (family false) c.args.trees.now c.loop-tree.tree-index c.tree-item.result c.loop-tree-test.true c.tree-item.is)
