-- Answers to the goals of `described::eids_of` that the prover leaves.
use Rattle.std.proofs.Common.{◌∙◌, ◌++◌, ap, sym, []}
use Rattle.std.specs.List.{cons_option}
use Rattle.mk_entities.specs.Descriptions.{eid_in}
use Rattle.mk_entities.proofs.Families.{filter_map_more}
use Rattle.mk_entities.proofs.described.eids_of.Goals as goal

pub loop-tree-preserved : goal.loop-tree-preserved
loop-tree-preserved c = c.in_ok-put_eid.ensures ∙ ap (λ l. l ++ cons_option (eid_in c.tree-item.result) []) c.loop-tree.invariant ∙ sym (filter_map_more eid_in c.args.trees.now c.loop-tree.tree-index c.tree-item.result c.loop-tree-test.true c.tree-item.is)
