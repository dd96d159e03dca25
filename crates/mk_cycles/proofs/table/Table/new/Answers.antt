-- Answers to the goals of `table::Table::new` that the prover leaves.
use Rattle.std.proofs.Common.{◌∙◌}
use Rattle.std.proofs.lemmas.List.{length-set}
use Rattle.mk_cycles.specs.Edges.{edge}
use Rattle.mk_cycles.proofs.OnRows.{set_more, leads_is}
use Rattle.mk_cycles.proofs.table.Table.new.Goals as goal

pub loop-edge-preserved : goal.loop-edge-preserved
loop-edge-preserved c = record {
  area = length-set c.loop-edge.set.items _ _ ∙ c.loop-edge.invariant.area;
  same = set_more c.args.sims c.args.edges.now c.loop-edge.set.items c.loop-edge.edge-index (edge 0 0) c.requires c.loop-edge-test.true c.loop-edge.invariant.area c.loop-edge.invariant.same;
}

pub returns-clause-edges : goal.returns-clause-edges
returns-clause-edges c =
    leads_is c.args.sims c.args.edges.now c.loop-edge.set.items c.loop-edge.edge-index c.requires c.loop-edge-test.false c.loop-edge.invariant.same
