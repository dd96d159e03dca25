-- Answers to the goals of `all_wants::takings_of` that the prover leaves.
use Rattle.mk_plan_judge.proofs.Takings.{takings_all, takings_more, takings_sorted}
use Rattle.mk_plan_judge.proofs.all_wants.takings_of.Goals as goal

pub loop-conn-preserved : goal.loop-conn-preserved
loop-conn-preserved c = record {
  items = c.as_slice-conn-items.ensures;
  so_far = takings_more c.args.plan.now c.as_slice-conn-items.result.now c.loop-conn.conn-index c.conn-item.result c.taking_of.result c.loop-conn.takings.items c.push.new.self.items c.loop-conn.invariant.so_far c.loop-conn-test.true c.conn-item.is c.taking_of.ensures c.in_ok-push.ensures.items;
}

pub returns-clause-all : goal.returns-clause-all
returns-clause-all c = takings_sorted c.args.plan.now c.args.plan.now.conns c.loop-conn.takings.items c.sort.new.takings.items (takings_all c.args.plan.now c.as_slice-conn-items.result.now c.loop-conn.conn-index c.loop-conn.takings.items c.loop-conn.invariant.items c.loop-conn-test.false c.loop-conn.invariant.so_far) c.in_ok-sort.ensures.0
