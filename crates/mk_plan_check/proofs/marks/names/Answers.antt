-- Answers to the goals of `marks::names` that the prover leaves.
use Rattle.mk_plan_check.proofs.Neighbours.{marked_more}
use Rattle.mk_plan_check.proofs.marks.names.Goals as goal

pub loop-entity-preserved : goal.loop-entity-preserved
loop-entity-preserved c = marked_more c.args.plan.now c.loop-entity.marks.items c.push.new.self.items c.name.result c.loop-entity.entity c.loop-entity.invariant c.name.ensures c.in_ok-push.ensures.items
