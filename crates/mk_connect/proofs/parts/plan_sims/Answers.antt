-- Answers to the goals of `parts::plan_sims` that the prover leaves.
use Rattle.mk_connect.specs.Made.{plan_sim}
use Rattle.mk_connect.proofs.ByPlaces.{one_more}
use Rattle.mk_connect.proofs.parts.plan_sims.Goals as goal

pub loop-s-preserved : goal.loop-s-preserved
loop-s-preserved c = one_more (plan_sim c.args.metas.now c.args.ranks.now c.args.first_ids.now) c.as_slice-part-items.result.now c.loop-s.s c.part-item.result c.loop-s-test.true c.part-item.is c.loop-s.sims c.push.new.self c.in_ok-plan_sim.field-0
    c.loop-s.invariant c.in_ok-plan_sim.ensures c.in_ok-push.ensures.ok
