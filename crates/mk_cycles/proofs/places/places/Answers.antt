-- Answers to the goals of `places::places` that the prover leaves.
use Rattle.mk_cycles.specs.inner.Tables.{leads}
use Rattle.mk_cycles.proofs.Placing.{order_push}
use Rattle.mk_cycles.proofs.places.places.Goals as goal

pub placing-preserved : goal.placing-preserved
placing-preserved c =
    let t = c.args.table.now in
    rw c.in_ok-push.ensures.ok record {
      count = c.placing.invariant.count;
      order = order_push (leads t) t.sims c.placing.placed.order c.in-Some.sim c.placing.invariant.order c.in-Some.ensures;
    }
