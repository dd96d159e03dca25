-- Answers to the goals of `sims::Sims::new` that the prover leaves.
use Rattle.std.proofs.Common.{ap, ◌∙◌, sym, subst, length, map, arith}
use Rattle.mk_plan.specs.Journals.{empty_view}
use Rattle.mk_sched_open.specs.Sims.{AreSimsOf}
use Rattle.mk_sched_open.proofs.Every.{sim_of, new_sims, take_whole}
use Rattle.mk_sched_open.proofs.sims.Sims.new.Goals as goal

pub returns : goal.returns
returns c = subst (AreSimsOf c.args.plan.now empty_view 0)
    (sym (c.loop-sim.invariant.1 ∙ ap (map sim_of) (take_whole c.args.plan.now.sims c.loop-sim.sim-index (omega (arith, c.loop-sim-test.false, ap length c.as_slice-sim-items.ensures)))))
    (new_sims c.args.plan.now c.requires)
