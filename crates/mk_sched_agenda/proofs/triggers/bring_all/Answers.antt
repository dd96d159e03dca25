-- Answers to the goals of `triggers::bring_all` that the prover leaves.
use Rattle.std.proofs.Common.{false, take, ◌∙◌}
use Rattle.mk_plan.specs.Deliveries.{triggering_from}
use Rattle.mk_tiers.proofs.Noting.{noted_both}
use Rattle.mk_sched_agenda.proofs.Ending.{come_next, come_all}
use Rattle.mk_sched_agenda.proofs.triggers.bring_all.Goals as goal

pub loop-place-preserved : goal.loop-place-preserved
loop-place-preserved c = (
  c.bring.ensures.tidy,
  c.bring.ensures.count ∙ c.loop-place.invariant.1,
  c.bring.ensures.lasts ∙ c.loop-place.invariant.2,
  λ P V s f ending h. come_next P V s f false c.args.limits.now c.args.outlets.now c.args.given.now c.args.made_at ending c.loop-place.place _ _ c.loop-place-test.true
      c.loop-place.dues.queues.items c.bring.new.dues.queues.items c.loop-place.dues.bounds c.bring.new.dues.bounds (c.loop-place.invariant.3 P V s f ending h)
      (c.in_ok-bring.ensures.come P V s f (take c.loop-place.place (triggering_from P s))),
  noted_both c.args.dues.now.bounds c.loop-place.dues.bounds c.bring.new.dues.bounds c.args.noted.now c.loop-place.noted c.bring.new.noted c.loop-place.invariant.4 c.in_ok-bring.ensures.noted,
)

pub returns-clause-come : goal.returns-clause-come
returns-clause-come c = λ P V s f ending h. come_all P V s f false c.args.limits.now c.args.outlets.now c.args.given.now c.args.made_at ending c.loop-place.place c.loop-place-test.false
    c.loop-place.dues.queues.items c.loop-place.dues.bounds (c.loop-place.invariant.3 P V s f ending h)
