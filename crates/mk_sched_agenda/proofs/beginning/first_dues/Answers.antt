-- Answers to the goals of `beginning::first_dues` that the prover leaves.
use Rattle.std.proofs.Common.{◌≡◌, ◌<◌, ℕ, List, ◌++◌, ◌∷◌, [], length, get_or, subst, ap, ◌∙◌, arith, false}
use Rattle.mk_plan.specs.declared.PlanSim.{PlanSim}
use Rattle.mk_nextstep.specs.Queues.{least}
use Rattle.mk_sched_agenda.specs.declared.limits.Limits.{Limits}
use Rattle.mk_sched_agenda.specs.inner.Dues.{first_queue, with_start}
use Rattle.mk_sched_agenda.specs.inner.Begun.{AreBegun, AreNone}
use Rattle.mk_sched_agenda.proofs.Begins.{begun_more, lasts_more}
use Rattle.mk_sched_agenda.proofs.beginning.first_dues.Goals as goal
use Rattle.mk_base.proofs.Items.{get_at_place}

pub loop-number-preserved : goal.loop-number-preserved
loop-number-preserved c =
    let P = c.args.plan.now in
    let k = c.loop-number.number in
    let low : k < length P.sims = omega (arith, c.loop-number-test.true, ap length c.as_slice-sim-items.ensures) in
    let I = c.loop-number.invariant in
    let D = c.loop-number.dues in
    let sim = c.sim-item.result in
    let E = c.in_ok-begin.ensures in (
      c.as_slice-sim-items.ensures,
      begun_more P k sim (get_at_place P.sims k sim low (c.sim-item.is ∙ ap (λ (l : List PlanSim). get_or l k sim) c.as_slice-sim-items.ensures)) low D.queues.items D.opened D.bounds I.1
          c.begin.new.dues.queues.items c.begin.new.dues.opened c.begin.new.dues.bounds (E.queues ∙ ap (λ (L : Limits). D.queues.items ++ first_queue L sim ∷ []) c.requires.limits) E.opened
          (E.bounds ∙ ap (λ (L : Limits). with_start D.bounds k (least (first_queue L sim)) false) c.requires.limits) (c.begin.ensures.plan P I.1.plan),
      lasts_more D.lasts.items c.begin.new.dues.lasts.items k E.lasts I.2,
    )

pub returns-clause-begun : goal.returns-clause-begun
returns-clause-begun c =
    let count : length c.as_slice-sim-items.result.now ≡ length c.args.plan.now.sims = ap length c.as_slice-sim-items.ensures in
    let all : c.loop-number.number ≡ length c.args.plan.now.sims = omega arith in
    subst (λ (k : ℕ). AreBegun c.args.plan.now k c.loop-number.dues.queues.items c.loop-number.dues.opened c.loop-number.dues.bounds) all c.loop-number.invariant.1

pub returns-clause-lasts : goal.returns-clause-lasts
returns-clause-lasts c =
    let count : length c.as_slice-sim-items.result.now ≡ length c.args.plan.now.sims = ap length c.as_slice-sim-items.ensures in
    let all : c.loop-number.number ≡ length c.args.plan.now.sims = omega arith in
    subst (λ (k : ℕ). AreNone k c.loop-number.dues.lasts.items) all c.loop-number.invariant.2
