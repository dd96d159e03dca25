-- Answers to the goals of `agenda::Agenda::max_advance` that the prover leaves.
use Rattle.std.proofs.Common.{◌≡◌, ◌<◌, Option, length, sym, ap, ◌∙◌, subst, arith, w64, to_z, of_z}
use Rattle.std.proofs.lemmas.Int.{ints}
use Rattle.mk_base.specs.declared.tier.Tier.{Tier}
use Rattle.mk_nextstep.specs.Queues.{least_trigger_after}
use Rattle.mk_plan.specs.Journals.{view}
use Rattle.mk_plan.specs.Advance.{IsAdvance}
use Rattle.mk_order.proofs.Tables.{sooner, advance_by}
use Rattle.mk_sched_agenda.specs.Mirrors.{AgendaState}
use Rattle.mk_sched_agenda.specs.Dues.{queue_in}
use Rattle.mk_sched_agenda.proofs.Tidying.{queue_at}
use Rattle.mk_sched_agenda.proofs.Mirroring.{advance_of}
use Rattle.mk_sched_agenda.proofs.agenda.Agenda.max_advance.Goals as goal

pub returns-clause-advance : goal.returns-clause-advance
returns-clause-advance c = rw (← c.self.view_is) (λ P J valid orderly fine ready mirrors.
    let D = c.self.inside.dues in
    let low : c.args.sim.0 < length D.queues.items = omega (arith, c.requires, ap (λ (A : AgendaState). length A.queues) c.self.view_is) in
    let trigger : c.least_trigger_after-trigger.result ≡ least_trigger_after c.args.at (queue_in D.queues.items c.args.sim.0) = c.least_trigger_after-trigger.ensures ∙ ap (least_trigger_after c.args.at) (sym (queue_at D.queues.items c.args.sim.0 c.index.result.now low c.index.ensures)) in
    let is : to_z w64 (of_z w64 c.advance_by.result) ≡ advance_by c.self.inside.limits.until c.args.at.time (sooner (least_trigger_after c.args.at (queue_in D.queues.items c.args.sim.0)) c.outer-outer.result) =
    omega (arith, ints) ∙ c.advance_by.ensures ∙ ap (advance_by c.self.inside.limits.until c.args.at.time) (c.sooner.ensures ∙ ap (λ (o : Option Tier). sooner o c.outer-outer.result) trigger) in
    subst (IsAdvance P (view P J) c.args.sim.0 c.args.at) (sym is)
    (advance_of P J _ D.opened valid orderly fine c.args.sim.0 c.args.at ready mirrors c.self.invariant.1 low c.outer-outer.result (c.outer-outer.ensures.end P valid mirrors.plan.bounds)))
