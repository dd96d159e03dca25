-- Answers to the goals of `agenda::Agenda::step` that the prover leaves.
use Rattle.std.proofs.Common.{◌≡◌, ◌<◌, length, sym, ap, ◌∙◌, arith}
use Rattle.mk_base.proofs.Lists.{length_set}
use Rattle.mk_nextstep.specs.Queues.{least, later}
use Rattle.mk_sched_agenda.specs.Mirrors.{AgendaState}
use Rattle.mk_sched_agenda.specs.Dues.{queue_in}
use Rattle.mk_sched_agenda.proofs.Mirroring.{step_mirrors, sound_same}
use Rattle.mk_sched_agenda.proofs.agenda.Agenda.step.Goals as goal

pub invariant_of-self : goal.invariant_of-self
invariant_of-self c =
    let D = c.self.inside.dues in
    let count : length c.begin_turn.new.self.queues.items ≡ length D.queues.items = ap length c.begin_turn.ensures.queues ∙ length_set D.queues.items c.args.sim.0 (later (queue_in D.queues.items c.args.sim.0)) in
    (sound_same c.self.inside.limits c.self.inside.outlets.items D.queues.items c.begin_turn.new.self.queues.items count c.self.invariant.0, c.begin_turn.ensures.tidy, ap length c.begin_turn.ensures.lasts ∙ length_set D.lasts.items c.args.sim.0 (least (queue_in D.queues.items c.args.sim.0)) ∙ c.self.invariant.2 ∙ sym count)

pub returns-clause-mirrors : goal.returns-clause-mirrors
returns-clause-mirrors c = rw (← c.self.view_is) (λ P V x ins advance ready mirrors.
    let D = c.self.inside.dues in
    let low : c.args.sim.0 < length D.queues.items = omega (arith, c.requires, ap (λ (A : AgendaState). length A.queues) c.self.view_is) in
    step_mirrors P V _ D.opened mirrors c.self.invariant.1 c.args.sim.0 low x ready ins advance c.begin_turn.new.self.queues.items c.begin_turn.new.self.bounds c.begin_turn.new.self.lasts.items (omega (arith, low, c.self.invariant.2)) c.begin_turn.ensures.lasts c.begin_turn.ensures.queues c.begin_turn.ensures.bounds (c.begin_turn.ensures.plan P mirrors.plan.bounds))

pub returns-clause-noted : goal.returns-clause-noted
returns-clause-noted c = rw (← c.self.view_is) c.begin_turn.ensures.noted
