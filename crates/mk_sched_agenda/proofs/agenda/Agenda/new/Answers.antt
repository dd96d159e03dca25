-- Answers to the goals of `agenda::Agenda::new` that the prover leaves.
use Rattle.std.proofs.Common.{sym, ◌∙◌}
use Rattle.mk_sched_agenda.proofs.Begins.{begun_is_tidy, begun_count}
use Rattle.mk_sched_agenda.proofs.Mirroring.{new_sound, new_mirrors}
use Rattle.mk_sched_agenda.proofs.agenda.Agenda.new.Goals as goal

pub invariant_of-result : goal.invariant_of-result
invariant_of-result c =
    let P = c.args.plan.now in
    let D = c.in_ok-dues.dues in (
      new_sound P c.requires c.in_ok-outlets.outlets.items D.queues.items D.opened D.bounds c.limits_of-limits.result c.limits_of-limits.ensures c.in_ok-outlets.ensures c.in_ok-dues.ensures.begun,
      begun_is_tidy P c.requires D.queues.items D.opened D.bounds c.in_ok-dues.ensures.begun,
      c.in_ok-dues.ensures.lasts.count ∙ sym (begun_count P c.requires D.queues.items D.opened D.bounds c.in_ok-dues.ensures.begun),
    )

pub returns : goal.returns
returns c =
    let P = c.args.plan.now in
    let D = c.in_ok-dues.dues in
    new_mirrors P c.requires c.in_ok-outlets.outlets.items D.queues.items D.opened D.bounds c.limits_of-limits.result c.limits_of-limits.ensures c.in_ok-outlets.ensures c.in_ok-dues.ensures.begun D.lasts.items c.in_ok-dues.ensures.lasts
