-- Answers to the goals of `dues::Dues::trigger` that the prover leaves.
use Rattle.std.proofs.Common.{ap, sym, ◌∙◌, List, Bool, Some, slice_set, subst, true, false, not, ◌&&◌, if◌then◌else◌}
use Rattle.mk_nextstep.specs.declared.queue.Due.{Due}
use Rattle.mk_nextstep.specs.Queues.{added}
use Rattle.mk_tiers.specs.Seen.{Seen}
use Rattle.mk_sched_agenda.specs.Dues.{queue_in}
use Rattle.mk_sched_agenda.specs.inner.Dues.{IsTidy, is_open, is_first, with_start, with_trigger}
use Rattle.mk_sched_agenda.proofs.Tidying.{queue_at, triggered_tidy}
use Rattle.mk_sched_agenda.proofs.dues.Dues.trigger.Goals as goal

pub returns-clause-queues : goal.returns-clause-queues
returns-clause-queues c =
    let Q = c.args.self.now.queues.items in
    c.start_at.ensures.queues ∙ ap (slice_set Q c.args.to.0) (c.in_ok-add_trigger.ensures.ok ∙ ap (added true c.args.at) (sym (queue_at Q c.args.to.0 c.index_mut-queue.result.now c.requires.sim c.index_mut-queue.ensures.value)))

pub returns-clause-bounds : goal.returns-clause-bounds
returns-clause-bounds c =
    let Q = c.args.self.now.queues.items in
    let B = c.args.self.now.bounds in
    let O = c.args.self.now.opened in
    c.start_at.ensures.bounds ∙ ap (λ (b : Bool). if b && not (is_open O c.args.to.0) then with_start B c.args.to.0 (Some c.args.at) false else B)
    (c.is_first-is_first.ensures ∙ ap (is_first c.args.at) (sym (queue_at Q c.args.to.0 c.index_mut-queue.result.now c.requires.sim c.index_mut-queue.ensures.value)))

pub returns-clause-tidy : goal.returns-clause-tidy
returns-clause-tidy c =
    let Q = c.args.self.now.queues.items in
    let O = c.args.self.now.opened in
    subst (λ (R : List (List Due)). IsTidy R c.start_at.new.self.opened c.start_at.new.self.bounds) (sym (returns-clause-queues c))
    (subst (λ (B : Seen). IsTidy (slice_set Q c.args.to.0 (added true c.args.at (queue_in Q c.args.to.0))) c.start_at.new.self.opened B) (sym (returns-clause-bounds c))
    (subst (λ (U : List Bool). IsTidy (slice_set Q c.args.to.0 (added true c.args.at (queue_in Q c.args.to.0))) U (with_trigger c.args.self.now.bounds O (queue_in Q c.args.to.0) c.args.to.0 c.args.at)) (sym c.start_at.ensures.opened)
    (triggered_tidy Q O c.args.self.now.bounds c.requires.tidy c.args.to.0 c.requires.sim c.args.at c.requires.own)))
