-- Answers to the goals of `dues::Dues::close_turn` that the prover leaves.
use Rattle.std.proofs.Common.{◌≡◌, ap, sym, ◌∙◌, Bool, List, Option, slice_set, subst, false}
use Rattle.mk_base.specs.declared.tier.Tier.{Tier}
use Rattle.mk_nextstep.specs.declared.queue.Due.{Due}
use Rattle.mk_nextstep.specs.Queues.{least}
use Rattle.mk_tiers.specs.Seen.{Seen}
use Rattle.mk_sched_agenda.specs.Dues.{queue_in}
use Rattle.mk_sched_agenda.specs.inner.Dues.{IsTidy, with_next, with_start}
use Rattle.mk_sched_agenda.proofs.Tidying.{queue_at, queue_here, closed_tidy}
use Rattle.mk_sched_agenda.proofs.dues.Dues.close_turn.Goals as goal

pub returns-clause-queues : goal.returns-clause-queues
returns-clause-queues c =
    let Q = c.args.self.now.queues.items in
    ap (slice_set Q c.args.sim.0) (c.in_ok-add_next.ensures.ok ∙ ap (λ (q : List Due). with_next c.args.limits.now q c.args.next) (sym (queue_at Q c.args.sim.0 c.index_mut-queue.result.now c.requires.sim c.index_mut-queue.ensures.value)))

pub returns-clause-bounds : goal.returns-clause-bounds
returns-clause-bounds c =
    let Q = c.args.self.now.queues.items in
    c.set_own_noting.ensures.changed ∙ ap (λ (o : Option Tier). with_start c.args.self.now.bounds c.args.sim.0 o false) (c.least-first.ensures ∙ ap least (sym (queue_here Q c.args.sim.0 c.add_next.new.queue c.requires.sim)))

pub returns-clause-tidy : goal.returns-clause-tidy
returns-clause-tidy c =
    let Q = c.args.self.now.queues.items in
    let O = c.args.self.now.opened in
    let q : List Due = with_next c.args.limits.now (queue_in Q c.args.sim.0) c.args.next in
    let is : c.set_own_noting.new.self ≡ with_start c.args.self.now.bounds c.args.sim.0 (least q) false =
    returns-clause-bounds c ∙ ap (λ (R : List (List Due)). with_start c.args.self.now.bounds c.args.sim.0 (least (queue_in R c.args.sim.0)) false) (returns-clause-queues c)
    ∙ ap (λ (q : List Due). with_start c.args.self.now.bounds c.args.sim.0 (least q) false) (queue_here Q c.args.sim.0 q c.requires.sim) in
    subst (λ (U : List Bool). IsTidy (slice_set Q c.args.sim.0 c.add_next.new.queue) U c.set_own_noting.new.self) (sym c.close.ensures) (
    subst (λ (R : List (List Due)). IsTidy R (slice_set O c.args.sim.0 false) c.set_own_noting.new.self) (sym (returns-clause-queues c))
    (subst (λ (B : Seen). IsTidy (slice_set Q c.args.sim.0 q) (slice_set O c.args.sim.0 false) B) (sym is)
    (closed_tidy Q O c.args.self.now.bounds c.requires.tidy c.args.sim.0 c.requires.sim c.args.limits.now c.args.next c.requires.until c.requires.loops c.requires.next)))
