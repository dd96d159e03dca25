-- Answers to the goals of `dues::Dues::begin_turn` that the prover leaves.
use Rattle.std.proofs.Common.{ap, sym, ◌∙◌, Bool, List, Option, slice_set, subst, true}
use Rattle.mk_base.specs.declared.tier.Tier.{Tier}
use Rattle.mk_nextstep.specs.declared.queue.Due.{Due}
use Rattle.mk_nextstep.specs.Queues.{later, least}
use Rattle.mk_tiers.specs.Seen.{Seen}
use Rattle.mk_sched_agenda.specs.Dues.{queue_in}
use Rattle.mk_sched_agenda.specs.inner.Dues.{IsTidy, with_start}
use Rattle.mk_sched_agenda.proofs.Tidying.{queue_at, begun_tidy}
use Rattle.mk_sched_agenda.proofs.dues.Dues.begin_turn.Goals as goal

pub returns-clause-queues : goal.returns-clause-queues
returns-clause-queues c =
    let Q = c.args.self.now.queues.items in
    ap (slice_set Q c.args.sim.0) (c.take-at.ensures.rest ∙ ap later (sym (queue_at Q c.args.sim.0 c.index_mut.result.now c.requires.sim c.index_mut.ensures.value)))

pub returns-clause-bounds : goal.returns-clause-bounds
returns-clause-bounds c =
    let Q = c.args.self.now.queues.items in
    c.set_own_noting.ensures.changed ∙ ap (λ (o : Option Tier). with_start c.args.self.now.bounds c.args.sim.0 o true) (c.take-at.ensures.first ∙ ap least (sym (queue_at Q c.args.sim.0 c.index_mut.result.now c.requires.sim c.index_mut.ensures.value)))

pub returns-clause-tidy : goal.returns-clause-tidy
returns-clause-tidy c =
    let Q = c.args.self.now.queues.items in
    let O = c.args.self.now.opened in
    subst (λ (U : List Bool). IsTidy (slice_set Q c.args.sim.0 c.take-at.new.self) U c.set_own_noting.new.self) (sym c.open.ensures) (
    subst (λ (R : List (List Due)). IsTidy R (slice_set O c.args.sim.0 true) c.set_own_noting.new.self) (sym (returns-clause-queues c))
    (subst (λ (B : Seen). IsTidy (slice_set Q c.args.sim.0 (later (queue_in Q c.args.sim.0))) (slice_set O c.args.sim.0 true) B) (sym (returns-clause-bounds c))
    (begun_tidy Q O c.args.self.now.bounds c.requires.tidy c.args.sim.0 c.requires.sim)))
