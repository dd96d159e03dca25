-- proofs/replaying/in_order/Answers.antt
use Rattle.std.proofs.Common.{◌≡◌, ◌<◌, true, All, map, sym, ap, ◌∙◌, subst, List, []}
use Rattle.mk_plan.specs.declared.Plan.{Plan}
use Rattle.mk_plan.specs.declared.Entry.{Entry}
use Rattle.mk_plan.specs.Plans.{sim_count}
use Rattle.mk_record_read.specs.declared.saved.Arrival.{Arrival}
use Rattle.mk_record_read.specs.Seen.{came}
use Rattle.mk_sched.specs.Cores.{CoreState}
use Rattle.mk_record_replay.specs.Orders.{IsReplayInOrder}
use Rattle.mk_record_replay.specs.inner.Rounds.{AreWaiting, HasEnded}
use Rattle.mk_record_replay.proofs.Known.{messages_of_record}
use Rattle.mk_record_replay.proofs.RoundsGiven.{between_first}
use Rattle.mk_record_replay.proofs.replaying.in_order.Goals as goal
use Rattle.mk_plan.specs.Messages.{is_message_in_range}

pub split-requires : goal.split-requires
split-requires c = subst (λ n. All (λ (a : Arrival). (a.sim.0 < n) × (is_message_in_range a.message ≡ true)) c.args.saved.arrivals) (sym c.len.ensures) (messages_of_record c.args.saved.plan c.args.saved.arrivals c.requires.known)

pub returns-clause-plan : goal.returns-clause-plan
returns-clause-plan c =
    let P = c.args.saved.plan in
    let A = map came c.args.saved.arrivals in
    let waits : AreWaiting (sim_count P) A [] c.in-Ok.waiting.items = subst (λ n. AreWaiting n A [] c.in-Ok.waiting.items) c.len.ensures c.in-Ok.ensures.waiting in
    let ended : HasEnded A c.args.order c.in-Ok-new.core c.in-Ok-ended.end c.run_in_order-ended.new.core = c.in-Ok-ended.ensures A (between_first P A c.args.order c.in-Ok-new.core c.in-Ok.waiting.items c.in-Ok-new.ensures waits) in
    c.into_parts-plan.ensures.plan ∙ ended.plan ∙ ap (λ (core : CoreState). core.plan) c.in-Ok-new.ensures

pub returns-clause-replay : goal.returns-clause-replay
returns-clause-replay c =
    let P = c.args.saved.plan in
    let A = map came c.args.saved.arrivals in
    let waits : AreWaiting (sim_count P) A [] c.in-Ok.waiting.items = subst (λ n. AreWaiting n A [] c.in-Ok.waiting.items) c.len.ensures c.in-Ok.ensures.waiting in
    let ended : HasEnded A c.args.order c.in-Ok-new.core c.in-Ok-ended.end c.run_in_order-ended.new.core = c.in-Ok-ended.ensures A (between_first P A c.args.order c.in-Ok-new.core c.in-Ok.waiting.items c.in-Ok-new.ensures waits) in
    subst (λ (J : List Entry). IsReplayInOrder P A c.args.order J c.in-Ok-ended.end) (sym c.into_parts-plan.ensures.journal)
    (subst (λ (Q : Plan). IsReplayInOrder Q A c.args.order c.run_in_order-ended.new.core.entries c.in-Ok-ended.end) (ap (λ (core : CoreState). core.plan) c.in-Ok-new.ensures) ended.replay)
