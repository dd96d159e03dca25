-- proofs/ordering/give_next/Answers.antt
use Rattle.std.proofs.Common.{◌<◌, List, subst, sym, ◌∙◌}
use Rattle.mk_base.proofs.Lists.{below_get}
use Rattle.mk_plan.specs.Plans.{sim_count}
use Rattle.mk_plan.specs.declared.Message.{Message}
use Rattle.mk_record_replay.specs.inner.Rounds.{AreFit, GivenNext}
use Rattle.mk_record_replay.proofs.Waiting.{fit_given, message_fits}
use Rattle.mk_record_replay.proofs.RoundsGiven.{given_next, moved_next, nothing_popped, picked_there, picked_next, number_next, all_given}
use Rattle.mk_record_replay.proofs.ordering.give_next.Goals as goal

pub pop_message-requires : goal.pop_message-requires
pop_message-requires c = (picked_there c.args.core.now c.as_slice.result.now c.args.waiting.now.items c.args.number.now c.as_slice.ensures.value c.in_ok-next_sim.field-0 c.in-Some.sim c.in_ok-next_sim.ensures.chosen c.in-Some.is).0

pub give_message-requires-clause-there : goal.give_message-requires-clause-there
give_message-requires-clause-there c = subst (λ n. c.in-Some.sim < n) c.requires.going.1.all
    (picked_there c.args.core.now c.as_slice.result.now c.args.waiting.now.items c.args.number.now c.as_slice.ensures.value c.in_ok-next_sim.field-0 c.in-Some.sim c.in_ok-next_sim.ensures.chosen c.in-Some.is).0

pub give_message-requires-clause-form : goal.give_message-requires-clause-form
give_message-requires-clause-form c =
    let low = (picked_there c.args.core.now c.as_slice.result.now c.args.waiting.now.items c.args.number.now c.as_slice.ensures.value c.in_ok-next_sim.field-0 c.in-Some.sim c.in_ok-next_sim.ensures.chosen c.in-Some.is).0 in
    let t = below_get c.args.waiting.now.items c.in-Some.sim low in
    let p = c.in-Some-pop_message.ensures t.0 t.1 in
    message_fits (sim_count c.args.core.now.plan) c.args.waiting.now.items c.in-Some.sim t.0 p.0 c.in-Some-pop_message.message t.1 p.1 c.requires.going.1

pub returns-in-None-clause-given : goal.returns-in-None-clause-given
returns-in-None-clause-given c = λ A N b.
    all_given c.args.core.now c.as_slice.result.now c.args.waiting.now.items c.args.number.now c.as_slice.ensures.value A N b c.in_ok-next_sim.field-0 c.in_ok-next_sim.ensures.chosen c.in-None.is

pub unreachable-requires : goal.unreachable-requires
unreachable-requires c =
    let low = picked_there c.args.core.now c.as_slice.result.now c.args.waiting.now.items c.args.number.now c.as_slice.ensures.value c.in_ok-next_sim.field-0 c.in-Some.sim c.in_ok-next_sim.ensures.chosen c.in-Some.is in
    let t = below_get c.args.waiting.now.items c.in-Some.sim low.0 in
    nothing_popped c.args.waiting.now.items c.in-Some.sim t.0 t.1 low.1 (c.in-None-pop_message.ensures t.0 t.1)

pub returns-in_ok-given-in-Some-pop_message-clause-given : goal.returns-in_ok-given-in-Some-pop_message-clause-given
returns-in_ok-given-in-Some-pop_message-clause-given c = λ A N b.
    let low = picked_there c.args.core.now c.as_slice.result.now c.args.waiting.now.items c.args.number.now c.as_slice.ensures.value c.in_ok-next_sim.field-0 c.in-Some.sim c.in_ok-next_sim.ensures.chosen c.in-Some.is in
    let t = below_get c.args.waiting.now.items c.in-Some.sim low.0 in
    let p = c.in-Some-pop_message.ensures t.0 t.1 in
    let next = sym c.in-Some.is ∙ picked_next c.args.core.now c.as_slice.result.now c.args.waiting.now.items c.args.number.now c.as_slice.ensures.value A N b c.in_ok-next_sim.field-0 c.in_ok-next_sim.ensures.chosen in
    let drawn = number_next c.args.core.now c.as_slice.result.now c.args.waiting.now.items c.args.number.now c.as_slice.ensures.value A N b c.next_sim.new.number c.in_ok-next_sim.ensures.drawn in
    subst (λ (w : List (List Message)). GivenNext A N c.args.core.now c.in_ok-given-in-Some-pop_message.given c.give_message.new.core w c.next_sim.new.number) (sym p.2)
    (given_next A N c.args.core.now c.args.waiting.now.items c.args.number.now b c.in-Some.sim c.in-Some-pop_message.message t.0 p.0 t.1 p.1 next c.in_ok-given-in-Some-pop_message.given c.give_message.new.core c.next_sim.new.number drawn c.in_ok-given-in-Some-pop_message.ensures)

pub returns-in_ok-given-in-Some-pop_message-clause-moved : goal.returns-in_ok-given-in-Some-pop_message-clause-moved
returns-in_ok-given-in-Some-pop_message-clause-moved c = λ going.
    let low = picked_there c.args.core.now c.as_slice.result.now c.args.waiting.now.items c.args.number.now c.as_slice.ensures.value c.in_ok-next_sim.field-0 c.in-Some.sim c.in_ok-next_sim.ensures.chosen c.in-Some.is in
    let t = below_get c.args.waiting.now.items c.in-Some.sim low.0 in
    let p = c.in-Some-pop_message.ensures t.0 t.1 in
    let fit = fit_given (sim_count c.args.core.now.plan) c.args.waiting.now.items c.in-Some.sim t.0 p.0 c.in-Some-pop_message.message t.1 p.1 c.requires.going.1 in
    moved_next c.args.core.now c.give_message.new.core (record { sim = c.in-Some.sim; message = c.in-Some-pop_message.message }) c.pop_message.new.waiting.items c.in_ok-given-in-Some-pop_message.given
    (subst (AreFit (sim_count c.args.core.now.plan)) (sym p.2) fit) c.in_ok-given-in-Some-pop_message.ensures going
