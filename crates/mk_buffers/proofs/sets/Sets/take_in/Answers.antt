-- Answers to the goals of `sets::Sets::take_in` that the prover leaves.
use Rattle.std.proofs.Common.{sym, subst}
use Rattle.std.specs.List.Sorted.{IsStrictlySortedBy}
use Rattle.mk_plan_judge.proofs.Putting.{on_ok}
use Rattle.mk_buffers.specs.inner.Slots.{slot_order}
use Rattle.mk_buffers_log.proofs.Places.{either_way}
use Rattle.mk_buffers.proofs.Slots.{taken_at, inserted_at}
use Rattle.mk_buffers.proofs.sets.Sets.take_in.Goals as goal

pub invariant_of-self : goal.invariant_of-self
invariant_of-self c = either_way c.set_at.result c.set_at.ensures.ok c.set_at.ensures.err
    (λ d. (taken_at c.args.mark c.args.new c.args.fresh c.self.inside.slots.items c.args.self.now c.as_slice.result.now c.set_at.new.slots.items c.in-Ok.place c.self.view_is c.self.invariant c.as_slice.ensures.value c.in-Ok.ensures.within c.in-Ok.ensures.found d).0)
    (λ e. subst (IsStrictlySortedBy slot_order) (sym e) c.self.invariant)

pub invariant_of-self-in-Err : goal.invariant_of-self-in-Err
invariant_of-self-in-Err c = either_way c.insert_at.result c.insert_at.ensures.ok c.insert_at.ensures.err
    (λ d. (inserted_at c.args.mark c.args.new c.args.fresh c.self.inside.slots.items c.args.self.now c.as_slice.result.now c.insert_at.new.slots.items c.in-Err.place c.self.view_is c.self.invariant c.as_slice.ensures.value c.in-Err.ensures.within c.in-Err.ensures.found d c.requires).0)
    (λ e. subst (IsStrictlySortedBy slot_order) (sym e) c.self.invariant)

pub returns-in-Ok-clause-ok : goal.returns-in-Ok-clause-ok
returns-in-Ok-clause-ok c = on_ok c.set_at.result (λ d. (taken_at c.args.mark c.args.new c.args.fresh c.self.inside.slots.items c.args.self.now c.as_slice.result.now c.set_at.new.slots.items c.in-Ok.place c.self.view_is c.self.invariant c.as_slice.ensures.value c.in-Ok.ensures.within c.in-Ok.ensures.found d).1) c.set_at.ensures.ok

pub returns-in-Err-clause-ok : goal.returns-in-Err-clause-ok
returns-in-Err-clause-ok c = on_ok c.insert_at.result (λ d. (inserted_at c.args.mark c.args.new c.args.fresh c.self.inside.slots.items c.args.self.now c.as_slice.result.now c.insert_at.new.slots.items c.in-Err.place c.self.view_is c.self.invariant c.as_slice.ensures.value c.in-Err.ensures.within c.in-Err.ensures.found d c.requires).1) c.insert_at.ensures.ok
