-- Answers to the goals of `cores::Core::take` that the prover leaves.
use Rattle.std.proofs.Common.{Option, refl, subst, sym}
use Rattle.mk_sched.specs.declared.faults.Ended.{Ended}
use Rattle.mk_sched.specs.inner.Holding.{HasToldRest}
use Rattle.mk_sched.specs.inner.Derived.{IsDerived}
use Rattle.mk_sched.proofs.cores.Core.take.Goals as goal
use Rattle.mk_sched.proofs.Arrived.{arrived_ok, arrived_err}
use Rattle.mk_sched.proofs.GivingUp.{told_after, whole_of}
use Rattle.mk_sched.proofs.Standing.{stands_of}

pub returns-in-Some-Faulty-clause-stands : goal.returns-in-Some-Faulty-clause-stands
returns-in-Some-Faulty-clause-stands c = rw (← c.self.view_is) (stands_of _ _ _ _ c.self.invariant.0)

pub returns-in-Some-OutOfMemory-clause-stands : goal.returns-in-Some-OutOfMemory-clause-stands
returns-in-Some-OutOfMemory-clause-stands c = rw (← c.self.view_is) (stands_of _ _ _ _ c.self.invariant.0)

pub returns-clause-stands : goal.returns-clause-stands
returns-clause-stands c = stands_of _ _ _ _ c.take-answer.ensures.taken.derived

pub give_up-requires-clause-whole : goal.give_up-requires-clause-whole
give_up-requires-clause-whole c = rw c.end_after_arrive-self-inside.ensures (whole_of _ _ _ _ c.take-answer.ensures.taken.derived)

pub invariant_of-self : goal.invariant_of-self
invariant_of-self c =
    let P = c.self.inside.plan in
    let J = c.take-answer.new.journal.entries in
    let L = c.take-answer.new.derived in
    let K = c.self.inside.derived in
    let had = subst (λ (e : Option Ended). IsDerived P c.self.inside.journal.entries K e) c.in-None.is c.self.invariant.0 in
    c.give_up.ensures J (subst (λ (e : Option Ended). IsDerived P J L e) (sym c.end_after_arrive-self-inside.ensures) c.take-answer.ensures.taken.derived)
    (subst (λ (e : Option Ended). HasToldRest P L e) (sym c.end_after_arrive-self-inside.ensures)
    (told_after P had.valid K L (had.current refl).agenda.plan.bounds c.take-answer.ensures.marks (c.self.invariant.2 c.in-None.is) c.take-answer.result c.take-answer.ensures.notes))

pub returns-clause-ok : goal.returns-clause-ok
returns-clause-ok c = arrived_ok c.self.inside.plan c.self.inside.journal.entries c.take-answer.new.journal.entries c.args.sim c.args.message c.take-answer.result c.take-answer.new.derived c.take-answer.ensures.taken c.args.self.now
    c.self.inside.ended c.end_after_arrive-self-inside.result (sym c.self.view_is) c.in-None.is c.end_after_arrive-self-inside.ensures

pub returns-clause-err : goal.returns-clause-err
returns-clause-err c = arrived_err c.self.inside.plan c.self.inside.journal.entries c.take-answer.new.journal.entries c.args.sim c.args.message c.take-answer.result c.take-answer.new.derived c.take-answer.ensures.taken c.args.self.now
    c.self.inside.ended c.end_after_arrive-self-inside.result (sym c.self.view_is) c.in-None.is c.end_after_arrive-self-inside.ensures
