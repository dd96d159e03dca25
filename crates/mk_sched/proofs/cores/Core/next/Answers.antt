-- Answers to the goals of `cores::Core::next` that the prover leaves.
use Rattle.std.proofs.Common.{Option, subst, sym}
use Rattle.mk_sched.specs.declared.faults.Ended.{Ended}
use Rattle.mk_sched.specs.inner.Holding.{HasGivenUp, HasToldRest}
use Rattle.mk_sched.specs.inner.Derived.{IsDerived}
use Rattle.mk_sched.proofs.Asked.{advanced_ok, advanced_err}
use Rattle.mk_sched.proofs.cores.Core.next.Goals as goal
use Rattle.mk_sched.proofs.Standing.{stands_of}

pub returns-in-Some-Faulty-clause-stands : goal.returns-in-Some-Faulty-clause-stands
returns-in-Some-Faulty-clause-stands c = rw (← c.self.view_is) (stands_of _ _ _ _ c.self.invariant.0)

pub returns-in-Some-OutOfMemory-clause-stands : goal.returns-in-Some-OutOfMemory-clause-stands
returns-in-Some-OutOfMemory-clause-stands c = rw (← c.self.view_is) (stands_of _ _ _ _ c.self.invariant.0)

pub returns-clause-stands : goal.returns-clause-stands
returns-clause-stands c = stands_of _ _ _ _ c.advance-answer.ensures.advanced.derived

pub advance-answer-requires-clause-given_up : goal.advance-answer-requires-clause-given_up
advance-answer-requires-clause-given_up c = λ going. c.self.invariant.1 c.in-None.is

pub returns-clause-ok : goal.returns-clause-ok
returns-clause-ok c = advanced_ok c.self.inside.plan c.self.inside.journal.entries c.advance-answer.new.journal.entries c.advance-answer.result c.advance-answer.new.derived c.advance-answer.ensures.advanced c.args.self.now
    c.self.inside.ended c.end_after_next-self-inside.result (sym c.self.view_is) c.in-None.is c.end_after_next-self-inside.ensures

pub returns-clause-err : goal.returns-clause-err
returns-clause-err c = advanced_err c.self.inside.plan c.self.inside.journal.entries c.advance-answer.new.journal.entries c.advance-answer.result c.advance-answer.new.derived c.advance-answer.ensures.advanced c.args.self.now
    c.self.inside.ended c.end_after_next-self-inside.result (sym c.self.view_is) c.in-None.is c.end_after_next-self-inside.ensures

pub invariant_of-self : goal.invariant_of-self
invariant_of-self c =
    let P = c.self.inside.plan in
    let M = c.advance-answer.new.journal.entries in
    let L = c.advance-answer.new.derived in
    let done = c.advance-answer.ensures in
    subst (λ (e : Option Ended). IsDerived P M L e × HasGivenUp P M L e × HasToldRest P L e) (sym c.end_after_next-self-inside.ensures) (done.advanced.derived, done.advanced.given_up, done.told)
