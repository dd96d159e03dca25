-- Answers to the goals of `pacing::take` that the prover leaves.
use Rattle.std.proofs.Common.{sym, ap, ◌∙◌, subst, Result, Err}
use Rattle.std.proofs.lemmas.Result.{err_from_is_err_and}
use Rattle.mk_sched.specs.declared.faults.Taken.{Taken}
use Rattle.mk_sched.specs.Cores.{CoreState}
use Rattle.mk_sched.specs.Answers.{ArriveOf, IsAnswered, IsQuiet}
use Rattle.mk_run.specs.declared.outcome.Outcome.{Outcome}
use Rattle.mk_pace_loop.specs.inner.Turns.{TakesAs}
use Rattle.mk_pace_loop.proofs.Answering.{answered_so, can_answer, owed_ends, owed_low, owed_sized, owed_time, quiet_goes}
use Rattle.mk_pace_loop.proofs.Untaken.{fault_ends, untaken_for_memory}
use Rattle.mk_pace_loop.proofs.Gaining.{items_gained, memory_gains, take_gains}
use Rattle.mk_pace_loop.proofs.pacing.take.Goals as goal

pub returns-in_err-take-clause-taken : goal.returns-in_err-take-clause-taken
returns-in_err-take-clause-taken g c =
    let e = err_from_is_err_and c.from_residual.result c.from_residual.ensures.1 in
    subst (λ (r : Result (Unit {0}) Outcome). TakesAs r c.args.sim c.args.message c.args.core.now c.args.crew.now c.args.waiting.now c.take.new.self c.args.crew.now c.args.waiting.now) (sym (e.1 ∙ ap (λ (end : Outcome). Err end) e.2))
    (λ S log h. untaken_for_memory S c.args.core.now log c.args.sim c.args.message c.args.crew.now c.args.waiting.now h c.take.new.self c.in_err-take.ensures.err)

pub answer-requires-clause-there : goal.answer-requires-clause-there
answer-requires-clause-there g c =
    let t = c.requires.heard in
    owed_low t.0 c.args.core.now c.take.new.self t.1 c.args.sim c.args.message c.args.crew.now c.args.waiting.now t.2 c.take.ensures.stands
    (subst (λ (n : Taken). ArriveOf c.args.core.now c.args.sim c.args.message n c.take.new.self) c.in-Send.is c.in_ok-take.ensures.ok)

pub answer-requires-clause-sized : goal.answer-requires-clause-sized
answer-requires-clause-sized g c =
    let t = c.requires.heard in
    owed_sized t.0 c.args.core.now c.take.new.self t.1 c.args.sim c.args.message c.args.crew.now c.args.waiting.now t.2 c.take.ensures.stands
    (subst (λ (n : Taken). ArriveOf c.args.core.now c.args.sim c.args.message n c.take.new.self) c.in-Send.is c.in_ok-take.ensures.ok)

pub answer-requires-clause-last : goal.answer-requires-clause-last
answer-requires-clause-last g c =
    let t = c.requires.heard in
    let a : IsAnswered c.args.core.now c.args.sim c.args.message c.take.new.self = subst (λ (n : Taken). ArriveOf c.args.core.now c.args.sim c.args.message n c.take.new.self) c.in-Send.is c.in_ok-take.ensures.ok in (
      a.item,
      _,
      owed_ends t.0 c.args.core.now c.take.new.self t.1 c.args.sim c.args.message c.args.crew.now c.args.waiting.now t.2 c.take.ensures.stands a,
      owed_time t.0 c.args.core.now c.take.new.self t.1 c.args.sim c.args.message c.args.crew.now c.args.waiting.now t.2 c.take.ensures.stands a,
    )

pub answer-requires-clause-due : goal.answer-requires-clause-due
answer-requires-clause-due g c =
    let t = c.requires.heard in
    λ none. can_answer t.0 c.args.core.now c.take.new.self t.1 c.args.sim c.args.message c.args.crew.now c.args.waiting.now t.2 c.take.ensures.stands
    (subst (λ (n : Taken). ArriveOf c.args.core.now c.args.sim c.args.message n c.take.new.self) c.in-Send.is c.in_ok-take.ensures.ok) none

pub returns-in-Quiet-clause-taken : goal.returns-in-Quiet-clause-taken
returns-in-Quiet-clause-taken g c =
    let q : IsQuiet c.args.core.now c.args.sim c.args.message c.take.new.self =
    subst (λ (n : Taken). ArriveOf c.args.core.now c.args.sim c.args.message n c.take.new.self) c.in-Quiet.is c.in_ok-take.ensures.ok in
    (ap (λ (k : CoreState). k.ended) q.moved, λ S log h. quiet_goes S c.args.core.now c.take.new.self log c.args.sim c.args.message c.args.crew.now c.args.waiting.now h c.take.ensures.stands q)

pub returns-in-Send-clause-taken : goal.returns-in-Send-clause-taken
returns-in-Send-clause-taken g c =
    answered_so c.args.core.now c.take.new.self c.args.sim c.args.message c.args.crew.now c.answer.new.crew c.args.waiting.now c.answer.new.waiting c.answer.result
    (subst (λ (n : Taken). ArriveOf c.args.core.now c.args.sim c.args.message n c.take.new.self) c.in-Send.is c.in_ok-take.ensures.ok) c.take.ensures.stands c.replies_are_kinds.ensures c.answer.ensures.answered

pub returns-in-Fault-clause-taken : goal.returns-in-Fault-clause-taken
returns-in-Fault-clause-taken g c = λ S log h. fault_ends S c.args.core.now log c.args.sim c.args.message c.args.crew.now c.args.waiting.now h c.take.new.self c.in-Fault.fault c.requires.going c.take.ensures.stands
    (subst (λ (n : Taken). ArriveOf c.args.core.now c.args.sim c.args.message n c.take.new.self) c.in-Fault.is c.in_ok-take.ensures.ok)

pub returns-in_err-take-clause-batch : goal.returns-in_err-take-clause-batch
returns-in_err-take-clause-batch g c = items_gained c.args.core.now c.take.new.self (memory_gains c.args.core.now c.take.new.self c.in_err-take.ensures.err)

pub returns-in-Quiet-clause-batch : goal.returns-in-Quiet-clause-batch
returns-in-Quiet-clause-batch g c = take_gains c.args.core.now c.take.new.self c.args.sim c.args.message c.in_ok-take.field-0 c.in_ok-take.ensures.ok

pub returns-in-Send-clause-batch : goal.returns-in-Send-clause-batch
returns-in-Send-clause-batch g c = take_gains c.args.core.now c.take.new.self c.args.sim c.args.message c.in_ok-take.field-0 c.in_ok-take.ensures.ok

pub returns-in-Fault-clause-batch : goal.returns-in-Fault-clause-batch
returns-in-Fault-clause-batch g c = take_gains c.args.core.now c.take.new.self c.args.sim c.args.message c.in_ok-take.field-0 c.in_ok-take.ensures.ok
