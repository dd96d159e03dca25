-- Answers to the goals of `driving::take` that the prover leaves.
use Rattle.std.proofs.Common.{sym, ap, ◌∙◌, subst, Result, Err}
use Rattle.std.proofs.lemmas.Result.{err_from_is_err_and}
use Rattle.mk_sched.specs.declared.faults.Taken.{Taken}
use Rattle.mk_sched.specs.Cores.{CoreState}
use Rattle.mk_sched.specs.Answers.{ArriveOf, IsQuiet}
use Rattle.mk_run_crew.specs.Seen.{crew_of}
use Rattle.mk_run.specs.declared.outcome.Outcome.{Outcome}
use Rattle.mk_run.specs.inner.Turns.{IsLonger, TakesAs}
use Rattle.mk_run.proofs.Endings.{fault_ends, untaken_for_memory}
use Rattle.mk_run.proofs.Growing.{answered_more, quiet_more, unsent_long, whatever}
use Rattle.mk_run.proofs.Hearing.{quiet_goes}
use Rattle.mk_run.proofs.Turning.{can_answer, answered_so}
use Rattle.mk_run.proofs.driving.take.Goals as goal

pub returns-in_err-take-clause-taken : goal.returns-in_err-take-clause-taken
returns-in_err-take-clause-taken g c =
    let e = err_from_is_err_and c.from_residual.result c.from_residual.ensures.1 in
    subst (λ (r : Result (Unit {0}) Outcome). TakesAs r c.args.sim c.args.message c.args.core.now c.args.crew.now c.take.new.self c.args.crew.now) (sym (e.1 ∙ ap (λ (end : Outcome). Err end) e.2))
    (λ T log h. untaken_for_memory T ⊥ c.args.core.now c.take.new.self log c.args.sim c.args.message (crew_of c.args.crew.now) c.args.crew.now.sims h c.in_err-take.ensures.err)

pub send_last-requires-clause-due : goal.send_last-requires-clause-due
send_last-requires-clause-due g c =
    let t = c.requires.heard in
    can_answer t.0 c.args.core.now c.take.new.self t.1 c.args.sim c.args.message c.args.crew.now t.2
    (subst (λ (n : Taken). ArriveOf c.args.core.now c.args.sim c.args.message n c.take.new.self) c.in-Send.is c.in_ok-take.ensures.ok) c.take.ensures.stands

pub returns-in-Quiet-clause-taken : goal.returns-in-Quiet-clause-taken
returns-in-Quiet-clause-taken g c =
    let q : IsQuiet c.args.core.now c.args.sim c.args.message c.take.new.self =
    subst (λ (n : Taken). ArriveOf c.args.core.now c.args.sim c.args.message n c.take.new.self) c.in-Quiet.is c.in_ok-take.ensures.ok in
    (ap (λ (k : CoreState). k.ended) q.moved, λ T log h. quiet_goes T c.args.core.now c.take.new.self log c.args.sim c.args.message (crew_of c.args.crew.now) c.args.crew.now.sims h q c.take.ensures.stands)

pub returns-in-Send-clause-taken : goal.returns-in-Send-clause-taken
returns-in-Send-clause-taken g c =
    answered_so c.args.core.now c.take.new.self c.args.sim c.args.message c.args.crew.now c.send_last.new.crew c.send_last.result
    (subst (λ (n : Taken). ArriveOf c.args.core.now c.args.sim c.args.message n c.take.new.self) c.in-Send.is c.in_ok-take.ensures.ok) c.take.ensures.stands c.replies_are_kinds.ensures c.send_last.ensures.sent
    c.send_last.ensures.unsent c.send_last.ensures.err

pub returns-in-Fault-clause-taken : goal.returns-in-Fault-clause-taken
returns-in-Fault-clause-taken g c = λ T log h. fault_ends T ⊥ c.args.core.now c.take.new.self log c.args.sim c.args.message (crew_of c.args.crew.now) c.args.crew.now.sims h c.in-Fault.fault c.requires.going c.take.ensures.stands
    (subst (λ (n : Taken). ArriveOf c.args.core.now c.args.sim c.args.message n c.take.new.self) c.in-Fault.is c.in_ok-take.ensures.ok)

pub returns-in-Quiet-clause-grown : goal.returns-in-Quiet-clause-grown
returns-in-Quiet-clause-grown g c =
    quiet_more c.args.core.now c.take.new.self c.args.sim c.args.message
    (subst (λ (n : Taken). ArriveOf c.args.core.now c.args.sim c.args.message n c.take.new.self) c.in-Quiet.is c.in_ok-take.ensures.ok)

pub returns-in-Send-clause-grown : goal.returns-in-Send-clause-grown
returns-in-Send-clause-grown g c =
    whatever c.send_last.result (IsLonger c.args.core.now c.take.new.self)
    (answered_more c.args.core.now c.take.new.self c.args.sim c.args.message (subst (λ (n : Taken). ArriveOf c.args.core.now c.args.sim c.args.message n c.take.new.self) c.in-Send.is c.in_ok-take.ensures.ok))

pub returns-in-Send-clause-long : goal.returns-in-Send-clause-long
returns-in-Send-clause-long g c =
    let t = c.requires.heard in
    unsent_long c.take.new.self c.args.sim c.args.crew.now c.send_last.new.crew c.send_last.result
    (can_answer t.0 c.args.core.now c.take.new.self t.1 c.args.sim c.args.message c.args.crew.now t.2
    (subst (λ (n : Taken). ArriveOf c.args.core.now c.args.sim c.args.message n c.take.new.self) c.in-Send.is c.in_ok-take.ensures.ok) c.take.ensures.stands)
    c.send_last.ensures.unsent c.send_last.ensures.err
