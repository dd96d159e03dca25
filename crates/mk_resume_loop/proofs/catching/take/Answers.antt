-- Answers to the goals of `catching::take` that the prover leaves.
use Rattle.std.proofs.Common.{sym, ap, ◌∙◌, subst, Result, Err}
use Rattle.std.proofs.lemmas.Result.{err_from_is_err_and}
use Rattle.mk_sched.specs.declared.faults.Taken.{Taken}
use Rattle.mk_sched.specs.Cores.{CoreState}
use Rattle.mk_sched.specs.Answers.{ArriveOf, IsQuiet}
use Rattle.mk_run_crew.specs.Seen.{crew_of}
use Rattle.mk_resume_loop.specs.declared.ending.ResumeEnd.{ResumeEnd}
use Rattle.mk_resume_loop.specs.inner.Turns.{TakesAs}
use Rattle.mk_resume_loop.proofs.Answered.{answered_so}
use Rattle.mk_resume_loop.proofs.Endings.{fault_ends, untaken_for_memory}
use Rattle.mk_resume_loop.proofs.Turning.{can_answer, quiet_on}
use Rattle.mk_resume_loop.proofs.catching.take.Goals as goal

pub returns-in_err-take-clause-taken : goal.returns-in_err-take-clause-taken
returns-in_err-take-clause-taken g c =
    let e = err_from_is_err_and c.from_residual.result c.from_residual.ensures.1 in
    subst (λ (r : Result (Unit {0}) ResumeEnd). TakesAs r c.args.sim c.args.message c.args.core.now c.args.crew.now c.args.behind.now c.take.new.self c.args.crew.now c.args.behind.now)
    (sym (e.1 ∙ ap (λ (end : ResumeEnd). Err end) e.2))
    (λ T first heard log h. (heard, untaken_for_memory T first ⊥ c.args.core.now c.take.new.self heard log c.args.sim c.args.message (crew_of c.args.crew.now) c.args.crew.now.sims h.0 c.in_err-take.ensures.err))

pub send-requires-clause-due : goal.send-requires-clause-due
send-requires-clause-due g c =
    let t = c.requires.heard in
    can_answer t.0 c.args.core.now c.take.new.self t.1 t.2 t.3 c.args.crew.now c.args.behind.now c.args.sim c.args.message t.4 c.requires.caught
    (subst (λ (n : Taken). ArriveOf c.args.core.now c.args.sim c.args.message n c.take.new.self) c.in-Send.is c.in_ok-take.ensures.ok) c.take.ensures.stands

pub returns-in-Quiet-clause-taken : goal.returns-in-Quiet-clause-taken
returns-in-Quiet-clause-taken g c =
    let q : IsQuiet c.args.core.now c.args.sim c.args.message c.take.new.self =
    subst (λ (n : Taken). ArriveOf c.args.core.now c.args.sim c.args.message n c.take.new.self) c.in-Quiet.is c.in_ok-take.ensures.ok in
    (ap (λ (k : CoreState). k.ended) q.moved, λ T first heard log h. quiet_on T c.args.core.now c.take.new.self first heard log c.args.crew.now c.args.behind.now c.args.sim c.args.message h c.requires.caught q c.take.ensures.stands)

pub returns-in-Send-clause-taken : goal.returns-in-Send-clause-taken
returns-in-Send-clause-taken g c =
    answered_so c.args.core.now c.take.new.self c.args.sim c.args.message c.args.crew.now c.send.new.crew c.args.behind.now c.send.result c.requires.caught
    (subst (λ (n : Taken). ArriveOf c.args.core.now c.args.sim c.args.message n c.take.new.self) c.in-Send.is c.in_ok-take.ensures.ok) c.take.ensures.stands c.replies_are_kinds.ensures c.send.ensures.sent
    c.send.ensures.unsent c.send.ensures.err

pub returns-in-Fault-clause-taken : goal.returns-in-Fault-clause-taken
returns-in-Fault-clause-taken g c = λ T first heard log h. fault_ends T first ⊥ c.args.core.now c.take.new.self heard log c.args.sim c.args.message (crew_of c.args.crew.now) c.args.crew.now.sims h.0 (h.1.each c.args.sim.0 _ c.requires.caught) c.in-Fault.fault c.requires.going c.take.ensures.stands
    (subst (λ (n : Taken). ArriveOf c.args.core.now c.args.sim c.args.message n c.take.new.self) c.in-Fault.is c.in_ok-take.ensures.ok)
