-- Answers to the goals of `catching::ask_on` that the prover leaves.
use Rattle.std.proofs.Common.{[], sym, ap, ◌∙◌, subst, Result, Err}
use Rattle.std.proofs.lemmas.Result.{err_from_is_err_and}
use Rattle.mk_run.specs.declared.outcome.Outcome.TheVariants as outcome
use Rattle.mk_resume_loop.specs.declared.ending.ResumeEnd.{ResumeEnd}
use Rattle.mk_resume_loop.specs.declared.ending.ResumeEnd.TheVariants as ends
use Rattle.mk_resume_loop.specs.inner.Turns.{TurnsAs}
use Rattle.mk_resume_loop.proofs.Turned.{all_over, asked_alone, asked_end, waits_so}
use Rattle.mk_resume_loop.proofs.catching.ask_on.Goals as goal

pub returns-in_err-pause-clause-asked : goal.returns-in_err-pause-clause-asked
returns-in_err-pause-clause-asked g c =
    let e = err_from_is_err_and c.from_residual.result c.from_residual.ensures.1 in
    subst (λ (r : Result (Unit {0}) ResumeEnd). TurnsAs r [] ⊥ c.args.core.now c.args.crew.now c.args.behind.now c.ask_all.new.core c.ask_all.new.crew c.args.behind.now)
    (sym (e.1 ∙ ap (λ (end : ResumeEnd). Err end) e.2))
    (asked_end _ c.args.core.now c.ask_all.new.core c.args.crew.now c.ask_all.new.crew c.args.behind.now c.args.behind.now c.in_err-pause.field-0.0 c.in_err-pause.ensures.asked_all)

pub returns-then-is_over-clause-asked : goal.returns-then-is_over-clause-asked
returns-then-is_over-clause-asked g c =
    let over = c.is_over.ensures.over c.if-is_over.true in
    asked_end _ c.args.core.now c.ask_all.new.core c.args.crew.now c.ask_all.new.crew c.args.behind.now c.args.behind.now (ends.Outcome outcome.Done)
    (all_over c.args.core.now c.ask_all.new.core c.args.crew.now c.ask_all.new.crew c.args.behind.now c.in_ok-pause.pause c.in_ok-pause.ensures.asked_all over.0 over.1)

pub returns-clause-asked : goal.returns-clause-asked
returns-clause-asked g c = asked_alone c.args.core.now c.ask_all.new.core c.args.crew.now c.ask_all.new.crew c.args.behind.now c.in_ok-pause.pause c.in_ok-pause.ensures.asked_all

pub returns-clause-waits : goal.returns-clause-waits
returns-clause-waits g c = waits_so c.args.core.now c.ask_all.new.core c.args.crew.now c.ask_all.new.crew c.args.behind.now c.in_ok-pause.pause c.in_ok-pause.ensures.asked_all (c.is_over.ensures.going c.if-is_over.false)
