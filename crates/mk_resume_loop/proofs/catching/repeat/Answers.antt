-- Answers to the goals of `catching::repeat` that the prover leaves.
use Rattle.std.proofs.Common.{sym, ap, ◌∙◌, subst, Result, Err}
use Rattle.std.proofs.lemmas.Result.{err_from_is_err_and}
use Rattle.mk_resume_loop.specs.declared.ending.ResumeEnd.{ResumeEnd}
use Rattle.mk_resume_loop.specs.inner.Turns.{TakesAs}
use Rattle.mk_resume_loop.proofs.Repeated.{again_so, all_sized, apart_so, due_again, saved_there, some_gone}
use Rattle.mk_resume_loop.proofs.catching.repeat.Goals as goal

pub message_at-kept-requires : goal.message_at-kept-requires
message_at-kept-requires g c = let t = c.requires.heard in saved_there t.0 c.args.core.now t.1 t.2 t.3 c.args.crew.now c.args.behind.now c.args.sim c.args.message c.args.at c.requires.stands t.4

pub message_number-requires : goal.message_number-requires
message_number-requires g c = let t = c.requires.heard in some_gone t.0 c.args.core.now t.1 t.2 t.3 c.args.crew.now c.args.behind.now c.args.sim c.args.message c.args.at c.requires.stands t.4

pub returns-in_err-compare-clause-repeated : goal.returns-in_err-compare-clause-repeated
returns-in_err-compare-clause-repeated g c =
    let e = err_from_is_err_and c.from_residual.result c.from_residual.ensures.1 in
    subst (λ (r : Result (Unit {0}) ResumeEnd). TakesAs r c.args.sim c.args.message c.args.core.now c.args.crew.now c.args.behind.now c.args.core.now c.args.crew.now c.args.behind.now)
    (sym (e.1 ∙ ap (λ (end : ResumeEnd). Err end) e.2))
    (apart_so c.args.core.now c.args.crew.now c.args.behind.now c.args.sim c.args.message c.args.at c.requires.stands c.message_at-kept.ensures.0 _ c.message_at-kept.ensures.1 c.message_number.result c.message_number.ensures
    c.in_err-compare.field-0.0 c.in_err-compare.ensures.apart)

pub go_on-requires-clause-sized : goal.go_on-requires-clause-sized
go_on-requires-clause-sized g c = let t = c.requires.heard in all_sized t.0 c.args.core.now t.1 t.2 t.3 c.args.crew.now c.args.behind.now c.args.sim c.args.message c.args.at c.requires.stands t.4

pub go_on-requires-clause-due : goal.go_on-requires-clause-due
go_on-requires-clause-due g c =
    let t = c.requires.heard in
    due_again t.0 c.args.core.now t.1 t.2 t.3 c.args.crew.now c.args.behind.now c.args.sim c.args.message c.args.at c.requires.stands t.4 c.message_at-kept.ensures.0
    _ c.message_at-kept.ensures.1 c.in_ok-compare.ensures.same

pub returns-clause-repeated : goal.returns-clause-repeated
returns-clause-repeated g c =
    again_so c.args.core.now c.args.crew.now c.go_on.new.crew c.args.behind.now c.go_on.new.behind c.args.sim c.args.message c.args.at c.requires.stands c.message_at-kept.ensures.0 _ c.message_at-kept.ensures.1 c.in_ok-compare.ensures.same c.requires.going
    c.go_on.result c.go_on.ensures.passed c.go_on.ensures.sized c.go_on.ensures.others
