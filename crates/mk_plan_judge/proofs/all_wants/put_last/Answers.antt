-- A want that is no last one is put behind all.
use Rattle.std.proofs.Common.{sym, ap, ◌∙◌, ◌++◌, ◌∷◌, []}
use Rattle.mk_plan.specs.Turns.{want_order}
use Rattle.mk_plan_judge.specs.inner.Takings.{want_taken}
use Rattle.mk_plan_judge.proofs.Putting.{names_total}
use Rattle.mk_plan_judge.proofs.Puts.{other_than_last, put_again, put_end}
use Rattle.mk_plan_judge.proofs.Taken.{same_names}
use Rattle.mk_plan_judge.proofs.all_wants.put_last.Goals as goal

pub returns-in_ok-push : goal.returns-in_ok-push
returns-in_ok-push c = c.in_ok-push.ensures.ok ∙ ap (λ w. c.args.wants.now ++ w ∷ []) c.in_ok-want.ensures
    ∙ sym (put_end want_order names_total (want_taken c.args.taking.now) c.args.wants.now c.requires.sorted c.requires.last (other_than_last want_order (want_taken c.args.taking.now) c.args.wants.now c.as_slice.result.now c.is_new.result c.as_slice.ensures c.is_new.ensures ∙ c.if-is_new.true))

pub returns-else-is_new : goal.returns-else-is_new
returns-else-is_new c = sym (put_again want_order names_total same_names (want_taken c.args.taking.now) c.args.wants.now c.requires.sorted c.requires.last (other_than_last want_order (want_taken c.args.taking.now) c.args.wants.now c.as_slice.result.now c.is_new.result c.as_slice.ensures c.is_new.ensures ∙ c.if-is_new.false))
