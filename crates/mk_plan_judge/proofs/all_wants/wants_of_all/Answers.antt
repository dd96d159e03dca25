-- Each list has what is wanted of its simulator.
use Rattle.std.proofs.Common.{List, ap, subst, ◌∙◌, arith}
use Rattle.std.proofs.lemmas.Result.{IfOk-weaker}
use Rattle.mk_base.specs.Lists.{IsIn}
use Rattle.mk_plan_judge.specs.declared.all_wants.Taking.{Taking}
use Rattle.mk_plan_judge.specs.inner.Takings.{wants_of}
use Rattle.mk_plan_judge.proofs.Takings.{takings_inside, wants_whole}
use Rattle.mk_plan_judge.proofs.all_wants.wants_of_all.Goals as goal

pub listed-requires-clause-there : goal.listed-requires-clause-there
listed-requires-clause-there c = λ t m.
    let low = takings_inside c.args.plan.now c.in_ok-takings.takings.items c.requires.references c.in_ok-takings.ensures.all t (subst (λ (ts : List Taking). IsIn t ts) c.as_slice.ensures.value m) in
    omega (arith, low, c.len.ensures)

pub returns-clause-each : goal.returns-clause-each
returns-clause-each c = IfOk-weaker c.listed.result _ _ (λ lists are i ws at. are.each i ws at ∙ ap (wants_of i) c.as_slice.ensures.value ∙ wants_whole c.args.plan.now c.in_ok-takings.takings.items i c.in_ok-takings.ensures.all) c.listed.ensures
