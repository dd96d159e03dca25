-- Answers to the goals of `check_plan` that the prover leaves.
use Rattle.std.proofs.Common.{◌≡◌, Some, None, sym, ◌∙◌}
use Rattle.std.proofs.lemmas.Bool.{OnTrue_at}
use Rattle.mk_plan_check.specs.Tests.{first_bad}
use Rattle.mk_plan_check.proofs.Meaning.{valid_where, bad_is}
use Rattle.mk_plan_check.proofs.check_plan.Goals as goal

pub returns-in-None-clause-valid : goal.returns-in-None-clause-valid
returns-in-None-clause-valid c =
    let e : first_bad c.args.plan.now ≡ None = sym c.in_ok-first_bad.ensures.value ∙ c.in-None.is in
    valid_where c.args.plan.now (λ t. OnTrue_at t c.in_ok-first_bad.ensures.datums) e

pub returns-in-Some-clause-fault : goal.returns-in-Some-clause-fault
returns-in-Some-clause-fault c =
    let e : first_bad c.args.plan.now ≡ Some c.in-Some.part = sym c.in_ok-first_bad.ensures.value ∙ c.in-Some.is in
    bad_is c.args.plan.now c.in-Some.part (λ t. OnTrue_at t c.in_ok-first_bad.ensures.datums) e
