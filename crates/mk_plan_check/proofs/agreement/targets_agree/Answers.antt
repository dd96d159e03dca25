-- Answers to the goals of `agreement::targets_agree` that the prover leaves.
use Rattle.std.proofs.Common.{◌∙◌, ap}
use Rattle.mk_plan_check.specs.Tests.{all_apart}
use Rattle.mk_plan_check.specs.inner.Marks.{agree}
use Rattle.mk_plan_check.proofs.Neighbours.{targets_same}
use Rattle.mk_plan_check.proofs.agreement.targets_agree.Goals as goal

pub returns : goal.returns
returns c = c.do_agree.ensures ∙ ap (all_apart agree) c.in_ok-targets.ensures ∙ targets_same c.args.plan.now
