-- Answers to the goals of `agreement::sources_agree` that the prover leaves.
use Rattle.std.proofs.Common.{◌∙◌, ap}
use Rattle.mk_plan_check.specs.Tests.{all_apart}
use Rattle.mk_plan_check.specs.inner.Marks.{agree}
use Rattle.mk_plan_check.proofs.Neighbours.{sources_same}
use Rattle.mk_plan_check.proofs.agreement.sources_agree.Goals as goal

pub returns : goal.returns
returns c = c.do_agree.ensures ∙ ap (all_apart agree) c.in_ok-sources.ensures ∙ sources_same c.args.plan.now
