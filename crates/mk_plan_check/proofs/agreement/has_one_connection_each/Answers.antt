-- Answers to the goals of `agreement::has_one_connection_each` that the prover leaves.
use Rattle.std.proofs.Common.{◌∙◌, ap}
use Rattle.mk_plan_check.specs.Tests.{all_apart}
use Rattle.mk_plan_check.specs.inner.Marks.{differ}
use Rattle.mk_plan_check.proofs.Neighbours.{ways_apart}
use Rattle.mk_plan_check.proofs.agreement.has_one_connection_each.Goals as goal

pub returns : goal.returns
returns c = c.are_apart.ensures ∙ ap (all_apart differ) c.in_ok-ways.ensures ∙ ways_apart c.args.plan.now
