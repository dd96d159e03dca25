-- Answers to the goals of `names::eids_apart` that the prover leaves.
use Rattle.std.proofs.Common.{◌∙◌, ap}
use Rattle.mk_plan_check.specs.Tests.{all_apart}
use Rattle.mk_plan_check.specs.inner.Marks.{differ}
use Rattle.mk_plan_check.proofs.Neighbours.{names_apart}
use Rattle.mk_plan_check.proofs.names.eids_apart.Goals as goal

pub returns : goal.returns
returns c = c.are_apart.ensures ∙ ap (all_apart differ) c.in_ok-names.ensures ∙ names_apart c.args.plan.now
