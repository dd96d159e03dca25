-- Answers to the goals of `planning::plan_of` that the prover leaves.
use Rattle.std.proofs.Common.{◌∙◌, None}
use Rattle.mk_setup.specs.Kept.{state_of}
use Rattle.mk_setup.proofs.Completing.{plan_result}
use Rattle.mk_setup.proofs.planning.plan_of.Goals as goal

pub returns-clause-ok : goal.returns-clause-ok
returns-clause-ok c = plan_result (state_of c.args.progress.now None) c.args.progress.now.ids c.as_slice.result.now c.args.progress.now.plan c.plan.result c.requires.kept c.requires.created (c.as_slice.ensures ∙ c.in_ok-ids.ensures) c.plan.ensures.made c.plan.ensures.valid
