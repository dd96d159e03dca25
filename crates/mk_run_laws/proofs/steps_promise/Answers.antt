-- Answers to the goals of `steps_promise` that the prover leaves.
use Rattle.mk_run_laws.proofs.Saying.{step_promised}
use Rattle.mk_run_laws.proofs.steps_promise.Goals as goal

pub returns : goal.returns
returns c X J j H s x inputs advance more parts low R may = step_promised c.args.plan.now c.requires X.started X.scenario j.sims X.reply X.log J j.orderly j.kinds j.links H s x inputs advance more parts low R may
