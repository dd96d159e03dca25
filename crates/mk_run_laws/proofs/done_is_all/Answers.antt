-- Answers to the goals of `done_is_all` that the prover leaves.
use Rattle.mk_run_laws.proofs.Saying.{items_all}
use Rattle.mk_run_laws.proofs.done_is_all.Goals as goal

pub returns : goal.returns
returns c X J j done R may i = items_all c.args.plan.now c.requires X.started X.scenario j.sims X.reply X.log J j.orderly j.kinds j.links R may done i
