-- Answers to the goals of `kinds_answer` that the prover leaves.
use Rattle.mk_run_laws.proofs.Existing.{there_are}
use Rattle.mk_run_laws.proofs.kinds_answer.Goals as goal

pub returns : goal.returns
returns c reply within right Q = there_are c.args.plan.now reply within right Q
