-- Answers to the goals of `comparison` that the prover leaves.
use Rattle.mk_order.proofs.Going.{same_runs}
use Rattle.mk_order.proofs.comparison.Goals as goal

pub returns : goal.returns
returns c = same_runs c.args.plan.now c.requires
