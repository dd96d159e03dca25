-- Answers to the goals of `links_say_right` that the prover leaves.
use Rattle.mk_outside.specs.Counts.{HasRisen}
use Rattle.mk_run_laws.proofs.Clauses.{run_says}
use Rattle.mk_run_laws.proofs.links_say_right.Goals as goal

pub returns : goal.returns
returns c X J j replies faults new_faults = run_says c.args.plan.now c.requires X.started X.scenario j.sims X.reply X.log J j.orderly j.kinds j.links replies (HasRisen faults new_faults)
