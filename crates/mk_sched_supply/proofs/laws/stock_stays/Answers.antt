-- Answers to the goals of `laws::stock_stays` that the prover leaves.
use Rattle.mk_sched_supply.proofs.Lasting.{stays_ended, stays_fetching, stays_step}
use Rattle.mk_sched_supply.proofs.laws.stock_stays.Goals as goal

pub returns-clause-step : goal.returns-clause-step
returns-clause-step c = stays_step

pub returns-clause-fetching : goal.returns-clause-fetching
returns-clause-fetching c = stays_fetching

pub returns-clause-ended : goal.returns-clause-ended
returns-clause-ended c = stays_ended
