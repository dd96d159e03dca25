-- Answers to the goals of `sims::sim_in` that the prover leaves.
use Rattle.std.proofs.Common.{◌≡◌, subst, ℕ, List, Ok, IfOk, IfErr}
use Rattle.mk_scenario_keys.specs.Tests.{IsFaultOf}
use Rattle.mk_scenario.specs.Sims as sims
use Rattle.mk_scenario.proofs.sims.sim_in.Goals as goal

pub returns-clause-ok : goal.returns-clause-ok
returns-clause-ok c = subst (λ (p : List ℕ). IfOk c.sim_at-part.result (λ part. sims.sim_at p c.args.earlier.now c.args.table.now ≡ Ok part)) c.in_ok-path.ensures c.sim_at-part.ensures.ok

pub returns-clause-refused : goal.returns-clause-refused
returns-clause-refused c = subst (λ (p : List ℕ). IfErr c.sim_at-part.result (λ e. IsFaultOf (sims.sim_at p c.args.earlier.now c.args.table.now) e)) c.in_ok-path.ensures c.sim_at-part.ensures.refused
