-- Answers to the goals of `sims::Sims::next` that the prover leaves.
use Rattle.std.proofs.Common.{subst}
use Rattle.mk_sched_open.specs.Sims.{IsTurn, free_id}
use Rattle.mk_sched_open.proofs.OneSim.{fetching_next}
use Rattle.mk_sched_open.proofs.sims.Sims.next.Goals as goal

pub returns : goal.returns
returns c = rw (← c.self.view_is) (λ P V n T x id m h is at.
    fetching_next (free_id P c.args.sim.0 (V.acts c.args.sim.0)) n c.at.result.now T x id m (subst (IsTurn (free_id P c.args.sim.0 (V.acts c.args.sim.0)) n c.at.result.now) is (h.each c.args.sim.0 c.at.result.now c.at.ensures).turn) at)
