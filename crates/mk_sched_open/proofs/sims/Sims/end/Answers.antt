-- Answers to the goals of `sims::Sims::end` that the prover leaves.
use Rattle.std.proofs.Common.{sym, ap, ◌∙◌, subst, slice_set}
use Rattle.mk_sched_open.specs.Sims.{AreSimsOf}
use Rattle.mk_sched_open.proofs.Every.{ended_sims, heard_low, ids_low}
use Rattle.mk_sched_open.proofs.sims.Sims.end.Goals as goal

pub returns-clause-sims : goal.returns-clause-sims
returns-clause-sims c = rw (← c.self.view_is) (λ P V n m T most h right.
    subst (AreSimsOf P _ _)
    (sym (c.set.ensures ∙ ap (slice_set c.self.inside.kept c.args.sim.0) (c.ended_sim-ended.ensures (heard_low P V n c.self.inside.kept h c.args.sim.0 c.at.result.now c.at.ensures most) (ids_low P V n c.self.inside.kept h c.args.sim.0 c.at.result.now c.at.ensures T most right.opened))))
    (ended_sims P V n c.self.inside.kept h c.args.sim.0 c.at.result.now c.at.ensures m T right))
