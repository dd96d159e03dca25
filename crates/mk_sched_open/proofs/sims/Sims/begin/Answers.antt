-- Answers to the goals of `sims::Sims::begin` that the prover leaves.
use Rattle.std.proofs.Common.{sym, ap, ◌∙◌, subst, slice_set}
use Rattle.mk_plan.specs.declared.Item.TheVariants.{Step}
use Rattle.mk_plan.specs.Journals.{note_sent}
use Rattle.mk_sched_open.specs.Sims.{AreSimsOf}
use Rattle.mk_sched_open.proofs.Every.{begun_sims}
use Rattle.mk_sched_open.proofs.sims.Sims.begin.Goals as goal

pub returns-clause-sims : goal.returns-clause-sims
returns-clause-sims c = rw (← c.self.view_is) (λ P V n ins advance h closed run.
    subst (AreSimsOf P (note_sent P V c.args.sim.0 (Step c.args.at ins advance)) (_)) (sym (c.set.ensures ∙ ap (slice_set c.self.inside.kept c.args.sim.0) c.begun_sim-begun.ensures))
    (begun_sims P V n c.self.inside.kept h c.args.sim.0 c.at.result.now c.at.ensures c.args.at ins advance closed run))
