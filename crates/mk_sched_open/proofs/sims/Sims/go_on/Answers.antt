-- Answers to the goals of `sims::Sims::go_on` that the prover leaves.
use Rattle.std.proofs.Common.{sym, ap, ◌∙◌, subst, slice_set}
use Rattle.mk_sched_open.specs.Sims.{AreSimsOf}
use Rattle.mk_sched_open.specs.inner.Changes.{gone_on}
use Rattle.mk_sched_open.proofs.Every.{gone_sims, heard_low}
use Rattle.mk_sched_open.proofs.sims.Sims.go_on.Goals as goal

pub returns-clause-sims : goal.returns-clause-sims
returns-clause-sims c = rw (← c.self.view_is) (λ P V n m T most h right next.
    subst (AreSimsOf P _ _)
    (sym (c.set.ensures ∙ ap (slice_set c.self.inside.kept c.args.sim.0) (c.gone_on-further.ensures (heard_low P V n c.self.inside.kept h c.args.sim.0 c.at.result.now c.at.ensures most) ∙ ap (gone_on c.at.result.now c.args.place) next)))
    (gone_sims P V n c.self.inside.kept h c.args.sim.0 c.at.result.now c.at.ensures m T c.args.place right))
