-- Answers to the goals of `laws::kinds_fit` that the prover leaves.
use Rattle.mk_run.proofs.Fitting.{fits}
use Rattle.mk_run.proofs.laws.kinds_fit.Goals as goal

pub returns : goal.returns
returns c A P J faults new_faults end prepared h = c.kinds_are_right.ensures A.rows A.scenario P
    (fits A.scenario A.rows h.answers P c.metadata_is_accepted.ensures prepared h.run.valid h.run.journal.sims h.first h.kinds (c.replies_make.ensures.kinds A.scenario A.ranks h.answers P h.made))
