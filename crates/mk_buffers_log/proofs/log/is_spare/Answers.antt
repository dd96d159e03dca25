-- Answers to the goals of `log::is_spare` that the prover leaves.
use Rattle.std.proofs.Common.{None, sym, subst, ◌∙◌}
use Rattle.mk_base.specs.declared.tier.Via.{Via}
use Rattle.mk_buffers_log.specs.inner.Logs.{IsOutdoneAt}
use Rattle.mk_buffers_log.proofs.log.is_spare.Goals as goal
use Rattle.mk_base.proofs.Bools.{not_true}

pub returns-clause-spare : goal.returns-clause-spare
returns-clause-spare c = λ h. record {
  settled = λ d. sym (c.is_settled_at.ensures d) ∙ c.if-not-is_settled_at.false;
  made = subst (λ (v : Via). IsOutdoneAt v None c.args.mark c.args.entries.now.items c.args.place) c.of.ensures (c.is_newest.ensures.outdone c.if-is_newest.false);
  arrived = c.is_newest_by.ensures.outdone (not_true c.is_newest_by.result h);
}
