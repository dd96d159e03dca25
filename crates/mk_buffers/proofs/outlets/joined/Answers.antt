-- Answers to the goals of `outlets::joined` that the prover leaves.
use Rattle.std.proofs.Common.{sym, subst}
use Rattle.mk_buffers.specs.inner.Building.{AreSources}
use Rattle.mk_base.proofs.Items.{if_ok}
use Rattle.mk_buffers.proofs.outlets.joined.Goals as goal

pub filled-requires-clause-sources : goal.filled-requires-clause-sources
filled-requires-clause-sources c = subst (AreSources c.args.plan.now) (sym c.as_slice.ensures.value) c.in_ok-sources.ensures

pub returns : goal.returns
returns c =
    let all = subst (AreSources c.args.plan.now) (sym c.as_slice.ensures.value) c.in_ok-sources.ensures in
    if_ok c.filled.result (λ o are. (c.as_slice.result.now, all.sources, are)) c.filled.ensures
