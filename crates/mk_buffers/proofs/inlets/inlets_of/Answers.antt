-- Answers to the goals of `inlets::inlets_of` that the prover leaves.
use Rattle.std.proofs.Common.{sym, subst}
use Rattle.mk_buffers.specs.inner.Listing.{AreTargets}
use Rattle.mk_buffers.proofs.inlets.inlets_of.Goals as goal
use Rattle.mk_base.proofs.Items.{if_ok}

pub listed-requires-clause-targets : goal.listed-requires-clause-targets
listed-requires-clause-targets c = (c.args.outlet_of.now, subst (AreTargets c.args.plan.now c.args.outlet_of.now) (sym c.as_slice-2.ensures.value) c.in_ok-targets.ensures)

pub returns : goal.returns
returns c = if_ok c.listed.result (λ v l. (c.as_slice-2.result.now, subst (AreTargets c.args.plan.now c.args.outlet_of.now) (sym c.as_slice-2.ensures.value) c.in_ok-targets.ensures, l)) c.listed.ensures
