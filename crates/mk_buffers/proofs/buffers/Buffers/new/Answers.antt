-- Answers to the goals of `buffers::Buffers::new` that the prover leaves.
use Rattle.std.proofs.Common.{subst}
use Rattle.mk_buffers.specs.inner.Listing.{AreTargets}
use Rattle.mk_buffers.specs.inner.Standing.{AreHomes}
use Rattle.mk_buffers.proofs.buffers.Buffers.new.Goals as goal

pub of_tables-requires-clause-inlets : goal.of_tables-requires-clause-inlets
of_tables-requires-clause-inlets c = let i = c.in_ok-inlets.ensures in (i.0, subst (λ p. AreTargets c.args.plan.now p i.0) c.as_slice.ensures.value i.1, i.2)

pub of_tables-requires-clause-homes : goal.of_tables-requires-clause-homes
of_tables-requires-clause-homes c = subst (λ p. AreHomes c.args.plan.now p c.in_ok-homes.homes.items) c.as_slice-2.ensures.value c.in_ok-homes.ensures
