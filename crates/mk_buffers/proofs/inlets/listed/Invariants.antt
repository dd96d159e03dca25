-- The invariants and measures of the loops of `inlets::listed`.
use Rattle.std.proofs.Common.{take, length}
use Rattle.mk_buffers.specs.inner.Listing.{AreListed}
use Rattle.mk_buffers.proofs.inlets.listed.Given as goal

abbrev pub invariant-loop-target : goal.invariant-loop-target
invariant-loop-target l = AreListed (length l.plan.sims) (take l.target-index l.targets) l.inlets.items
