-- The invariants and measures of the loops of `outlets::filled`.
use Rattle.std.proofs.Common.{take}
use Rattle.mk_buffers.specs.inner.Building.{AreOutlets}
use Rattle.mk_buffers.proofs.outlets.filled.Given as goal

abbrev pub invariant-loop-source : goal.invariant-loop-source
invariant-loop-source l = AreOutlets l.plan (take l.source-index l.sources) (take l.source-index l.sources) l.made
