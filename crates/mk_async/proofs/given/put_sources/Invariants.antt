-- The invariants and measures of the loops of `given::put_sources`.
use Rattle.std.proofs.Common.{◌≡◌, ◌++◌, take}
use Rattle.mk_async.specs.inner.Given.{values_in}
use Rattle.mk_async.proofs.given.put_sources.Given as goal

abbrev pub invariant-loop-source : goal.invariant-loop-source
invariant-loop-source l = (l.source-items ≡ l.sources) × (l.sets ≡ l.fn.sets ++ values_in l.plan (take l.source-index l.source-items))
