-- The invariants and measures of the loops of `asyncs::Pairs::listed`.
use Rattle.std.proofs.Common.{◌≡◌, map, take}
use Rattle.mk_connect.specs.inner.Asyncs.{async_of}
use Rattle.mk_connect.proofs.asyncs.Pairs.listed.Given as goal

abbrev pub invariant-loop-key : goal.invariant-loop-key
invariant-loop-key l = l.pairs ≡ map async_of (take l.key-index l.key-items)
