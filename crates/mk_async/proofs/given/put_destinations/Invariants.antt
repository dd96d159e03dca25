-- The invariants and measures of the loops of `given::put_destinations`.
use Rattle.std.proofs.Common.{◌≡◌, ◌++◌, take}
use Rattle.mk_async.specs.inner.Given.{values_from}
use Rattle.mk_async.proofs.given.put_destinations.Given as goal

abbrev pub invariant-loop-member : goal.invariant-loop-member
invariant-loop-member l = (l.member-items ≡ l.members) × (l.sets ≡ l.fn.sets ++ values_from l.plan l.source (take l.member-index l.member-items))
