-- The invariants and measures of the loops of `given::put_values`.
use Rattle.std.proofs.Common.{◌≡◌, ◌++◌, take}
use Rattle.mk_async.specs.inner.Given.{values_to}
use Rattle.mk_async.proofs.given.put_values.Given as goal

abbrev pub invariant-loop-member : goal.invariant-loop-member
invariant-loop-member l = (l.member-items ≡ l.members) × (l.sets ≡ l.fn.sets ++ values_to l.plan l.source l.id (take l.member-index l.member-items))
