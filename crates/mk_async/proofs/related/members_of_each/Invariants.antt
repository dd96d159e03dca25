-- The invariants and measures of the loops of `related::members_of_each`.
use Rattle.std.proofs.Common.{◌≡◌, take}
use Rattle.mk_async.specs.inner.Related.{each_read}
use Rattle.mk_async.proofs.related.members_of_each.Given as goal

abbrev pub invariant-loop-id : goal.invariant-loop-id
invariant-loop-id l = (l.id-items ≡ l.ids) × (l.members ≡ each_read l.plan (take l.id-index l.id-items))
