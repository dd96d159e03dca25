-- The invariants and measures of the loops of `related::describe`.
use Rattle.std.proofs.Common.{◌≡◌, take}
use Rattle.mk_async.specs.inner.Related.{described}
use Rattle.mk_async.proofs.related.describe.Given as goal

abbrev pub invariant-loop-entity : goal.invariant-loop-entity
invariant-loop-entity l = (l.entity-items ≡ l.entities) × (l.members ≡ described l.plan (take l.entity-index l.entity-items))
