-- The invariants and measures of the loops of `gathering::put_wanted`.
use Rattle.std.proofs.Common.{◌≡◌, ◌++◌, take}
use Rattle.mk_simapi.specs.inner.Inputs.{wants_among}
use Rattle.mk_simapi.proofs.gathering.put_wanted.Given as goal

abbrev pub invariant-loop-entity : goal.invariant-loop-entity
invariant-loop-entity l = (l.entity-items ≡ l.entities) × (l.wants ≡ l.fn.wants ++ wants_among (take l.entity-index l.entity-items))
