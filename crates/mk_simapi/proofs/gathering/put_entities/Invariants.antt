-- The invariants and measures of the loops of `gathering::put_entities`.
use Rattle.std.proofs.Common.{◌≡◌, ◌++◌, take}
use Rattle.mk_simapi.specs.inner.Inputs.{inputs_among}
use Rattle.mk_simapi.proofs.gathering.put_entities.Given as goal

abbrev pub invariant-loop-entity : goal.invariant-loop-entity
invariant-loop-entity l = (l.entity-items ≡ l.entities) × (l.inputs ≡ l.fn.inputs ++ inputs_among (take l.entity-index l.entity-items))
