-- The invariants and measures of the loops of `making::make_all`.
use Rattle.std.proofs.Common.{◌≡◌, take, map}
use Rattle.mk_entities.specs.inner.Making.{made_by, number_in}
use Rattle.mk_entities.proofs.making.make_all.Given as goal

abbrev pub invariant-loop-entity : goal.invariant-loop-entity
invariant-loop-entity l = l.made.items ≡ map (made_by (number_in l.names) l.asked.sim l.asked.group) (take l.entity-index l.entities)
