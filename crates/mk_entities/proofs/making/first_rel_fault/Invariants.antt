-- The invariants and measures of the loops of `making::first_rel_fault`.
use Rattle.std.proofs.Common.{◌≡◌, drop, map}
use Rattle.mk_entities.specs.Creation.{first_there, rel_fault}
use Rattle.mk_entities.specs.inner.Making.{number_in}
use Rattle.mk_entities.proofs.making.first_rel_fault.Given as goal

abbrev pub invariant-loop-entity : goal.invariant-loop-entity
invariant-loop-entity l = first_there (map (rel_fault (number_in l.names)) (drop l.entity-index l.entities)) ≡ first_there (map (rel_fault (number_in l.names)) l.entities)
