-- That an eid stands for one entity of its simulator.
use Rattle.std.specs.Prelude.{◌≡◌, ℕ, List, Some, slice_get}
use Rattle.mk_entities.specs.declared.entities.EntityInfo.{EntityInfo}
use Rattle.mk_entities.specs.Creation.{entity_number}

-- each entity is the first of its simulator with its eid
abbrev pub AreFirst : List EntityInfo → Type 0
AreFirst entities = (i : ℕ) (entity : EntityInfo) → slice_get entities i ≡ Some entity
    → entity_number entities entity.sim entity.eid ≡ Some i
