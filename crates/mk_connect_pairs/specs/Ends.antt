-- The ends of a block's connections: entities by their numbers, and which of them are connected.
use Rattle.std.specs.Prelude.{ℕ, suc, Bool, false, nat_eq, List, [], ◌∷◌, ◌++◌, map, codes, Option, Some, None, is_some, option_map, unwrap_or, slice_get, if◌then◌else◌}
use Rattle.std.specs.List.{cons_option, zip}
use Rattle.mk_entities.specs.declared.entities.EntityInfo.{EntityInfo}
use Rattle.mk_entities.specs.Creation.{entity_number}
use Rattle.mk_scenario.specs.declared.parts.SimPart.{SimPart}
use Rattle.mk_scenario.specs.declared.parts.Place.{Place}
use Rattle.mk_scenario.specs.declared.parts.Place.TheVariants.{Whole, One, Full}
use Rattle.mk_scenario.specs.Ids.{id_of_sim}
use Rattle.mk_connect_pairs.specs.declared.fault.ConnectFault.{ConnectFault}
use Rattle.mk_connect_pairs.specs.declared.fault.ConnectFault.TheVariants.{NoEntity}

-- the entity was created for this group
abbrev pub is_of_group : ℕ → EntityInfo → Bool
is_of_group group entity = unwrap_or (option_map (nat_eq group) entity.group) false

-- the numbers of the group's entities, among entities that are numbered from n
abbrev pub members_from : ℕ → ℕ → List EntityInfo → List ℕ
members_from group n [] = []
members_from group n (e ∷ es) = if is_of_group group e then n ∷ members_from group (suc n) es
    else members_from group (suc n) es

-- the numbers of the group's entities, in order
abbrev pub members : List EntityInfo → ℕ → List ℕ
members entities group = members_from group 0 entities

-- the entities at a place, none where the full id is no entity's or the group has none at the index
abbrev pub ends_at : List EntityInfo → Place → List ℕ
ends_at entities (Whole group) = members entities group
ends_at entities (One group i) = cons_option (slice_get (members entities group) i) []
ends_at entities (Full sim eid) = cons_option (entity_number entities sim eid) []

-- an entity's name in the whole plan: its simulator's id, a dot, its eid
abbrev pub name_of : List SimPart → ℕ → List ℕ → List ℕ
name_of sims sim eid = id_of_sim sims sim ++ (codes "." ++ eid)

abbrev pub full_id : List SimPart → List EntityInfo → ℕ → List ℕ
full_id sims entities i = unwrap_or
    (option_map (λ (e : EntityInfo). name_of sims e.sim.0 e.eid) (slice_get entities i)) []

-- a full id is an entity's
abbrev pub place_fault : List SimPart → List EntityInfo → Place → Option ConnectFault
place_fault sims entities (Whole group) = None
place_fault sims entities (One group i) = None
place_fault sims entities (Full sim eid) = if is_some (entity_number entities sim eid) then None
    else Some (NoEntity (name_of sims sim.0 eid))

-- which entities are connected: where one side has one entity, it and each of the other; else one
-- after the other
abbrev pub pairs_between : List ℕ → List ℕ → List (ℕ × ℕ)
pairs_between froms (to ∷ []) = map (λ from. (from, to)) froms
pairs_between (from ∷ []) tos = map (λ to. (from, to)) tos
pairs_between froms tos = zip froms tos
