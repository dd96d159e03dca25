-- The test of a group, before its entities are created.
use Rattle.std.specs.Prelude.{ℕ, List, Option, Some, None, option_map, unwrap_or, slice_get, if◌then◌else◌}
use Rattle.std.specs.List.{find}
use Rattle.mk_base.specs.Lists.{same_text}
use Rattle.mk_meta.specs.declared.meta.ModelMeta.{ModelMeta}
use Rattle.mk_meta.specs.declared.meta.Meta.{Meta}
use Rattle.mk_scenario.specs.declared.parts.SimPart.{SimPart}
use Rattle.mk_scenario.specs.declared.parts.Group.{Group}
use Rattle.mk_scenario.specs.declared.parts.Scenario.{Scenario}
use Rattle.mk_scenario.specs.Ids.{id_of_sim}
use Rattle.mk_scenario_keys.specs.Keys.{first_unknown}
use Rattle.mk_connect_pairs.specs.declared.fault.ConnectFault.{ConnectFault}
use Rattle.mk_connect_pairs.specs.declared.fault.ConnectFault.TheVariants.{NotPublic, UnknownParam}

-- the model of this name
abbrev pub model_named : List ModelMeta → List ℕ → Option ModelMeta
model_named models name = find (λ (m : ModelMeta). same_text m.name name) models

-- the first parameter, in byte order, that the model doesn't have
abbrev pub param_fault : ModelMeta → Group → Option ConnectFault
param_fault model group = option_map (UnknownParam group.model)
    (first_unknown model.params group.params)

-- the model is there and public, and has the group's parameters
abbrev pub model_fault : List ℕ → Group → Option ModelMeta → Option ConnectFault
model_fault sim group None = Some (NotPublic sim group.model)
model_fault sim group (Some model) = if model.public then param_fault model group
    else Some (NotPublic sim group.model)

-- the first test that a group fails, by its simulator's metadata
abbrev pub group_fault : List SimPart → Meta → Group → Option ConnectFault
group_fault sims meta group = model_fault (id_of_sim sims group.sim.0) group
    (model_named meta.models group.model)

-- the same of the group at this place
abbrev pub fault_of_group : Scenario → ℕ → Meta → Option ConnectFault
fault_of_group S n meta = unwrap_or
    (option_map (group_fault S.sims meta) (slice_get S.groups n)) None
