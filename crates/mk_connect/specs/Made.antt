-- The plan that a scenario makes with what its simulators said, or the first test that its
-- connections fail.
use Rattle.std.specs.Prelude.{ℕ, List, map, length, option_map, unwrap_or, slice_get, Result, Ok}
use Rattle.mk_base.specs.declared.SimKind.{SimKind}
use Rattle.mk_base.specs.declared.SimKind.TheVariants.{TimeBased}
use Rattle.mk_base.specs.Verdicts.{passed}
use Rattle.mk_plan.specs.declared.Plan.{Plan}
use Rattle.mk_plan.specs.declared.PlanSim.{PlanSim}
use Rattle.mk_plan.specs.declared.PlanEntity.{PlanEntity}
use Rattle.mk_plan.specs.declared.Conn.{Conn}
use Rattle.mk_meta.specs.declared.meta.Meta.{Meta}
use Rattle.mk_entities.specs.declared.entities.EntityInfo.{EntityInfo}
use Rattle.mk_scenario.specs.declared.parts.SimPart.{SimPart}
use Rattle.mk_scenario.specs.declared.parts.Scenario.{Scenario}
use Rattle.mk_connect_pairs.specs.declared.fault.ConnectFault.{ConnectFault}
use Rattle.mk_connect_pairs.specs.declared.models.SimModel.{SimModel}
use Rattle.mk_connect.specs.Asyncs.{asyncs_of}
use Rattle.mk_connect_pairs.specs.Connections.{conns_made}
use Rattle.mk_connect.specs.ByPlace.{by_place}
use Rattle.mk_connect_pairs.specs.Models.{model_number, models_of, plan_model}
use Rattle.mk_connect.specs.Related.{pairs_of, related}

-- the type that a simulator's metadata says, time-based where it isn't there
abbrev pub kind_at : List Meta → ℕ → SimKind
kind_at metas s = unwrap_or (option_map (λ (m : Meta). m.kind) (slice_get metas s)) TimeBased

-- the number at this place, 0 where there is none
abbrev pub number_at : List ℕ → ℕ → ℕ
number_at numbers s = unwrap_or (slice_get numbers s) 0

-- the simulator at this place, by its part of the scenario, its type, its rank and the number of
-- its setup requests
abbrev pub plan_sim : List Meta → List ℕ → List ℕ → ℕ → SimPart → PlanSim
plan_sim metas ranks first_ids s part = record {
  id = part.id;
  kind = kind_at metas s;
  first_id = number_at first_ids s;
  rank = number_at ranks s;
  initial = part.initial;
}

-- an entity, at this place, of so many with these pairs; its model is 0 where it is of none of
-- these
abbrev pub plan_entity : List SimModel → ℕ → List (ℕ × ℕ) → ℕ → EntityInfo → PlanEntity
plan_entity models count pairs i entity = record {
  model = unwrap_or (model_number models entity) 0;
  eid = entity.eid;
  related = related count pairs i;
}

-- the plan of these parts
abbrev pub plan_of : Scenario → List ℕ → List Meta → List ℕ → List SimModel → List PlanEntity
    → List Conn → Plan
plan_of S ranks metas first_ids models entities conns = record {
  until = S.until;
  loops = S.loops;
  entries = S.entries;
  sims = by_place (plan_sim metas ranks first_ids) 0 S.sims;
  models = map plan_model models;
  entities = entities;
  conns = conns;
  asyncs = asyncs_of S.groups S.blocks;
}

-- the plan with these connections
abbrev pub plan_with : Scenario → List ℕ → List Meta → List EntityInfo → List ℕ → List Conn → Plan
plan_with S ranks metas entities first_ids conns =
    plan_of S ranks metas first_ids (models_of metas)
    (by_place (plan_entity (models_of metas) (length entities) (pairs_of entities S.blocks)) 0
    entities) conns

-- the plan, or the first fault
abbrev pub plan_made : Scenario → List ℕ → List Meta → List EntityInfo → List ℕ
    → Result Plan ConnectFault
plan_made S ranks metas entities first_ids = passed
    (conns_made S.sims (models_of metas) entities S.blocks)
    (λ conns. Ok (plan_with S ranks metas entities first_ids conns))
