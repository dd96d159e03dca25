-- The models of all simulators, in simulator order and in each as its metadata has them, and the
-- model of an entity.
use Rattle.std.specs.Prelude.{ℕ, suc, Bool, true, false, not, ◌&&◌, ◌||◌, ◌==◌, List, [], ◌∷◌, ◌++◌, map, Option, option_map, option_and_then, unwrap_or, slice_get, position}
use Rattle.mk_base.specs.declared.SimNo.{SimNo}
use Rattle.mk_base.specs.declared.SimKind.{SimKind}
use Rattle.mk_base.specs.declared.SimKind.TheVariants.{TimeBased, EventBased, Hybrid}
use Rattle.mk_base.specs.Lists.{is_among, same_text}
use Rattle.mk_plan.specs.declared.PlanModel.{PlanModel}
use Rattle.mk_meta.specs.declared.meta.ModelMeta.{ModelMeta}
use Rattle.mk_meta.specs.declared.meta.Meta.{Meta}
use Rattle.mk_entities.specs.declared.entities.EntityInfo.{EntityInfo}
use Rattle.mk_connect_pairs.specs.declared.models.SimModel.{SimModel}

-- a model of the simulator of this number and type
abbrev pub sim_model : ℕ → SimKind → ModelMeta → SimModel
sim_model s kind m = record {
  sim = record { 0 = s };
  kind = kind;
  name = m.name;
  any_inputs = m.any_inputs;
  attrs = m.attrs;
  trigger = m.trigger;
  events = m.events;
}

-- the models of simulators that are numbered from s
abbrev pub models_from : ℕ → List Meta → List SimModel
models_from s [] = []
models_from s (meta ∷ metas) = map (sim_model s meta.kind) meta.models ++ models_from (suc s) metas

-- the models of all simulators
abbrev pub models_of : List Meta → List SimModel
models_of metas = models_from 0 metas

-- the model is the simulator's, and has this name
abbrev pub is_model : SimNo → List ℕ → SimModel → Bool
is_model sim name m = (m.sim.0 == sim.0) && same_text m.name name

-- the number of an entity's model among all
abbrev pub model_number : List SimModel → EntityInfo → Option ℕ
model_number models entity = position (is_model entity.sim entity.model) models

-- the model of the entity at this place
abbrev pub model_at : List SimModel → List EntityInfo → ℕ → Option SimModel
model_at models entities i = option_and_then (slice_get models)
    (option_and_then (model_number models) (slice_get entities i))

-- what a model says, if there is one
abbrev pub says : (SimModel → Bool) → Option SimModel → Bool
says test model = unwrap_or (option_map test model) false

abbrev pub has_attr : List ℕ → SimModel → Bool
has_attr attr m = is_among m.attrs attr

-- an input is an attribute, or any that the model takes
abbrev pub takes_attr : List ℕ → SimModel → Bool
takes_attr attr m = m.any_inputs || is_among m.attrs attr

-- an output keeps its value: of a time-based simulator always, of an event-based one never, of a
-- hybrid one unless it is an event
abbrev pub is_persistent : List ℕ → SimKind → List (List ℕ) → Bool
is_persistent attr TimeBased events = true
is_persistent attr EventBased events = false
is_persistent attr Hybrid events = not (is_among events attr)

abbrev pub keeps_attr : List ℕ → SimModel → Bool
keeps_attr attr m = is_persistent attr m.kind m.events

-- an input makes its simulator step: of a time-based one never, of an event-based one always, of a
-- hybrid one if it is said to
abbrev pub is_triggering : List ℕ → SimKind → List (List ℕ) → Bool
is_triggering attr TimeBased trigger = false
is_triggering attr EventBased trigger = true
is_triggering attr Hybrid trigger = is_among trigger attr

abbrev pub triggers_by : List ℕ → SimModel → Bool
triggers_by attr m = is_triggering attr m.kind m.trigger

-- a model as the plan has it
abbrev pub plan_model : SimModel → PlanModel
plan_model m = record { sim = m.sim; name = m.name; attrs = m.attrs; any_inputs = m.any_inputs }
