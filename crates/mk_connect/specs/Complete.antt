-- What is known of what a plan is made of, beside a well-formed scenario, once every simulator has
-- answered.
use Rattle.std.specs.Prelude.{◌≡◌, ℕ, ◌≤◌, Bool, true, List, length, Some, IfSome, option_map, slice_get}
use Rattle.std.specs.List.{list_any}
use Rattle.mk_base.specs.Lists.{Each, same_text}
use Rattle.mk_cycles.specs.Edges.{has_edge}
use Rattle.mk_cycles.specs.Orders.{IsRanking}
use Rattle.mk_cycles.specs.Outcomes.{IsEachOnce, IsRising}
use Rattle.mk_meta.specs.declared.meta.ModelMeta.{ModelMeta}
use Rattle.mk_meta.specs.declared.meta.Meta.{Meta}
use Rattle.mk_meta.specs.Metadata.{IsListed}
use Rattle.mk_entities.specs.declared.entities.EntityInfo.{EntityInfo}
use Rattle.mk_scenario.specs.declared.parts.Group.{Group}
use Rattle.mk_scenario.specs.declared.parts.Scenario.{Scenario}
use Rattle.mk_connect.specs.Edges.{edges_of}
use Rattle.mk_base.specs.Limits.{most_requests}

-- a model has this name
abbrev pub has_model : List ℕ → Meta → Bool
has_model name meta = list_any (λ (m : ModelMeta). same_text m.name name) meta.models

-- the entity is of a model of its simulator
abbrev pub IsOfModel : List Meta → EntityInfo → Type 0
IsOfModel metas e = option_map (has_model e.model) (slice_get metas e.sim.0) ≡ Some true

-- the entity, unless it is a child, was created for a group of its simulator
abbrev pub IsOfGroup : List Group → EntityInfo → Type 0
IsOfGroup groups e = IfSome e.group (λ g. option_map (λ (h : Group). h.sim) (slice_get groups g)
    ≡ Some e.sim)

-- the ranks are those of the scenario's edges; each simulator has said what it is, its models in
-- byte order and few enough; none got too many requests, of one whose first id isn't told this is
-- sure; and entities are of models and groups of their simulators
pub record IsComplete (S : Scenario) (ranks : List ℕ) (metas : List Meta)
    (entities : List EntityInfo) (first_ids : List ℕ) : Type 0 where
  pub ranking : IsRanking (has_edge (edges_of S)) (length S.sims) ranks
  pub each_once : IsEachOnce (length S.sims) ranks
  pub rising : IsRising (edges_of S) ranks
  pub said : length metas ≡ length S.sims
  pub listed : Each (λ (m : Meta). IsListed m.models) metas
  pub few_requests : Each (λ n. n ≤ most_requests) first_ids
  pub of_models : Each (IsOfModel metas) entities
  pub of_groups : Each (IsOfGroup S.groups) entities
