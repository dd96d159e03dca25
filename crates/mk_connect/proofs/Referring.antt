-- Each number in the plan that is made is that of a part of it.
use Rattle.std.proofs.Common.{◌≡◌, ℕ, ◌<◌, List, length, Some, sym, ap, ◌∙◌, subst, arith, slice_get, unwrap_or, All}
use Rattle.std.specs.Prelude.{Option}
use Rattle.std.specs.List.{range_with_len}
use Rattle.std.proofs.lemmas.List.{length-map}
use Rattle.mk_base.specs.Lists.{IsIn}
use Rattle.mk_base.proofs.Lists.{at_in, each_in, get_is, in_each, in_filter, in_map, in_range}
use Rattle.mk_plan.specs.declared.AsyncPair.{AsyncPair}
use Rattle.mk_plan.specs.declared.Conn.{Conn}
use Rattle.mk_plan.specs.declared.Plan.{Plan}
use Rattle.mk_plan.specs.declared.PlanEntity.{PlanEntity}
use Rattle.mk_plan.specs.declared.PlanModel.{PlanModel}
use Rattle.mk_plan.specs.Plans.{RefersInside}
use Rattle.mk_meta.specs.declared.meta.Meta.{Meta}
use Rattle.mk_entities.specs.declared.entities.EntityInfo.{EntityInfo}
use Rattle.mk_scenario.specs.declared.parts.Scenario.{Scenario}
use Rattle.mk_scenario.specs.Wellformed.{IsWellformed, IsWellformedBlock}
use Rattle.mk_connect.specs.Complete.{IsComplete, IsOfModel}
use Rattle.mk_connect.specs.Made.{plan_entity, plan_sim, plan_with}
use Rattle.mk_connect_pairs.specs.Models.{models_of, plan_model}
use Rattle.mk_connect.specs.Related.{is_related, pairs_of, related}
use Rattle.mk_connect.proofs.Below.{place_below}
use Rattle.mk_connect.proofs.ByPlaces.{by_place_length}
use Rattle.mk_connect.proofs.OverLists.{all_of, each_all, each_then}
use Rattle.mk_connect.proofs.Owners.{end_is, made_at, model_from, owned}
use Rattle.mk_connect.proofs.Ranked.{async_is}
use Rattle.mk_connect.proofs.Sound.{AreSoundConns, IsSoundConn}

module _ (S : Scenario) (ranks : List ℕ) (metas : List Meta) (es : List EntityInfo) (first_ids : List ℕ) (conns : List Conn) (wellformed : IsWellformed S) (known : IsComplete S ranks metas es first_ids) where
  abbrev P : Plan
  P = plan_with S ranks metas es first_ids conns

  abbrev entity_of : ℕ → EntityInfo → PlanEntity
  entity_of = plan_entity (models_of metas) (length es) (pairs_of es S.blocks)

  count_sims : length P.sims ≡ length S.sims
  count_sims = by_place_length (plan_sim metas ranks first_ids) 0 S.sims

  count_entities : length P.entities ≡ length es
  count_entities = by_place_length entity_of 0 es

  sim_below : (s : ℕ) → s < length S.sims → s < length P.sims
  sim_below s within = let same = count_sims in omega arith

  model_below : (m : PlanModel) → IsIn m P.models → m.sim.0 < length P.sims
  model_below m inside =
      let t = in_map plan_model m (models_of metas) inside in
      let f = model_from 0 metas t.0 t.1 in
      let same : m.sim.0 ≡ t.0.sim.0 = ap (λ (k : PlanModel). k.sim.0) t.2 in
      let at = f.sim in
      let within = (get_is metas f.place f.meta f.said).0 in
      let said = known.said in
      sim_below m.sim.0 (omega arith)

  related_below : (i : ℕ) → All (λ (r : ℕ). r < length P.entities) (related (length es) (pairs_of es S.blocks) i)
  related_below i = each_all (λ (r : ℕ). r < length P.entities) (related (length es) (pairs_of es S.blocks) i) (each_in (λ (r : ℕ). r < length P.entities) (related (length es) (pairs_of es S.blocks) i) (λ r inside.
      let t = in_filter (is_related (pairs_of es S.blocks) i) r (range_with_len 0 (length es)) inside in
      let below = (in_range r 0 (length es) t.0).1 in
      let same = count_entities in
      omega arith))

  entity_inside : (i : ℕ) (x : PlanEntity) → slice_get P.entities i ≡ Some x → (x.model < length P.models) × All (λ (r : ℕ). r < length P.entities) x.related
  entity_inside i x is =
      let t = made_at entity_of es i x is in
      let o = owned metas t.0 (in_each (IsOfModel metas) t.0 es known.of_models (at_in t.0 es i t.1)) in
      let number : x.model ≡ o.number = ap (λ (n : PlanEntity). n.model) t.2 ∙ ap (λ (n : Option ℕ). unwrap_or n 0) o.number_is in
      let below = (get_is (models_of metas) o.number o.model o.model_is).0 in
      let long = length-map (models_of metas) plan_model in
      (omega arith, subst (λ (l : List ℕ). All (λ (r : ℕ). r < length P.entities) l) (sym (ap (λ (n : PlanEntity). n.related) t.2)) (related_below i))

  conn_inside : (c : Conn) → IsSoundConn (models_of metas) es S.blocks c → (c.from < length P.entities) × (c.to < length P.entities)
  conn_inside c s =
      let from = end_is S.groups es s.block.from c.from known.of_groups s.from in
      let to = end_is S.groups es s.block.to c.to known.of_groups s.to in
      let same = count_entities in
      let first = (get_is es c.from from.0 from.1).0 in
      let second = (get_is es c.to to.0 to.1).0 in
      (omega arith, omega arith)

  async_inside : (p : AsyncPair) → IsIn p P.asyncs → (p.from.0 < length P.sims) × (p.to.0 < length P.sims)
  async_inside p inside =
      let a = async_is S.groups S.blocks p inside in
      let w = in_each (IsWellformedBlock (length S.sims) S.groups) a.block S.blocks wellformed.blocks a.of_scenario in
      let from = place_below (length S.sims) S.groups a.block.from wellformed.groups w.from in
      let to = place_below (length S.sims) S.groups a.block.to wellformed.groups w.to in
      let first = a.from in
      let second = a.to in
      (sim_below p.from.0 (omega arith), sim_below p.to.0 (omega arith))

  pub references_made : AreSoundConns (models_of metas) es S.blocks conns → RefersInside P
  references_made sound = record {
    models = each_all (λ m. m.sim.0 < length P.sims) P.models (each_in (λ m. m.sim.0 < length P.sims) P.models model_below);
    entities = all_of (λ n. (n.model < length P.models) × All (λ (r : ℕ). r < length P.entities) n.related) P.entities entity_inside;
    conns = each_all (λ c. (c.from < length P.entities) × (c.to < length P.entities)) conns (each_then conn_inside conns sound.each);
    asyncs = each_all (λ p. (p.from.0 < length P.sims) × (p.to.0 < length P.sims)) P.asyncs (each_in (λ p. (p.from.0 < length P.sims) × (p.to.0 < length P.sims)) P.asyncs async_inside);
  }
