-- What is known of a plan that is made.
use Rattle.std.proofs.Common.{◌≡◌, ℕ, ◌+◌, ◌<◌, List, length, Option, Some, Result, Ok, Err, slice_get, sym, ap, ◌∙◌, arith}
use Rattle.std.specs.Prelude.{option_map, unwrap_or}
use Rattle.mk_base.specs.declared.SimKind.TheVariants.{TimeBased}
use Rattle.mk_base.proofs.Lists.{below_get}
use Rattle.mk_base.specs.Verdicts.{passed}
use Rattle.mk_plan.specs.declared.Conn.{Conn}
use Rattle.mk_plan.specs.declared.Plan.{Plan}
use Rattle.mk_plan.specs.declared.PlanSim.{PlanSim}
use Rattle.mk_plan.specs.Plans.{first_id, kind_of, sim_count}
use Rattle.mk_meta.specs.declared.meta.Meta.{Meta}
use Rattle.mk_entities.specs.declared.entities.EntityInfo.{EntityInfo}
use Rattle.mk_scenario.specs.declared.parts.Scenario.{Scenario}
use Rattle.mk_scenario.specs.declared.parts.SimPart.{SimPart}
use Rattle.mk_connect_pairs.specs.declared.fault.ConnectFault.{ConnectFault}
use Rattle.mk_connect_pairs.specs.Connections.{conns_made}
use Rattle.mk_connect.specs.Made.{number_at, plan_made, plan_sim, plan_with}
use Rattle.mk_connect_pairs.specs.Models.{models_of}
use Rattle.mk_connect.proofs.ByPlaces.{by_place_get, by_place_length}
use Rattle.mk_setup.proofs.Replied.{ok_err, ok_same}

module _ (S : Scenario) (ranks : List ℕ) (metas : List Meta) (entities : List EntityInfo) (first_ids : List ℕ) (P : Plan) (made : plan_made S ranks metas entities first_ids ≡ Ok P) where
  plan_is : (conns : List Conn) × (plan_with S ranks metas entities first_ids conns ≡ P)
  plan_is = go (conns_made S.sims (models_of metas) entities S.blocks) made
    where
      go : (r : Result (List Conn) ConnectFault) → passed r (λ conns. Ok (plan_with S ranks metas entities first_ids conns)) ≡ Ok P → (conns : List Conn) × (plan_with S ranks metas entities first_ids conns ≡ P)
      go (Ok conns) e = (conns, ok_same e)
      go (Err f) e = absurd (ok_err (sym e))

  pub sims_made : sim_count P ≡ length S.sims
  sims_made = ap sim_count (sym plan_is.1) ∙ by_place_length (plan_sim metas ranks first_ids) 0 S.sims

  -- the simulator at a place of the plan
  sim_made : (i : ℕ) → i < length S.sims → (part : SimPart) × (slice_get P.sims i ≡ Some (plan_sim metas ranks first_ids i part))
  sim_made i below =
      let t = below_get S.sims i below in
      (t.0, ap (λ (Q : Plan). slice_get Q.sims i) (sym plan_is.1) ∙ by_place_get (plan_sim metas ranks first_ids) 0 S.sims i ∙ ap (option_map (plan_sim metas ranks first_ids (0 + i))) t.1 ∙ ap (λ (k : ℕ). Some (plan_sim metas ranks first_ids k t.0)) (nothing i))
    where
      nothing : (i : ℕ) → 0 + i ≡ i
      nothing i = omega arith

  pub first_made : (i : ℕ) → i < length S.sims → first_id P i ≡ number_at first_ids i
  first_made i below = ap (λ (o : Option PlanSim). unwrap_or (option_map (λ (s : PlanSim). s.first_id) o) 0) (sim_made i below).1

  pub kind_made : (i : ℕ) (meta : Meta) → i < length S.sims → slice_get metas i ≡ Some meta → kind_of P i ≡ meta.kind
  kind_made i meta below said = ap (λ (o : Option PlanSim). unwrap_or (option_map (λ (s : PlanSim). s.kind) o) TimeBased) (sim_made i below).1
      ∙ ap (λ (o : Option Meta). unwrap_or (option_map (λ (m : Meta). m.kind) o) TimeBased) said
