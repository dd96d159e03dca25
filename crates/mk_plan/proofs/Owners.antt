-- The simulator of an entity is one of the plan's.
use Rattle.std.proofs.Common.{ℕ, ◌<◌, length, slice_get, Option, option_map, unwrap_or, sym, ap, ◌∙◌, subst}
use Rattle.std.specs.Prelude.{All, option_and_then}
use Rattle.mk_base.proofs.Lists.{below_get, all_at}
use Rattle.mk_plan.specs.declared.Plan.{Plan}
use Rattle.mk_plan.specs.declared.PlanEntity.{PlanEntity}
use Rattle.mk_plan.specs.declared.PlanModel.{PlanModel}
use Rattle.mk_plan.specs.Plans.{sim_count, owner, RefersInside}

pub owner_is_below : (P : Plan) → RefersInside P → (e : ℕ) → e < length P.entities → owner P e < sim_count P
owner_is_below P refers e low =
    let n = below_get P.entities e low in
    let inside = all_at (λ (n : PlanEntity). (n.model < length P.models) × All (λ (r : ℕ). r < length P.entities) n.related) P.entities e n.0 refers.entities n.1 in
    let m = below_get P.models n.0.model inside.0 in
    let there = all_at (λ (m : PlanModel). m.sim.0 < length P.sims) P.models n.0.model m.0 refers.models m.1 in
    subst (λ (k : ℕ). k < sim_count P) (sym (ap (λ (o : Option PlanEntity). unwrap_or (option_and_then (λ n. option_map (λ m. m.sim.0) (slice_get P.models n.model)) o) (sim_count P)) n.1 ∙ ap (λ (o : Option PlanModel). unwrap_or (option_map (λ m. m.sim.0) o) (sim_count P)) m.1)) there
