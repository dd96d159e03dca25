-- The plan of what is kept.
use Rattle.std.proofs.Common.{◌≡◌, ℕ, ◌+◌, ◌<◌, ◌≤◌, List, length, Option, Result, Ok, Err, sym, ap, ◌∙◌, subst, arith, IfOk}
use Rattle.std.specs.Prelude.{unwrap_or}
use Rattle.std.specs.List.{range_with_len}
use Rattle.mk_base.proofs.Lists.{each_in, in_map}
use Rattle.mk_plan.specs.declared.Plan.{Plan}
use Rattle.mk_plan.specs.Plans.{IsValidPlan}
use Rattle.mk_connect_pairs.specs.declared.fault.ConnectFault.{ConnectFault}
use Rattle.mk_connect.specs.Complete.{IsComplete}
use Rattle.mk_connect.specs.Made.{number_at, plan_made}
use Rattle.mk_connect.proofs.ByPlaces.{range_get}
use Rattle.mk_scenario.specs.declared.parts.Scenario.{Scenario}
use Rattle.mk_run_laws.specs.Handshake.{setup_count}
use Rattle.mk_setup.specs.Asking.{plan_of}
use Rattle.mk_setup.specs.Requests.{first_ids}
use Rattle.mk_setup.specs.Seen.{SetupState}
use Rattle.mk_setup.specs.inner.Standing.{IsPlanOf, IsSoundSetup}
use Rattle.mk_setup.proofs.Counting.{count_few, few_requests}
use Rattle.mk_setup.proofs.Planned.{first_made, sims_made}
use Rattle.mk_base.specs.Limits.{most_requests}

-- what a plan is made of is complete once all groups are created
pub complete : (U : SetupState) (ids : List ℕ) (plan : Option Plan) → IsSoundSetup U ids plan → length U.scenario.sims + length U.scenario.groups ≤ U.answered → IsComplete U.scenario U.ranks U.metas U.entities (first_ids U.scenario)
complete U ids plan s late = record {
  ranking = s.ranked.ranking;
  each_once = s.ranked.each_once;
  rising = s.ranked.rising;
  said = let b = s.said in omega arith;
  listed = s.listed;
  few_requests = each_in (λ n. n ≤ most_requests) (first_ids U.scenario) (λ n m. let t = in_map (setup_count U.scenario) n (range_with_len 0 (length U.scenario.sims)) m in
      let e : n ≡ setup_count U.scenario t.0 = t.2 in
      let f = count_few U.scenario t.0 in
      let w = few_requests U.scenario s.wellformed in
      omega arith);
  of_models = s.of_models;
  of_groups = s.of_groups;
}

first_is : (S : Scenario) (i : ℕ) → i < length S.sims → number_at (first_ids S) i ≡ setup_count S i
first_is S i below = ap (λ (o : Option ℕ). unwrap_or o 0) (range_get (setup_count S) 0 (length S.sims) i below) ∙ ap (setup_count S) (nothing i)
  where
    nothing : (i : ℕ) → 0 + i ≡ i
    nothing i = omega arith

pub plan_ok : (U : SetupState) (ids : List ℕ) (plan : Option Plan) (P : Plan) → IsSoundSetup U ids plan → length U.scenario.sims + length U.scenario.groups ≤ U.answered → plan_of U ≡ Ok P → (IsComplete U.scenario U.ranks U.metas U.entities (first_ids U.scenario) → IsValidPlan P) → IsPlanOf U P
plan_ok U ids plan P s late made valid = record {
  created = late;
  made = made;
  valid = valid (complete U ids plan s late);
  sims = sims_made U.scenario U.ranks U.metas U.entities (first_ids U.scenario) P made;
  first = λ i below. first_made U.scenario U.ranks U.metas U.entities (first_ids U.scenario) P made i below ∙ first_is U.scenario i below;
}

-- the plan that is made with these ids
pub plan_result : (U : SetupState) (ids given : List ℕ) (plan : Option Plan) (r : Result Plan ConnectFault) → IsSoundSetup U ids plan → length U.scenario.sims + length U.scenario.groups ≤ U.answered → given ≡ first_ids U.scenario
    → IfOk r (λ P. plan_made U.scenario U.ranks U.metas U.entities given ≡ Ok P) → IfOk r (λ P. IsComplete U.scenario U.ranks U.metas U.entities given → IsValidPlan P) → IfOk r (λ P. IsPlanOf U P)
plan_result U ids given plan (Ok P) s late are made valid = plan_ok U ids plan P s late (ap (plan_made U.scenario U.ranks U.metas U.entities) (sym are) ∙ made) (λ c. valid (subst (IsComplete U.scenario U.ranks U.metas U.entities) (sym are) c))
plan_result U ids given plan (Err e) s late are made valid = tt
