-- For proofs alone. What is sure of every setup, with what it keeps beside what it is seen as.
use Rattle.std.specs.Prelude.{◌≡◌, ◌≤◌, ℕ, ◌+◌, ◌<◌, true, min, List, length, map, Option, None, Ok, IfSome}
use Rattle.std.specs.List.{range_with_len}
use Rattle.mk_base.specs.Lists.{Each}
use Rattle.mk_plan.specs.declared.Plan.{Plan}
use Rattle.mk_plan.specs.Plans.{IsValidPlan, first_id, sim_count}
use Rattle.mk_meta.specs.declared.meta.Meta.{Meta}
use Rattle.mk_meta.specs.Metadata.{IsListed}
use Rattle.mk_scenario.specs.Wellformed.{IsWellformed}
use Rattle.mk_connect.specs.Complete.{IsOfModel, IsOfGroup}
use Rattle.mk_run_laws.specs.Handshake.{setup_requests, setup_count}
use Rattle.mk_setup.specs.Asking.{plan_of, test_before}
use Rattle.mk_setup.specs.Ranked.{AreRanksOf}
use Rattle.mk_setup.specs.Requests.{id_before, request_of}
use Rattle.mk_setup.specs.Seen.{SetupState}

-- the plan is that of the state, all groups being created: it is valid, has the scenario's simulators,
-- and each one's first id is how many requests it gets before the run
pub record IsPlanOf (U : SetupState) (P : Plan) : Type 0 where
  pub created : length U.scenario.sims + length U.scenario.groups ≤ U.answered
  pub made : plan_of U ≡ Ok P
  pub valid : IsValidPlan P
  pub sims : sim_count P ≡ length U.scenario.sims
  pub first : (i : ℕ) → i < length U.scenario.sims → first_id P i ≡ setup_count U.scenario i

-- the scenario is well-formed and ranked; each id is how many requests to its simulator were answered;
-- an outstanding request is there and has passed its test; each reply to `init` gave its metadata, and
-- their models are listed; entities are of models and groups; and a plan that is kept is the state's
pub record IsSoundSetup (U : SetupState) (ids : List ℕ) (plan : Option Plan) : Type 0 where
  pub wellformed : IsWellformed U.scenario
  pub ranked : AreRanksOf U.scenario U.ranks
  pub within : U.answered ≤ length (setup_requests U.scenario)
  pub awaited : U.asked ≡ true → U.answered < length (setup_requests U.scenario)
  pub tested : U.asked ≡ true → test_before U (request_of U) ≡ None
  pub numbered : ids ≡ map (id_before U.scenario U.answered)
      (range_with_len 0 (length U.scenario.sims))
  pub said : length U.metas ≡ min U.answered (length U.scenario.sims)
  pub listed : Each (λ (m : Meta). IsListed m.models) U.metas
  pub of_models : Each (IsOfModel U.metas) U.entities
  pub of_groups : Each (IsOfGroup U.scenario.groups) U.entities
  pub kept : IfSome plan (IsPlanOf U)
