-- For proofs alone. Beside `Readable`, which has what a reader needs.
use Rattle.std.specs.Prelude.{◌≡◌, true}
use Rattle.std.specs.List.{list_all}
use Rattle.std.specs.Str.{is_utf8}
use Rattle.mk_plan.specs.declared.Plan.{Plan}
use Rattle.mk_plan.specs.declared.PlanSim.{PlanSim}
use Rattle.mk_plan.specs.declared.PlanEntity.{PlanEntity}
use Rattle.mk_record_laws.specs.Again.{conn_is_text, model_is_text}

-- the names and attributes in a plan are UTF-8
pub record HasNames (P : Plan) : Type 0 where
  pub sims : list_all (λ (s : PlanSim). is_utf8 s.id) P.sims ≡ true
  pub models : list_all model_is_text P.models ≡ true
  pub entities : list_all (λ (e : PlanEntity). is_utf8 e.eid) P.entities ≡ true
  pub conns : list_all conn_is_text P.conns ≡ true
