-- The plan that is made is valid.
use Rattle.std.proofs.Common.{◌≡◌, ◌≤◌, ℕ, List, length, Ok, sym, ap, ◌∙◌, subst}
use Rattle.mk_plan.specs.declared.Conn.{Conn}
use Rattle.mk_plan.specs.declared.Plan.{Plan}
use Rattle.mk_plan.specs.declared.PlanEntity.{PlanEntity}
use Rattle.mk_plan.specs.Plans.{IsValidPlan}
use Rattle.mk_meta.specs.declared.meta.Meta.{Meta}
use Rattle.mk_entities.specs.declared.entities.EntityInfo.{EntityInfo}
use Rattle.mk_entities.specs.Sound.{AreSound}
use Rattle.mk_entities.specs.Tied.{AreFirst}
use Rattle.mk_scenario.specs.declared.parts.Scenario.{Scenario}
use Rattle.mk_scenario.specs.Wellformed.{IsWellformed}
use Rattle.mk_connect.specs.ByPlace.{by_place}
use Rattle.mk_connect.specs.Complete.{IsComplete}
use Rattle.mk_connect_pairs.specs.Connections.{conns_made}
use Rattle.mk_connect.specs.Made.{plan_entity, plan_of, plan_with}
use Rattle.mk_connect_pairs.specs.Models.{models_of}
use Rattle.mk_connect.specs.Related.{pairs_of}
use Rattle.mk_connect_pairs.specs.declared.models.SimModel.{SimModel}
use Rattle.mk_connect.proofs.Keeping.{kinds_made}
use Rattle.mk_connect.proofs.Limited.{limits_made}
use Rattle.mk_connect.proofs.Named.{names_made}
use Rattle.mk_connect.proofs.Ranked.{ranks_made}
use Rattle.mk_connect.proofs.Referring.{references_made}
use Rattle.mk_connect.proofs.Sound.{conns_sound}
use Rattle.mk_connect.proofs.Validity.{initials, one_each, sources, targets}
use Rattle.mk_base.specs.Limits.{most_entities}

module _ (S : Scenario) (ranks : List ℕ) (metas : List Meta) (es : List EntityInfo) (first_ids : List ℕ) (conns : List Conn) (wellformed : IsWellformed S) (made : conns_made S.sims (models_of metas) es S.blocks ≡ Ok conns) where
  valid : length es ≤ most_entities → AreFirst es → AreSound es → IsComplete S ranks metas es first_ids → IsValidPlan (plan_with S ranks metas es first_ids conns)
  valid few found proper known =
      let sound = conns_sound S.sims (models_of metas) es S.blocks conns made in
      record {
        well_formed = record {
          limits = limits_made S ranks metas es first_ids conns wellformed known sound few;
          references = references_made S ranks metas es first_ids conns wellformed known sound;
          names = names_made S ranks metas es first_ids conns wellformed known found proper;
        };
        ranks = ranks_made S ranks metas es first_ids conns wellformed known sound;
        connections = one_each S ranks metas es first_ids conns wellformed made;
        initials = initials S ranks metas es first_ids conns wellformed made;
        kinds = kinds_made S ranks metas es first_ids conns known sound (sources S ranks metas es first_ids conns wellformed made) (targets S ranks metas es first_ids conns wellformed made);
      }

-- a plan of these parts is valid
pub valid_plan : (S : Scenario) (ranks : List ℕ) (metas : List Meta) (es : List EntityInfo) (first_ids : List ℕ) (models : List SimModel) (entities : List PlanEntity) (conns : List Conn) (Q : Plan)
    → IsWellformed S → models ≡ models_of metas → conns_made S.sims models es S.blocks ≡ Ok conns → entities ≡ by_place (plan_entity models (length es) (pairs_of es S.blocks)) 0 es → Q ≡ plan_of S ranks metas first_ids models entities conns
    → length es ≤ most_entities → AreFirst es → AreSound es → IsComplete S ranks metas es first_ids → IsValidPlan Q
valid_plan S ranks metas es first_ids models entities conns Q well are made listed is few found proper known =
    let so : conns_made S.sims (models_of metas) es S.blocks ≡ Ok conns = ap (λ ms. conns_made S.sims ms es S.blocks) (sym are) ∙ made in
    let own : entities ≡ by_place (plan_entity (models_of metas) (length es) (pairs_of es S.blocks)) 0 es = listed ∙ ap (λ ms. by_place (plan_entity ms (length es) (pairs_of es S.blocks)) 0 es) are in
    subst IsValidPlan (sym (is ∙ (λ i. plan_of S ranks metas first_ids (are i) (own i) conns))) (valid S ranks metas es first_ids conns well so few found proper known)
