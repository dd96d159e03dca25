-- Parts of the validity of the plan that is made.
use Rattle.std.proofs.Common.{◌≡◌, ℕ, List, length, None, Ok, sym, ap, ◌∙◌, subst, true, AllPairs}
use Rattle.std.specs.Prelude.{IsSome, is_some, option_map}
use Rattle.mk_base.specs.declared.tier.Via.TheVariants.{Plain, Shift}
use Rattle.mk_base.specs.Texts.{text_of}
use Rattle.mk_base.proofs.Lists.{in_each}
use Rattle.mk_plan.specs.declared.Conn.{Conn}
use Rattle.mk_plan.specs.declared.Plan.{Plan}
use Rattle.mk_plan.specs.declared.PlanEntity.{PlanEntity}
use Rattle.mk_plan.specs.Plans.{HasInitialValues, HasOneConnectionEach, IsOtherWay}
use Rattle.mk_meta.specs.declared.meta.Meta.{Meta}
use Rattle.mk_entities.specs.declared.entities.EntityInfo.{EntityInfo}
use Rattle.mk_scenario.specs.declared.parts.Scenario.{Scenario}
use Rattle.mk_scenario.specs.Wellformed.{IsWellformed, IsWellformedBlock}
use Rattle.mk_connect_pairs.specs.Connections.{conns_made, has_initial}
use Rattle.mk_connect.specs.Made.{plan_of, plan_with}
use Rattle.mk_connect_pairs.specs.Models.{keeps_attr, model_at, models_of, says, triggers_by}
use Rattle.mk_connect.specs.Agreeing.{SourcesAgree, TargetsAgree}
use Rattle.mk_connect_pairs.specs.declared.models.SimModel.{SimModel}
use Rattle.mk_connect.proofs.OverLists.{each_all, each_pairs, each_then, rises_pairs}
use Rattle.mk_connect.proofs.Sound.{AreSoundConns, IsSoundConn, conns_sound, no_member}

module _ (S : Scenario) (ranks : List ℕ) (metas : List Meta) (es : List EntityInfo) (first_ids : List ℕ) (conns : List Conn) (wellformed : IsWellformed S) (made : conns_made S.sims (models_of metas) es S.blocks ≡ Ok conns) where
  abbrev P : Plan
  P = plan_with S ranks metas es first_ids conns

  abbrev sound : AreSoundConns (models_of metas) es S.blocks conns
  sound = conns_sound S.sims (models_of metas) es S.blocks conns made

  -- the third part: each connection goes a way of its own
  pub one_each : HasOneConnectionEach P
  one_each = rises_pairs IsOtherWay conns sound.apart

  initial_so : (c : Conn) → IsSoundConn (models_of metas) es S.blocks c → ((d : ℕ) → c.via ≡ Shift d → c.persistent ≡ true → IsSome c.initial) × (c.via ≡ Plain → c.initial ≡ None)
  initial_so c s = (λ d shifted kept. needed d shifted kept, λ plain. s.initial ∙ ap (option_map text_of) (no_member s.block.initial c.from_attr ((in_each (IsWellformedBlock (length S.sims) S.groups) s.block S.blocks wellformed.blocks s.of_scenario).delayed (sym s.via ∙ plain))))
    where
      needed : (d : ℕ) → c.via ≡ Shift d → c.persistent ≡ true → IsSome c.initial
      needed d shifted kept = sym (λ i. has_initial (shifted i) (kept i) (is_some c.initial)) ∙ s.needed

  -- the fourth part: initial values stand where they have to, and not else
  pub initials : HasInitialValues P
  initials = each_all _ conns (each_then initial_so conns sound.each)

  -- connections of one source, or to one target, agree
  pub sources : AllPairs (λ c d. c.from ≡ d.from → c.from_attr ≡ d.from_attr → c.persistent ≡ d.persistent) conns
  sources = each_pairs (IsSoundConn (models_of metas) es S.blocks) (λ c d. c.from ≡ d.from → c.from_attr ≡ d.from_attr → c.persistent ≡ d.persistent) conns sound.each (λ c d s t from attr. s.persistent ∙ (λ i. says (keeps_attr (attr i)) (model_at (models_of metas) es (from i))) ∙ sym t.persistent)

  pub targets : AllPairs (λ c d. c.to ≡ d.to → c.to_attr ≡ d.to_attr → c.triggering ≡ d.triggering) conns
  targets = each_pairs (IsSoundConn (models_of metas) es S.blocks) (λ c d. c.to ≡ d.to → c.to_attr ≡ d.to_attr → c.triggering ≡ d.triggering) conns sound.each (λ c d s t to attr. s.triggering ∙ (λ i. says (triggers_by (attr i)) (model_at (models_of metas) es (to i))) ∙ sym t.triggering)

-- what is sure of the connections of the plan that is made
pub conns_facts : (S : Scenario) (ranks : List ℕ) (metas : List Meta) (es : List EntityInfo) (first_ids : List ℕ) (models : List SimModel) (entities : List PlanEntity) (conns : List Conn) (Q : Plan)
    → IsWellformed S → models ≡ models_of metas → conns_made S.sims models es S.blocks ≡ Ok conns → Q ≡ plan_of S ranks metas first_ids models entities conns
    → HasOneConnectionEach Q × HasInitialValues Q × SourcesAgree Q × TargetsAgree Q
conns_facts S ranks metas es first_ids models entities conns Q well are made is =
    let base = plan_with S ranks metas es first_ids conns in
    let so : conns_made S.sims (models_of metas) es S.blocks ≡ Ok conns = ap (λ ms. conns_made S.sims ms es S.blocks) (sym are) ∙ made in
    let same : conns ≡ Q.conns = sym (ap (λ (q : Plan). q.conns) is) in (
      subst (λ (cs : List Conn). HasOneConnectionEach (record base { conns = cs })) same (one_each S ranks metas es first_ids conns well so),
      subst (λ (cs : List Conn). HasInitialValues (record base { conns = cs })) same (initials S ranks metas es first_ids conns well so),
      subst (λ (cs : List Conn). SourcesAgree (record base { conns = cs })) same (sources S ranks metas es first_ids conns well so),
      subst (λ (cs : List Conn). TargetsAgree (record base { conns = cs })) same (targets S ranks metas es first_ids conns well so),
    )
