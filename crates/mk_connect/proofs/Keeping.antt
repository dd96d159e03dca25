-- Whether connections of the plan that is made keep their values and trigger fits the types of
-- their simulators.
use Rattle.std.proofs.Common.{◌≡◌, ℕ, ◌<◌, true, false, List, length, Option, Some, sym, ap, ◌∙◌, slice_get, arith}
use Rattle.std.specs.Prelude.{option_and_then}
use Rattle.mk_base.specs.declared.SimKind.TheVariants.{TimeBased, EventBased}
use Rattle.mk_base.proofs.Lists.{at_in, in_each}
use Rattle.mk_plan.specs.declared.Conn.{Conn}
use Rattle.mk_plan.specs.declared.Plan.{Plan}
use Rattle.mk_plan.specs.Plans.{HasKindsOfConnections, kind_of, owner}
use Rattle.mk_meta.specs.declared.meta.Meta.{Meta}
use Rattle.mk_entities.specs.declared.entities.EntityInfo.{EntityInfo}
use Rattle.mk_scenario.specs.declared.parts.Scenario.{Scenario}
use Rattle.mk_connect.specs.Complete.{IsComplete, IsOfModel}
use Rattle.mk_connect.specs.Made.{plan_with}
use Rattle.mk_connect_pairs.specs.Models.{is_persistent, is_triggering, keeps_attr, model_at, model_number, models_of, says, triggers_by}
use Rattle.mk_connect.specs.Agreeing.{SourcesAgree, TargetsAgree}
use Rattle.mk_connect_pairs.specs.declared.models.SimModel.{SimModel}
use Rattle.mk_connect.proofs.OverLists.{each_all, each_then}
use Rattle.mk_connect.proofs.Owners.{end_is, kind_is, owned, owner_is}
use Rattle.mk_connect.proofs.Sound.{AreSoundConns, IsSoundConn}

module _ (S : Scenario) (ranks : List ℕ) (metas : List Meta) (es : List EntityInfo) (first_ids : List ℕ) (conns : List Conn) (known : IsComplete S ranks metas es first_ids) where
  abbrev P : Plan
  P = plan_with S ranks metas es first_ids conns

  -- the model of an entity, of the same type as its owner
  model_of : (i : ℕ) (e : EntityInfo) → slice_get es i ≡ Some e → (m : SimModel) × (model_at (models_of metas) es i ≡ Some m) × (kind_of P (owner P i) ≡ m.kind)
  model_of i e is =
      let of = in_each (IsOfModel metas) e es known.of_models (at_in e es i is) in
      let o = owned metas e of in
      let within : e.sim.0 < length S.sims = let a = o.within in let b = known.said in omega arith in (
        o.model,
        ap (λ (x : Option EntityInfo). option_and_then (slice_get (models_of metas)) (option_and_then (model_number (models_of metas)) x)) is
            ∙ ap (option_and_then (slice_get (models_of metas))) o.number_is ∙ o.model_is,
        ap (kind_of P) (owner_is S ranks metas es first_ids conns i e is of) ∙ kind_is S ranks metas es first_ids conns e.sim.0 within ∙ o.kind,
      )

  persists : (c : Conn) → IsSoundConn (models_of metas) es S.blocks c → (kind_of P (owner P c.from) ≡ TimeBased → c.persistent ≡ true) × (kind_of P (owner P c.from) ≡ EventBased → c.persistent ≡ false)
  persists c s =
      let e = end_is S.groups es s.block.from c.from known.of_groups s.from in
      let m = model_of c.from e.0 e.1 in
      let so : c.persistent ≡ keeps_attr c.from_attr m.0 = s.persistent ∙ ap (says (keeps_attr c.from_attr)) m.1 in
      (λ time. so ∙ ap (λ k. is_persistent c.from_attr k m.0.events) (sym m.2 ∙ time), λ event. so ∙ ap (λ k. is_persistent c.from_attr k m.0.events) (sym m.2 ∙ event))

  triggers : (c : Conn) → IsSoundConn (models_of metas) es S.blocks c → (kind_of P (owner P c.to) ≡ TimeBased → c.triggering ≡ false) × (kind_of P (owner P c.to) ≡ EventBased → c.triggering ≡ true)
  triggers c s =
      let e = end_is S.groups es s.block.to c.to known.of_groups s.to in
      let m = model_of c.to e.0 e.1 in
      let so : c.triggering ≡ triggers_by c.to_attr m.0 = s.triggering ∙ ap (says (triggers_by c.to_attr)) m.1 in
      (λ time. so ∙ ap (λ k. is_triggering c.to_attr k m.0.trigger) (sym m.2 ∙ time), λ event. so ∙ ap (λ k. is_triggering c.to_attr k m.0.trigger) (sym m.2 ∙ event))

  pub kinds_made : AreSoundConns (models_of metas) es S.blocks conns → SourcesAgree P → TargetsAgree P → HasKindsOfConnections P
  kinds_made sound sources targets = record {
    persistent = each_all _ conns (each_then persists conns sound.each);
    of_source = sources;
    triggering = each_all _ conns (each_then triggers conns sound.each);
    of_target = targets;
  }
