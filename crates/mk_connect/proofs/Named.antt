-- The simulators of the plan that is made, and the entities of each, have names of their own.
use Rattle.std.proofs.Common.{◌≡◌, ◌≢◌, ℕ, zero, suc, ◌<◌, not, List, [], ◌∷◌, length, Some, refl, sym, ap, ◌∙◌, subst, arith, slice_get, get_or, All, AllPairs, codes, true≢false}
use Rattle.std.specs.Prelude.{IsTrue}
use Rattle.std.proofs.lemmas.Bool.{and_parts}
use Rattle.mk_base.specs.Lists.{Each, same_text}
use Rattle.mk_base.proofs.Lists.{at_in, below_get, get_is, in_each, some_same}
use Rattle.mk_base.specs.Names.{is_eid}
use Rattle.mk_plan.specs.declared.Conn.{Conn}
use Rattle.mk_plan.specs.declared.Plan.{Plan}
use Rattle.mk_plan.specs.declared.PlanEntity.{PlanEntity}
use Rattle.mk_plan.specs.declared.PlanSim.{PlanSim}
use Rattle.mk_plan.specs.Plans.{HasDistinctNames, dot}
use Rattle.mk_meta.specs.declared.meta.Meta.{Meta}
use Rattle.mk_entities.specs.declared.entities.EntityInfo.{EntityInfo}
use Rattle.mk_entities.specs.Creation.{entity_number}
use Rattle.mk_entities.specs.Sound.{AreSound, IsSound}
use Rattle.mk_entities.specs.Tied.{AreFirst}
use Rattle.mk_scenario.specs.declared.parts.Scenario.{Scenario}
use Rattle.mk_scenario.specs.declared.parts.SimPart.{SimPart}
use Rattle.mk_scenario.specs.Wellformed.{IsWellformed}
use Rattle.mk_scenario.proofs.IdFacts.{sims_differ, sims_without_dots}
use Rattle.mk_connect.specs.Complete.{IsComplete, IsOfModel}
use Rattle.mk_connect.specs.Made.{plan_entity, plan_sim, plan_with}
use Rattle.mk_connect_pairs.specs.Models.{models_of}
use Rattle.mk_connect.specs.Related.{pairs_of}
use Rattle.mk_connect.proofs.ByPlaces.{by_place_length}
use Rattle.mk_connect.proofs.OverLists.{all_of, each_all, pairs_of as over_pairs}
use Rattle.mk_connect.proofs.Owners.{eid_is, made_at, owner_is}
use Rattle.mk_base.proofs.Bools.{not_true}
use Rattle.mk_base.proofs.Items.{same_text_self}

proper : (eid : List ℕ) → IsTrue (is_eid eid) → (eid ≢ []) × (eid ≢ codes "time")
proper eid is =
    let t = and_parts (not (same_text eid [])) (not (same_text eid (codes "time"))) is in (
      λ same. true≢false (sym (ap (λ (e : List ℕ). same_text e []) same) ∙ not_true (same_text eid []) t.0),
      λ same. true≢false (sym (ap (λ (e : List ℕ). same_text e (codes "time")) same ∙ same_text_self (codes "time")) ∙ not_true (same_text eid (codes "time")) t.1),
    )

module _ (S : Scenario) (ranks : List ℕ) (metas : List Meta) (es : List EntityInfo) (first_ids : List ℕ) (conns : List Conn) (wellformed : IsWellformed S) (known : IsComplete S ranks metas es first_ids) where
  abbrev P : Plan
  P = plan_with S ranks metas es first_ids conns

  abbrev entity_of : ℕ → EntityInfo → PlanEntity
  entity_of = plan_entity (models_of metas) (length es) (pairs_of es S.blocks)

  sims_apart : AllPairs (λ (s t : PlanSim). s.id ≢ t.id) P.sims
  sims_apart = over_pairs (λ (s t : PlanSim). s.id ≢ t.id) P.sims (λ i j x y before first second.
      let a = made_at (plan_sim metas ranks first_ids) S.sims i x first in
      let b = made_at (plan_sim metas ranks first_ids) S.sims j y second in
      λ same. differ i j a.0 b.0 before a.1 b.1 (sym (ap (λ (s : PlanSim). s.id) a.2) ∙ same ∙ ap (λ (s : PlanSim). s.id) b.2))
    where
      same_default : {X : Type 0} (xs : List X) (i : ℕ) (d e : X) → i < length xs → get_or xs i d ≡ get_or xs i e
      same_default [] i d e below = absurd (omega arith)
      same_default (x ∷ xs) zero d e below = refl
      same_default (x ∷ xs) (suc i) d e below = same_default xs i d e (omega arith)

      differ : (i j : ℕ) (a b : SimPart) → i < j → slice_get S.sims i ≡ Some a → slice_get S.sims j ≡ Some b → a.id ≢ b.id
      differ i j a b before first second same =
          let from = get_is S.sims i a first in
          let to = get_is S.sims j b second in
          sims_differ S wellformed i j a before to.0 (ap (λ (s : SimPart). s.id) from.1 ∙ same ∙ sym (ap (λ (s : SimPart). s.id) (same_default S.sims j a b to.0 ∙ to.1)))

  no_dots : All (λ (s : PlanSim). All (λ (b : ℕ). b ≢ dot) s.id) P.sims
  no_dots = all_of (λ (s : PlanSim). All (λ (b : ℕ). b ≢ dot) s.id) P.sims (λ i x is.
      let t = made_at (plan_sim metas ranks first_ids) S.sims i x is in
      let from = get_is S.sims i t.0 t.1 in
      let each = subst (λ (s : SimPart). Each (λ (b : ℕ). b ≢ dot) s.id) from.1 (sims_without_dots S wellformed i t.0 from.0) in
      subst (λ (id : List ℕ). All (λ (b : ℕ). b ≢ dot) id) (sym (ap (λ (s : PlanSim). s.id) t.2)) (each_all (λ (b : ℕ). b ≢ dot) t.0.id each))

  pub names_made : AreFirst es → AreSound es → HasDistinctNames P
  names_made found sound = record {
    sims = sims_apart;
    no_dots = no_dots;
    eids = λ d e before within own same.
        let count = by_place_length entity_of 0 es in
        let a = below_get es d (omega arith) in
        let b = below_get es e (omega arith) in
        let first = owner_is S ranks metas es first_ids conns d a.0 a.1 (in_each (IsOfModel metas) a.0 es known.of_models (at_in a.0 es d a.1)) in
        let second = owner_is S ranks metas es first_ids conns e b.0 b.1 (in_each (IsOfModel metas) b.0 es known.of_models (at_in b.0 es e b.1)) in
        let sim : a.0.sim.0 ≡ b.0.sim.0 = sym first ∙ own ∙ second in
        let eid : a.0.eid ≡ b.0.eid = sym (eid_is S ranks metas es first_ids conns d a.0 a.1) ∙ same ∙ eid_is S ranks metas es first_ids conns e b.0 b.1 in
        let numbers : Some d ≡ Some e = sym (found d a.0 a.1) ∙ (λ i. entity_number es (record { 0 = sim i }) (eid i)) ∙ found e b.0 b.1 in
        let place : d ≡ e = some_same numbers in
        absurd (omega arith);
    named = all_of (λ (n : PlanEntity). (n.eid ≢ []) × (n.eid ≢ codes "time")) P.entities (λ i x is.
        let t = made_at entity_of es i x is in
        let s = in_each (IsSound (length es)) t.0 es sound (at_in t.0 es i t.1) in
        subst (λ (eid : List ℕ). (eid ≢ []) × (eid ≢ codes "time")) (sym (ap (λ (n : PlanEntity). n.eid) t.2)) (proper t.0.eid s.eid));
  }
