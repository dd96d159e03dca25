-- The numbers of the plan that is made are within the limits.
use Rattle.std.proofs.Common.{◌≡◌, ℕ, zero, suc, ◌<◌, ◌≤◌, ℤ, pos, ◌≤ℤ◌, Bool, true, false, nat_eq, List, [], ◌∷◌, ◌++◌, length, map, filter, refl, sym, ap, ◌∙◌, subst, arith, All, IfSome, length-append}
use Rattle.std.specs.Prelude.{◌==◌}
use Rattle.std.proofs.lemmas.List.{length-map}
use Rattle.std.proofs.lemmas.List.Sums.{count_by-le-length, length-filter}
use Rattle.mk_base.specs.Data.{IsValueText}
use Rattle.mk_base.specs.Lists.{Each}
use Rattle.mk_base.specs.Tiers.{HasWidth}
use Rattle.mk_base.proofs.Lists.{at_in, filter_append, filter_none, get_is, in_each, in_map}
use Rattle.mk_plan.specs.declared.Conn.{Conn}
use Rattle.mk_plan.specs.declared.Plan.{Plan}
use Rattle.mk_plan.specs.declared.PlanSim.{PlanSim}
use Rattle.mk_plan.specs.Plans.{IsWithinLimits}
use Rattle.mk_meta.specs.declared.meta.Meta.{Meta}
use Rattle.mk_meta.specs.Metadata.{IsListed}
use Rattle.mk_entities.specs.declared.entities.EntityInfo.{EntityInfo}
use Rattle.mk_scenario.specs.declared.parts.Scenario.{Scenario}
use Rattle.mk_scenario.specs.Wellformed.{IsWellformed, IsWellformedBlock, IsWellformedSim}
use Rattle.mk_connect.specs.Complete.{IsComplete}
use Rattle.mk_connect.specs.Made.{number_at, plan_entity, plan_sim, plan_with}
use Rattle.mk_connect_pairs.specs.Models.{models_from, models_of, plan_model, sim_model}
use Rattle.mk_connect.specs.Related.{pairs_of}
use Rattle.mk_connect_pairs.specs.declared.models.SimModel.{SimModel}
use Rattle.mk_connect.proofs.ByPlaces.{by_place_length}
use Rattle.mk_connect.proofs.OverLists.{all_of, each_all, each_then}
use Rattle.mk_connect.proofs.Owners.{made_at, model_from}
use Rattle.mk_connect.proofs.Ranked.{count_mapped, rank_below}
use Rattle.mk_connect.proofs.Sound.{AreSoundConns, IsSoundConn, value_text}
use Rattle.mk_base.specs.Limits.{latest_end, most_models, most_entities, most_requests}

-- ---- how many models a simulator has

abbrev is_of : ℕ → SimModel → Bool
is_of i m = m.sim.0 == i

other : (x i : ℕ) → (x ≡ i → ⊥) → nat_eq x i ≡ false
other x i apart = at (nat_eq x i) refl
  where
    at : (b : Bool) → nat_eq x i ≡ b → b ≡ false
    at true is = absurd (apart (grind (arith, is)))
    at false is = refl

own_count : (i s : ℕ) (meta : Meta) → (s ≡ i → ⊥) → filter (is_of i) (map (sim_model s meta.kind) meta.models) ≡ []
own_count i s meta apart = filter_none (is_of i) (map (sim_model s meta.kind) meta.models) (λ m inside. let t = in_map (sim_model s meta.kind) m meta.models inside in other m.sim.0 i (λ same. apart (sym (ap (λ (k : SimModel). k.sim.0) t.2) ∙ same)))

later_count : (i n : ℕ) (metas : List Meta) → i < n → filter (is_of i) (models_from n metas) ≡ []
later_count i n metas before = filter_none (is_of i) (models_from n metas) (λ m inside. let t = model_from n metas m inside in other m.sim.0 i (λ same. let at = t.sim in absurd (omega arith)))

own_models : (i n : ℕ) (metas : List Meta) → Each (λ (m : Meta). IsListed m.models) metas → length (filter (is_of i) (models_from n metas)) ≤ most_models
own_models i n [] listed = omega arith
own_models i n (meta ∷ metas) listed =
    let own = map (sim_model n meta.kind) meta.models in
    let both : length (filter (is_of i) (own ++ models_from (suc n) metas)) ≡ length (filter (is_of i) own ++ filter (is_of i) (models_from (suc n) metas)) = ap length (filter_append (is_of i) own (models_from (suc n) metas)) in
    at (nat_eq n i) refl both (own_models i (suc n) metas listed.1)
  where
    at : (b : Bool) → nat_eq n i ≡ b → length (filter (is_of i) (map (sim_model n meta.kind) meta.models ++ models_from (suc n) metas)) ≡ length (filter (is_of i) (map (sim_model n meta.kind) meta.models) ++ filter (is_of i) (models_from (suc n) metas))
        → length (filter (is_of i) (models_from (suc n) metas)) ≤ most_models → length (filter (is_of i) (map (sim_model n meta.kind) meta.models ++ models_from (suc n) metas)) ≤ most_models
    at true is both more =
        let here = map (sim_model n meta.kind) meta.models in
        let none = later_count i (suc n) metas (grind (arith, is)) in
        let few = count_by-le-length (is_of i) here in
        let count = length-filter (is_of i) here in
        let long = length-map meta.models (sim_model n meta.kind) in
        let most = listed.0.0 in
        let parts = both ∙ length-append (filter (is_of i) here) (filter (is_of i) (models_from (suc n) metas)) in
        let rest : length (filter (is_of i) (models_from (suc n) metas)) ≡ 0 = ap length none in
        omega arith
    at false is both more =
        let none = own_count i n meta (λ same. absurd (different n i is same)) in
        subst (λ (k : ℕ). k ≤ most_models) (sym (both ∙ ap (λ (l : List SimModel). length (l ++ filter (is_of i) (models_from (suc n) metas))) none)) more
      where
        different : (n i : ℕ) → nat_eq n i ≡ false → n ≡ i → ⊥
        different n i is same = absurd (grind (arith, is, same))

few_at : (xs : List ℕ) (i : ℕ) → Each (λ n. n ≤ most_requests) xs → number_at xs i ≤ most_requests
few_at [] i few = omega arith
few_at (x ∷ xs) zero few = few.0
few_at (x ∷ xs) (suc i) few = few_at xs i few.1

module _ (S : Scenario) (ranks : List ℕ) (metas : List Meta) (es : List EntityInfo) (first_ids : List ℕ) (conns : List Conn) (wellformed : IsWellformed S) (known : IsComplete S ranks metas es first_ids) where
  abbrev P : Plan
  P = plan_with S ranks metas es first_ids conns

  count_sims : length P.sims ≡ length S.sims
  count_sims = by_place_length (plan_sim metas ranks first_ids) 0 S.sims

  initial_value : (c : Conn) → IsSoundConn (models_of metas) es S.blocks c → IfSome c.initial IsValueText
  initial_value c s = subst (λ o. IfSome o IsValueText) (sym s.initial) (value_text s.block.initial c.from_attr (in_each (IsWellformedBlock (length S.sims) S.groups) s.block S.blocks wellformed.blocks s.of_scenario).initial)

  width : (c : Conn) → IsSoundConn (models_of metas) es S.blocks c → HasWidth c.via
  width c s = subst HasWidth (sym s.via) (in_each (IsWellformedBlock (length S.sims) S.groups) s.block S.blocks wellformed.blocks s.of_scenario).width

  pub limits_made : AreSoundConns (models_of metas) es S.blocks conns → length es ≤ most_entities → IsWithinLimits P
  limits_made sound few = record {
    until = wellformed.until;
    loops = wellformed.loops;
    entries = wellformed.entries;
    sims = let same = count_sims in let most = wellformed.sim_count in (omega (arith, most.0), omega (arith, most.1));
    ranks = all_of (λ s. s.rank ≤ 199) P.sims (λ i x is.
        let t = made_at (plan_sim metas ranks first_ids) S.sims i x is in
        let below = rank_below S ranks known.ranking i (get_is S.sims i t.0 t.1).0 in
        let rank : x.rank ≡ number_at ranks i = ap (λ (s : PlanSim). s.rank) t.2 in
        let most = wellformed.sim_count.1 in
        omega arith);
    first_ids = all_of (λ s. s.first_id ≤ 1000000) P.sims (λ i x is.
        let t = made_at (plan_sim metas ranks first_ids) S.sims i x is in
        subst (λ (n : ℕ). n ≤ 1000000) (sym (ap (λ (s : PlanSim). s.first_id) t.2)) (few_at first_ids i known.few_requests));
    events = all_of (λ s. All (λ (e : ℤ). (pos 0 ≤ℤ e) × (e ≤ℤ latest_end)) s.initial) P.sims (λ i x is.
        let t = made_at (plan_sim metas ranks first_ids) S.sims i x is in
        subst (λ (ts : List ℤ). All (λ (e : ℤ). (pos 0 ≤ℤ e) × (e ≤ℤ latest_end)) ts) (sym (ap (λ (s : PlanSim). s.initial) t.2))
        (each_all (λ (e : ℤ). (pos 0 ≤ℤ e) × (e ≤ℤ latest_end)) t.0.initial (in_each IsWellformedSim t.0 S.sims wellformed.sims (at_in t.0 S.sims i t.1)).initial));
    models = λ i. subst (λ (n : ℕ). n ≤ 10000) (length-filter (is_of i) (models_of metas) ∙ count_mapped plan_model (λ m. m.sim.0 == i) (models_of metas)) (own_models i 0 metas known.listed);
    entities = subst (λ (n : ℕ). n ≤ 10000) (sym (by_place_length (plan_entity (models_of metas) (length es) (pairs_of es S.blocks)) 0 es)) few;
    conns = sound.few;
    initials = each_all (λ c. IfSome c.initial IsValueText) conns (each_then initial_value conns sound.each);
    widths = each_all (λ c. HasWidth c.via) conns (each_then width conns sound.each);
  }
