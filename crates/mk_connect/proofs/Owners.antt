-- Whose models and entities are, in the plan that is made.
use Rattle.std.proofs.Common.{◌≡◌, ℕ, zero, suc, ◌+◌, ◌<◌, ◌⊎◌, Bool, true, false, ◌&&◌, nat_eq, List, [], ◌∷◌, ◌++◌, length, map, position, Option, Some, None, refl, sym, ap, ◌∙◌, subst, arith, slice_get, unwrap_or, inl, inr, true≢false}
use Rattle.std.specs.Prelude.{IfSome, if◌then◌else◌, option_map, option_and_then}
use Rattle.std.specs.List.{cons_option}
use Rattle.std.proofs.lemmas.Bool.{and_parts}
use Rattle.mk_base.specs.declared.SimKind.TheVariants.{TimeBased}
use Rattle.mk_base.specs.Lists.{Each, IsIn, same_text}
use Rattle.mk_base.proofs.Lists.{at_in, below_get, get_is, in_each, in_either, in_back, in_front, in_map, map_in, none_some, some_passes, some_same}
use Rattle.mk_base.proofs.AtPlaces.{place_first, place_later}
use Rattle.mk_plan.specs.declared.Conn.{Conn}
use Rattle.mk_plan.specs.declared.Plan.{Plan}
use Rattle.mk_plan.specs.declared.PlanEntity.{PlanEntity}
use Rattle.mk_plan.specs.declared.PlanModel.{PlanModel}
use Rattle.mk_plan.specs.declared.PlanSim.{PlanSim}
use Rattle.mk_plan.specs.Plans.{eid_of, kind_of, owner, rank_of, sim_count}
use Rattle.mk_meta.specs.declared.meta.ModelMeta.{ModelMeta}
use Rattle.mk_meta.specs.declared.meta.Meta.{Meta}
use Rattle.mk_entities.specs.declared.entities.EntityInfo.{EntityInfo}
use Rattle.mk_entities.specs.Creation.{is_named, entity_number}
use Rattle.mk_scenario.specs.declared.parts.Group.{Group}
use Rattle.mk_scenario.specs.declared.parts.Place.{Place}
use Rattle.mk_scenario.specs.declared.parts.Place.TheVariants.{Whole, One, Full}
use Rattle.mk_scenario.specs.declared.parts.Scenario.{Scenario}
use Rattle.mk_scenario.specs.declared.parts.SimPart.{SimPart}
use Rattle.mk_connect.specs.ByPlace.{by_place}
use Rattle.mk_connect.specs.Complete.{IsOfGroup, IsOfModel, has_model}
use Rattle.mk_connect.specs.Edges.{sim_at, sim_of_group}
use Rattle.mk_connect_pairs.specs.Ends.{ends_at, is_of_group, members_from}
use Rattle.mk_connect.specs.Made.{kind_at, number_at, plan_entity, plan_sim, plan_with}
use Rattle.mk_connect_pairs.specs.Models.{is_model, model_number, models_from, models_of, plan_model, sim_model}
use Rattle.mk_connect.specs.Related.{pairs_of}
use Rattle.mk_connect_pairs.specs.declared.models.SimModel.{SimModel}
use Rattle.mk_connect.proofs.ByPlaces.{by_place_get}
use Rattle.mk_base.proofs.Counts.{plus_none, one_over, test_equal, test_itself}
use Rattle.mk_base.proofs.Items.{get_map}

from_none : (n : ℕ) → 0 + n ≡ n
from_none n = omega arith

-- ---- the first that passes

module _ {X : Type 0} (p : X → Bool) where
  pub passes_somewhere : (xs : List X) (x : X) → IsIn x xs → p x ≡ true → (k : ℕ) × (position p xs ≡ Some k)
  passes_somewhere [] x inside is = absurd inside
  passes_somewhere (y ∷ ys) x inside is = at (p y) refl (λ later. passes_somewhere ys x later is) inside
    where
      at : (b : Bool) → p y ≡ b → (IsIn x ys → (k : ℕ) × (position p ys ≡ Some k)) → (x ≡ y) ⊎ IsIn x ys → (k : ℕ) × (position p (y ∷ ys) ≡ Some k)
      at true here more where_it_is = (0, place_first p y ys here)
      at false here more (inl same) = absurd (true≢false (sym is ∙ ap p same ∙ here))
      at false here more (inr later) = let t = more later in (suc t.0, place_later p y ys here ∙ ap (option_map suc) t.1)

  pub there_passes : (xs : List X) (k : ℕ) → position p xs ≡ Some k → (x : X) × (slice_get xs k ≡ Some x) × (p x ≡ true)
  there_passes [] k is = absurd (none_some is)
  there_passes (y ∷ ys) k is = at (p y) refl (position p ys) refl (there_passes ys)
    where
      at : (b : Bool) → p y ≡ b → (r : Option ℕ) → position p ys ≡ r → ((j : ℕ) → position p ys ≡ Some j → (x : X) × (slice_get ys j ≡ Some x) × (p x ≡ true)) → (x : X) × (slice_get (y ∷ ys) k ≡ Some x) × (p x ≡ true)
      at true here r place more = subst (λ (j : ℕ). (x : X) × (slice_get (y ∷ ys) j ≡ Some x) × (p x ≡ true)) (some_same (sym (place_first p y ys here) ∙ is)) (y, refl, here)
      at false here None place more = absurd (none_some (ap (option_map suc) (sym place) ∙ sym (place_later p y ys here) ∙ is))
      at false here (Some j) place more = subst (λ (j : ℕ). (x : X) × (slice_get (y ∷ ys) j ≡ Some x) × (p x ≡ true)) (some_same (ap (option_map suc) (sym place) ∙ sym (place_later p y ys here) ∙ is)) (more j place)

-- what stands at a place, by what it is made of
pub made_at : {X Y : Type 0} (f : ℕ → X → Y) (xs : List X) (i : ℕ) (y : Y) → slice_get (by_place f 0 xs) i ≡ Some y → (x : X) × (slice_get xs i ≡ Some x) × (y ≡ f i x)
made_at {X} {Y} f xs i y is = at (slice_get xs i) refl
  where
    at : (o : Option X) → slice_get xs i ≡ o → (x : X) × (o ≡ Some x) × (y ≡ f i x)
    at None there = absurd (none_some (ap (option_map (f (0 + i))) (sym there) ∙ sym (by_place_get f 0 xs i) ∙ is))
    at (Some x) there = (x, refl, some_same (sym is ∙ by_place_get f 0 xs i ∙ ap (option_map (f (0 + i))) there ∙ ap (λ n. Some (f n x)) (from_none i)))

-- ---- models

-- a model of one of the simulators that are numbered from n
pub record IsModelFrom (n : ℕ) (metas : List Meta) (m : SimModel) : Type 0 where
  pub place : ℕ
  pub meta : Meta
  pub said : slice_get metas place ≡ Some meta
  pub sim : m.sim.0 ≡ n + place
  pub kind : m.kind ≡ meta.kind

pub model_from : (n : ℕ) (metas : List Meta) (m : SimModel) → IsIn m (models_from n metas) → IsModelFrom n metas m
model_from n [] m inside = absurd inside
model_from n (meta ∷ metas) m inside = elim (in_either m (map (sim_model n meta.kind) meta.models) (models_from (suc n) metas) inside) [
  | inl here ↦ let t = in_map (sim_model n meta.kind) m meta.models here in record { place = 0; meta = meta; said = refl; sim = ap (λ (k : SimModel). k.sim.0) t.2 ∙ plus_none n; kind = ap (λ (k : SimModel). k.kind) t.2 }
  | inr later ↦ let t = model_from (suc n) metas m later in record { place = suc t.place; meta = t.meta; said = t.said; sim = t.sim ∙ one_over n t.place; kind = t.kind }
]

model_in : (n : ℕ) (metas : List Meta) (i : ℕ) (meta : Meta) (m : ModelMeta) → slice_get metas i ≡ Some meta → IsIn m meta.models → IsIn (sim_model (n + i) meta.kind m) (models_from n metas)
model_in n [] i meta m said inside = absurd (none_some said)
model_in n (x ∷ metas) zero meta m said inside =
    let all = map (sim_model n x.kind) x.models ++ models_from (suc n) metas in
    let here = map_in (sim_model n x.kind) m x.models (subst (λ (y : Meta). IsIn m y.models) (sym (some_same said)) inside) in
    let first = in_front (sim_model n x.kind m) (map (sim_model n x.kind) x.models) (models_from (suc n) metas) here in
    subst (λ (k : ℕ). IsIn (sim_model k meta.kind m) all) (plus_none n) (subst (λ (y : Meta). IsIn (sim_model n y.kind m) all) (some_same said) first)
model_in n (x ∷ metas) (suc i) meta m said inside =
    let all = map (sim_model n x.kind) x.models ++ models_from (suc n) metas in
    subst (λ (k : ℕ). IsIn (sim_model k meta.kind m) all) (one_over n i) (in_back (sim_model (suc n + i) meta.kind m) (map (sim_model n x.kind) x.models) (models_from (suc n) metas) (model_in (suc n) metas i meta m said inside))

-- the model of an entity, which is its simulator's
pub record IsOwned (metas : List Meta) (e : EntityInfo) : Type 0 where
  pub number : ℕ
  pub model : SimModel
  pub number_is : model_number (models_of metas) e ≡ Some number
  pub model_is : slice_get (models_of metas) number ≡ Some model
  pub sim : model.sim.0 ≡ e.sim.0
  pub kind : kind_at metas e.sim.0 ≡ model.kind
  pub within : e.sim.0 < length metas

said_of : (name : List ℕ) (o : Option Meta) → option_map (has_model name) o ≡ Some true → (meta : Meta) × (o ≡ Some meta) × (has_model name meta ≡ true)
said_of name None is = absurd (none_some is)
said_of name (Some meta) is = (meta, refl, some_same is)

pub owned : (metas : List Meta) (e : EntityInfo) → IsOfModel metas e → IsOwned metas e
owned metas e is =
    let t = said_of e.model (slice_get metas e.sim.0) is in
    let m = some_passes (λ (m : ModelMeta). same_text m.name e.model) t.0.models t.2 in
    let there = model_in 0 metas e.sim.0 t.0 m.0 t.1 m.1 in
    let sim_is : nat_eq (0 + e.sim.0) e.sim.0 ≡ true = ap (λ n. nat_eq n e.sim.0) (from_none e.sim.0) ∙ test_itself e.sim.0 in
    let place = passes_somewhere (is_model e.sim e.model) (models_of metas) (sim_model (0 + e.sim.0) t.0.kind m.0) there ((λ i. sim_is i && same_text m.0.name e.model) ∙ m.2) in
    let found = there_passes (is_model e.sim e.model) (models_of metas) place.0 place.1 in
    let from = model_from 0 metas found.0 (at_in found.0 (models_of metas) place.0 found.1) in
    let own : found.0.sim.0 ≡ e.sim.0 = test_equal found.0.sim.0 e.sim.0 (and_parts (nat_eq found.0.sim.0 e.sim.0) (same_text found.0.name e.model) found.2).0 in
    let same : from.place ≡ e.sim.0 = sym (from_none from.place) ∙ sym from.sim ∙ own in
    record {
      number = place.0;
      model = found.0;
      number_is = place.1;
      model_is = found.1;
      sim = own;
      kind = ap (λ s. kind_at metas s) (sym same) ∙ ap (λ o. unwrap_or (option_map (λ (m : Meta). m.kind) o) TimeBased) from.said ∙ sym from.kind;
      within = (get_is metas e.sim.0 t.0 t.1).0;
    }

-- ---- the ends of connections

pub member_is : (g n : ℕ) (es : List EntityInfo) (i : ℕ) → IsIn i (members_from g n es) → (k : ℕ) × (e : EntityInfo) × (i ≡ n + k) × (slice_get es k ≡ Some e) × (is_of_group g e ≡ true)
member_is g n [] i inside = absurd inside
member_is g n (e ∷ es) i inside = at (is_of_group g e) refl inside (λ later. next (member_is g (suc n) es i later))
  where
    next : (k : ℕ) × (f : EntityInfo) × (i ≡ suc n + k) × (slice_get es k ≡ Some f) × (is_of_group g f ≡ true) → (k : ℕ) × (f : EntityInfo) × (i ≡ n + k) × (slice_get (e ∷ es) k ≡ Some f) × (is_of_group g f ≡ true)
    next t = (suc t.0, t.1, t.2 ∙ one_over n t.0, t.3, t.4)

    at : (b : Bool) → is_of_group g e ≡ b → IsIn i (if b then n ∷ members_from g (suc n) es else members_from g (suc n) es)
        → (IsIn i (members_from g (suc n) es) → (k : ℕ) × (f : EntityInfo) × (i ≡ n + k) × (slice_get (e ∷ es) k ≡ Some f) × (is_of_group g f ≡ true))
        → (k : ℕ) × (f : EntityInfo) × (i ≡ n + k) × (slice_get (e ∷ es) k ≡ Some f) × (is_of_group g f ≡ true)
    at true own (inl same) more = (0, e, same ∙ plus_none n, refl, own)
    at true own (inr later) more = more later
    at false other later more = more later

group_sim : (groups : List Group) (g : ℕ) (e : EntityInfo) → IsOfGroup groups e → is_of_group g e ≡ true → sim_of_group groups g ≡ e.sim.0
group_sim groups g e of own = at e.group of own
  where
    sim_of : (o : Option Group) → option_map (λ (h : Group). h.sim) o ≡ Some e.sim → unwrap_or (option_map (λ (h : Group). h.sim.0) o) 0 ≡ e.sim.0
    sim_of None is = absurd (none_some is)
    sim_of (Some h) is = ap (λ s. s.0) (some_same is)

    at : (o : Option ℕ) → IfSome o (λ n. option_map (λ (h : Group). h.sim) (slice_get groups n) ≡ Some e.sim) → unwrap_or (option_map (nat_eq g) o) false ≡ true → sim_of_group groups g ≡ e.sim.0
    at None of own = absurd (true≢false (sym own))
    at (Some n) of own = ap (sim_of_group groups) (test_equal g n own) ∙ sim_of (slice_get groups n) of

in_option : (i : ℕ) (o : Option ℕ) → IsIn i (cons_option o []) → o ≡ Some i
in_option i None inside = absurd inside
in_option i (Some n) (inl same) = ap Some (sym same)
in_option i (Some n) (inr none) = absurd none

of_member : (groups : List Group) (es : List EntityInfo) (g i : ℕ) → Each (IsOfGroup groups) es → IsIn i (members_from g 0 es) → (e : EntityInfo) × (slice_get es i ≡ Some e) × (sim_of_group groups g ≡ e.sim.0)
of_member groups es g i of inside =
    let t = member_is g 0 es i inside in
    let at : slice_get es i ≡ Some t.1 = ap (slice_get es) (t.2 ∙ from_none t.0) ∙ t.3 in
    (t.1, at, group_sim groups g t.1 (in_each (IsOfGroup groups) t.1 es of (at_in t.1 es i at)) t.4)

-- an end is an entity of the simulator at its place
pub end_is : (groups : List Group) (es : List EntityInfo) (place : Place) (i : ℕ) → Each (IsOfGroup groups) es → IsIn i (ends_at es place) → (e : EntityInfo) × (slice_get es i ≡ Some e) × (sim_at groups place ≡ e.sim.0)
end_is groups es (Whole g) i of inside = of_member groups es g i of inside
end_is groups es (One g n) i of inside = of_member groups es g i of (at_in i (members_from g 0 es) n (in_option i (slice_get (members_from g 0 es) n) inside))
end_is groups es (Full sim eid) i of inside =
    let t = there_passes (is_named sim eid) es i (in_option i (entity_number es sim eid) inside) in
    (t.0, t.1, sym (test_equal t.0.sim.0 sim.0 (and_parts (nat_eq t.0.sim.0 sim.0) (same_text t.0.eid eid) t.2).0))

-- ---- the plan's parts

module _ (S : Scenario) (ranks : List ℕ) (metas : List Meta) (es : List EntityInfo) (first_ids : List ℕ) (conns : List Conn) where
  abbrev P : Plan
  P = plan_with S ranks metas es first_ids conns

  abbrev entity_of : ℕ → EntityInfo → PlanEntity
  entity_of = plan_entity (models_of metas) (length es) (pairs_of es S.blocks)

  entity_at : (i : ℕ) (e : EntityInfo) → slice_get es i ≡ Some e → slice_get P.entities i ≡ Some (entity_of (0 + i) e)
  entity_at i e is = by_place_get entity_of 0 es i ∙ ap (option_map (entity_of (0 + i))) is

  pub owner_is : (i : ℕ) (e : EntityInfo) → slice_get es i ≡ Some e → IsOfModel metas e → owner P i ≡ e.sim.0
  owner_is i e is of =
      let o = owned metas e of in
      ap (λ (n : Option PlanEntity). unwrap_or (option_and_then (λ n. option_map (λ m. m.sim.0) (slice_get P.models n.model)) n) (sim_count P)) (entity_at i e is)
      ∙ ap (λ (n : Option ℕ). unwrap_or (option_map (λ m. m.sim.0) (slice_get P.models (unwrap_or n 0))) (sim_count P)) o.number_is
      ∙ ap (λ (m : Option PlanModel). unwrap_or (option_map (λ m. m.sim.0) m) (sim_count P)) (get_map plan_model (models_of metas) o.number ∙ ap (option_map plan_model) o.model_is)
      ∙ o.sim

  pub eid_is : (i : ℕ) (e : EntityInfo) → slice_get es i ≡ Some e → eid_of P i ≡ e.eid
  eid_is i e is = ap (λ (n : Option PlanEntity). unwrap_or (option_map (λ n. n.eid) n) []) (entity_at i e is)

  sim_there : (s : ℕ) (part : SimPart) → slice_get S.sims s ≡ Some part → slice_get P.sims s ≡ Some (plan_sim metas ranks first_ids (0 + s) part)
  sim_there s part is = by_place_get (plan_sim metas ranks first_ids) 0 S.sims s ∙ ap (option_map (plan_sim metas ranks first_ids (0 + s))) is

  pub kind_is : (s : ℕ) → s < length S.sims → kind_of P s ≡ kind_at metas s
  kind_is s within = let t = below_get S.sims s within in ap (λ (n : Option PlanSim). unwrap_or (option_map (λ n. n.kind) n) TimeBased) (sim_there s t.0 t.1) ∙ ap (kind_at metas) (from_none s)

  pub rank_is : (s : ℕ) → s < length S.sims → rank_of P s ≡ number_at ranks s
  rank_is s within = let t = below_get S.sims s within in ap (λ (n : Option PlanSim). unwrap_or (option_map (λ n. n.rank) n) 0) (sim_there s t.0 t.1) ∙ ap (number_at ranks) (from_none s)
