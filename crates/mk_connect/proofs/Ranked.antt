-- The plan that is made has ranks: each once, and they rise along its links.
use Rattle.std.proofs.Common.{◌≡◌, ℕ, zero, suc, ◌+◌, ◌<◌, ◌⊎◌, Bool, true, false, not, ◌&&◌, ◌||◌, nat_eq, List, [], ◌∷◌, ◌++◌, length, map, filter, fold, flat_map, Option, Some, refl, sym, ap, ◌∙◌, subst, arith, slice_get, slice_index, unwrap_or, inl, inr, All}
use Rattle.std.specs.Prelude.{◌==◌, count_by, if◌then◌else◌}
use Rattle.std.specs.List.{list_any}
use Rattle.std.proofs.lemmas.List.Sums.{length-filter}
use Rattle.mk_base.specs.declared.tier.Via.TheVariants.{Plain}
use Rattle.mk_base.specs.Lists.{IsIn}
use Rattle.mk_base.proofs.Lists.{at_in, below_get, each_in, flat_map_in, get_is, in_each, in_either, in_flat_map}
use Rattle.mk_base.specs.Tiers.{is_plain}
use Rattle.mk_plan.specs.declared.AsyncPair.{AsyncPair}
use Rattle.mk_plan.specs.declared.Conn.{Conn}
use Rattle.mk_plan.specs.declared.Plan.{Plan}
use Rattle.mk_plan.specs.declared.PlanSim.{PlanSim}
use Rattle.mk_plan.specs.Plans.{HasRanks, owner, rank_of}
use Rattle.mk_cycles.specs.declared.ranking.Edge.{Edge}
use Rattle.mk_cycles.specs.Edges.{edge, has_edge}
use Rattle.mk_cycles.specs.Orders.{IsRanking}
use Rattle.mk_meta.specs.declared.meta.Meta.{Meta}
use Rattle.mk_entities.specs.declared.entities.EntityInfo.{EntityInfo}
use Rattle.mk_scenario.specs.declared.parts.AttrPair.{AttrPair}
use Rattle.mk_scenario.specs.declared.parts.Block.{Block}
use Rattle.mk_scenario.specs.declared.parts.Group.{Group}
use Rattle.mk_scenario.specs.declared.parts.Scenario.{Scenario}
use Rattle.mk_scenario.specs.declared.parts.SimPart.{SimPart}
use Rattle.mk_scenario.specs.Wellformed.{IsWellformed, IsWellformedBlock}
use Rattle.mk_connect.specs.Asyncs.{asyncs_in, asyncs_of, pair_put, same_pair}
use Rattle.mk_connect.specs.ByPlace.{by_place}
use Rattle.mk_connect.specs.Complete.{IsComplete, IsOfModel}
use Rattle.mk_connect.specs.Edges.{edges_in, edges_of, is_ordering, sim_at}
use Rattle.mk_connect.specs.Made.{number_at, plan_sim, plan_with}
use Rattle.mk_connect_pairs.specs.Models.{models_of}
use Rattle.mk_connect.proofs.Below.{place_below}
use Rattle.mk_connect.proofs.ByPlaces.{by_place_length}
use Rattle.mk_connect.proofs.OverLists.{all_of, each_all, each_then}
use Rattle.mk_connect.proofs.Owners.{end_is, made_at, owner_is, rank_is}
use Rattle.mk_connect.proofs.Sound.{AreSoundConns, IsSoundConn}

index_is : (xs : List ℕ) (i : ℕ) → slice_index xs i ≡ number_at xs i
index_is [] i = refl
index_is (x ∷ xs) zero = refl
index_is (x ∷ xs) (suc i) = index_is xs i

-- ---- each rank once

pub rank_below : (S : Scenario) (ranks : List ℕ) → IsRanking (has_edge (edges_of S)) (length S.sims) ranks → (s : ℕ) → s < length S.sims → number_at ranks s < length S.sims
rank_below S ranks is s within =
    let t = below_get ranks s (let same = is.3 in omega arith) in
    let r : number_at ranks s ≡ t.0 = ap (λ (o : Option ℕ). unwrap_or o 0) t.1 in
    let below = (get_is is.0 t.0 s ((is.4 s t.0).0 t.1)).0 in
    let count = is.2 in
    omega arith

ranks_are : (metas : List Meta) (ranks first_ids : List ℕ) (n : ℕ) (parts : List SimPart) (more : List ℕ) → length more ≡ length parts → ((i : ℕ) → number_at ranks (n + i) ≡ number_at more i)
    → map (λ (s : PlanSim). s.rank) (by_place (plan_sim metas ranks first_ids) n parts) ≡ more
ranks_are metas ranks ids n [] [] long same = refl
ranks_are metas ranks ids n [] (r ∷ more) long same = cc
ranks_are metas ranks ids n (p ∷ parts) [] long same = cc
ranks_are metas ranks ids n (p ∷ parts) (r ∷ more) long same = λ i. (ap (number_at ranks) (no_more n) ∙ same 0) i ∷ ranks_are metas ranks ids (suc n) parts more (omega (arith, long)) (λ k. ap (number_at ranks) (over n k) ∙ same (suc k)) i
  where
    no_more : (n : ℕ) → n ≡ n + 0
    no_more n = omega arith

    over : (n k : ℕ) → suc n + k ≡ n + suc k
    over n k = omega arith

filter_mapped : {X Y : Type 0} (f : X → Y) (p : Y → Bool) (xs : List X) → length (filter (λ x. p (f x)) xs) ≡ length (filter p (map f xs))
filter_mapped f p [] = refl
filter_mapped {X} {Y} f p (x ∷ xs) = at (p (f x)) (filter_mapped f p xs)
  where
    at : (b : Bool) → length (filter (λ x. p (f x)) xs) ≡ length (filter p (map f xs)) → length (if b then x ∷ filter (λ x. p (f x)) xs else filter (λ x. p (f x)) xs) ≡ length (if b then f x ∷ filter p (map f xs) else filter p (map f xs))
    at true more = ap suc more
    at false more = more

-- as many items pass as of what is made of them
pub count_mapped : {X Y : Type 0} (f : X → Y) (p : Y → Bool) (xs : List X) → count_by (λ x. p (f x)) xs ≡ count_by p (map f xs)
count_mapped f p xs = sym (length-filter (λ x. p (f x)) xs) ∙ filter_mapped f p xs ∙ length-filter p (map f xs)

-- ---- asynchronous pairs

in_put : (p q : AsyncPair) (pairs : List AsyncPair) → IsIn p (pair_put pairs q) → IsIn p pairs ⊎ (p ≡ q)
in_put p q pairs inside = at (list_any (same_pair q) pairs) inside
  where
    at : (b : Bool) → IsIn p (if b then pairs else pairs ++ q ∷ []) → IsIn p pairs ⊎ (p ≡ q)
    at true inside = inl inside
    at false inside = elim (in_either p pairs (q ∷ []) inside) [
      | inl m ↦ inl m
      | inr m ↦ inr (the_one m)
    ]
      where
        the_one : IsIn p (q ∷ []) → p ≡ q
        the_one (inl same) = same
        the_one (inr none) = absurd none

in_fold : (p : AsyncPair) (qs pairs : List AsyncPair) → IsIn p (fold pair_put pairs qs) → IsIn p pairs ⊎ IsIn p qs
in_fold p [] pairs inside = inl inside
in_fold p (q ∷ qs) pairs inside = elim (in_fold p qs (pair_put pairs q) inside) [
  | inl m ↦ elim (in_put p q pairs m) [ inl n ↦ inl n | inr same ↦ inr (inl same) ]
  | inr m ↦ inr (inr m)
]

-- an asynchronous pair is that of a block
pub record IsPairOf (groups : List Group) (blocks : List Block) (p : AsyncPair) : Type 0 where
  pub block : Block
  pub of_scenario : IsIn block blocks
  pub asynchronous : block.async_requests ≡ true
  pub from : p.from.0 ≡ sim_at groups block.from
  pub to : p.to.0 ≡ sim_at groups block.to

pub async_is : (groups : List Group) (blocks : List Block) (p : AsyncPair) → IsIn p (asyncs_of groups blocks) → IsPairOf groups blocks p
async_is groups blocks p inside = elim (in_fold p (flat_map (asyncs_in groups) blocks) [] inside) [
  | inl none ↦ absurd none
  | inr m ↦ let t = in_flat_map (asyncs_in groups) p blocks m in of_block t.0 t.1 (t.0.async_requests) refl t.2
]
  where
    of_block : (b : Block) → IsIn b blocks → (a : Bool) → b.async_requests ≡ a → IsIn p (if a then record { from = record { 0 = sim_at groups b.from }; to = record { 0 = sim_at groups b.to } } ∷ [] else []) → IsPairOf groups blocks p
    of_block b inside true is (inl same) = record { block = b; of_scenario = inside; asynchronous = is; from = ap (λ (q : AsyncPair). q.from.0) same; to = ap (λ (q : AsyncPair). q.to.0) same }
    of_block b inside true is (inr none) = absurd none
    of_block b inside false is none = absurd none

-- ---- ranks rise

orders : (b : Block) → (b.via ≡ Plain) × ((b.attrs ≡ []) → ⊥) ⊎ (b.async_requests ≡ true) → is_ordering b ≡ true
orders b (inr is) = λ i. is i || (is_plain b.via && not (length b.attrs == 0))
orders b (inl t) = (λ i. b.async_requests || (is_plain (t.0 i) && not (length b.attrs == 0))) ∙ some b.attrs t.1 ∙ at b.async_requests
  where
    not_none : (n : ℕ) → nat_eq (suc n) 0 ≡ false
    not_none n = grind arith

    some : (attrs : List AttrPair) → ((attrs ≡ []) → ⊥) → (b.async_requests || (true && not (length attrs == 0))) ≡ (b.async_requests || true)
    some [] none = absurd (none refl)
    some (a ∷ attrs) none = let more : (length (a ∷ attrs) == 0) ≡ false = not_none (length attrs) in ap (λ e. b.async_requests || (true && not e)) more

    at : (a : Bool) → (a || true) ≡ true
    at true = refl
    at false = refl

module _ (S : Scenario) (ranks : List ℕ) (metas : List Meta) (es : List EntityInfo) (first_ids : List ℕ) (conns : List Conn) (wellformed : IsWellformed S) (known : IsComplete S ranks metas es first_ids) where
  abbrev P : Plan
  P = plan_with S ranks metas es first_ids conns

  place_there : (b : Block) → IsIn b S.blocks → (sim_at S.groups b.from < length S.sims) × (sim_at S.groups b.to < length S.sims)
  place_there b inside = let w = in_each (IsWellformedBlock (length S.sims) S.groups) b S.blocks wellformed.blocks inside in (place_below (length S.sims) S.groups b.from wellformed.groups w.from, place_below (length S.sims) S.groups b.to wellformed.groups w.to)

  -- along a block that orders its simulators the rank rises
  pub rises : (b : Block) → IsIn b S.blocks → is_ordering b ≡ true → (s t : ℕ) → s ≡ sim_at S.groups b.from → t ≡ sim_at S.groups b.to → rank_of P s < rank_of P t
  rises b inside ordering s t from to =
      let p = sim_at S.groups b.from in
      let q = sim_at S.groups b.to in
      let there = flat_map_in (edges_in S.groups) b (edge p q) S.blocks inside (subst (λ (o : Bool). IsIn (edge p q) (if o then edge p q ∷ [] else [])) (sym ordering) (inl refl)) in
      let up = in_each (λ (e : Edge). slice_index ranks e.from.0 < slice_index ranks e.to.0) (edge p q) (edges_of S) known.rising there in
      let below = place_there b inside in
      let first : rank_of P s ≡ slice_index ranks p = ap (rank_of P) from ∙ rank_is S ranks metas es first_ids conns p below.0 ∙ sym (index_is ranks p) in
      let second : rank_of P t ≡ slice_index ranks q = ap (rank_of P) to ∙ rank_is S ranks metas es first_ids conns q below.1 ∙ sym (index_is ranks q) in
      omega arith

  -- the owner of an end is the simulator at its place
  pub owner_at : (c : Conn) (b : Block) (i : ℕ) (e : EntityInfo) → slice_get es i ≡ Some e → owner P i ≡ e.sim.0
  owner_at c b i e is = owner_is S ranks metas es first_ids conns i e is (in_each (IsOfModel metas) e es known.of_models (at_in e es i is))

  plain_rises : (c : Conn) → IsSoundConn (models_of metas) es S.blocks c → c.via ≡ Plain → rank_of P (owner P c.from) < rank_of P (owner P c.to)
  plain_rises c s plain =
      let from = end_is S.groups es s.block.from c.from known.of_groups s.from in
      let to = end_is S.groups es s.block.to c.to known.of_groups s.to in
      rises s.block s.of_scenario (orders s.block (inl (sym s.via ∙ plain, s.connects))) (owner P c.from) (owner P c.to) (owner_at c s.block c.from from.0 from.1 ∙ sym from.2) (owner_at c s.block c.to to.0 to.1 ∙ sym to.2)

  count_sims : length P.sims ≡ length S.sims
  count_sims = by_place_length (plan_sim metas ranks first_ids) 0 S.sims

  pub ranks_below : All (λ s. s.rank < length P.sims) P.sims
  ranks_below = all_of (λ s. s.rank < length P.sims) P.sims (λ i x is.
      let t = made_at (plan_sim metas ranks first_ids) S.sims i x is in
      let below = rank_below S ranks known.ranking i (get_is S.sims i t.0 t.1).0 in
      let rank : x.rank ≡ number_at ranks i = ap (λ (s : PlanSim). s.rank) t.2 in
      let count = count_sims in
      omega arith)

  pub ranks_made : AreSoundConns (models_of metas) es S.blocks conns → HasRanks P
  ranks_made sound = record {
    below = ranks_below;
    once = λ r within. count_mapped (λ (s : PlanSim). s.rank) (λ n. n == r) P.sims
        ∙ ap (count_by (λ n. n == r)) (ranks_are metas ranks first_ids 0 S.sims ranks (let n = known.ranking.3 in n) (λ i. ap (number_at ranks) (none_before i)))
        ∙ known.each_once r (let count = count_sims in omega arith);
    conns = each_all (λ c. c.via ≡ Plain → rank_of P (owner P c.from) < rank_of P (owner P c.to)) conns (each_then plain_rises conns sound.each);
    asyncs = each_all (λ p. rank_of P p.from.0 < rank_of P p.to.0) P.asyncs (each_in (λ p. rank_of P p.from.0 < rank_of P p.to.0) P.asyncs (λ p inside.
        let a = async_is S.groups S.blocks p inside in
        rises a.block a.of_scenario (orders a.block (inr a.asynchronous)) p.from.0 p.to.0 a.from a.to));
  }
    where
      none_before : (i : ℕ) → 0 + i ≡ i
      none_before i = omega arith
