-- What ranks and cycles say of the edges.
use Rattle.std.proofs.Common.{◌≡◌, ℕ, zero, suc, ◌<◌, Bool, true, false, ◌&&◌, eqb, List, [], ◌∷◌, ◌++◌, length, take, filter, slice_index, Some, refl, sym, ap, subst, ◌∙◌, arith}
use Rattle.std.specs.List.{slice_get}
use Rattle.std.proofs.lemmas.Bool.{eq-eqb, eqb-true, ne_eqb, and_parts}
use Rattle.std.proofs.lemmas.List.Sums.{length-filter}
use Rattle.std.proofs.lemmas.Option.{get_or_from_slice_get}
use Rattle.mk_base.proofs.Lists.{some_same, none_some, in_at, below_get, each_in, in_each, some_passes, passes_some}
use Rattle.mk_base.specs.Lists.{IsIn}
use Rattle.mk_cycles.specs.declared.ranking.Edge.{Edge}
use Rattle.mk_cycles.specs.Edges.{edge, has_edge, EndsBelow, IsClosedWalk}
use Rattle.mk_cycles.specs.Orders.{IsRanking}
use Rattle.mk_cycles.specs.Cycles.{IsBack, IsCycle}
use Rattle.mk_cycles.specs.Outcomes.{IsEachOnce, IsRising}
use Rattle.mk_cycles.proofs.Chains.{chain-map, get_take}

-- an edge of the list is found
pub has_it : (edges : List Edge) (e : Edge) → IsIn e edges → has_edge edges e.from.0 e.to.0 ≡ true
has_it edges e here =
    let from_is : eqb e.from.0 e.from.0 ≡ true = eq-eqb e.from.0 e.from.0 refl in
    let to_is : eqb e.to.0 e.to.0 ≡ true = eq-eqb e.to.0 e.to.0 refl in
    passes_some (λ (x : Edge). eqb x.from.0 e.from.0 && eqb x.to.0 e.to.0) e edges here (rw (from_is, to_is) refl)

-- what is found is an edge of the list
pub it_is : (edges : List Edge) (p s : ℕ) → has_edge edges p s ≡ true → IsIn (edge p s) edges
it_is edges p s has =
    let found = some_passes (λ (x : Edge). eqb x.from.0 p && eqb x.to.0 s) edges has in
    let ends = and_parts (eqb found.0.from.0 p) (eqb found.0.to.0 s) found.2 in
    let same : found.0 ≡ edge p s =
    ap (λ k. edge k found.0.to.0) (eqb-true found.0.from.0 p ends.0) ∙ ap (λ k. edge p k) (eqb-true found.0.to.0 s ends.1) in
    subst (λ (e : Edge). IsIn e edges) same found.1

-- a cycle is a closed walk of edges
pub closed : (edges : List Edge) (n : ℕ) (walk : List ℕ) → IsCycle (has_edge edges) n walk → IsClosedWalk edges walk
closed edges n [] cycle = cycle.3
closed edges n (first ∷ more) cycle =
    chain-map (λ p s. IsBack (has_edge edges) n cycle.0 s p) (λ p s. IsIn (edge p s) edges) ((first ∷ more) ++ first ∷ []) (λ p s back. it_is edges p s back.1) cycle.3.2

-- the ranks rise along the edges
pub rising : (edges : List Edge) (n : ℕ) (ranks : List ℕ) → EndsBelow n edges → IsRanking (has_edge edges) n ranks → IsRising edges ranks
rising edges n ranks ends (order, ordered, all, count, inverse) =
    each_in (λ (e : Edge). slice_index ranks e.from.0 < slice_index ranks e.to.0) edges (λ e here.
    let below = in_each (λ (x : Edge). (x.from.0 < n) × (x.to.0 < n)) e edges ends here in
    let to_rank = below_get ranks e.to.0 (omega (arith, below.1)) in
    let next = ordered to_rank.0 e.to.0 ((inverse e.to.0 to_rank.0).0 to_rank.1) in
    let earlier = in_at e.from.0 (take to_rank.0 order) (next.0.2 e.from.0 below.0 (has_it edges e here)) in
    let from_rank = get_take to_rank.0 earlier.0 e.from.0 order earlier.1 in
    let from_is : slice_index ranks e.from.0 ≡ earlier.0 = get_or_from_slice_get ranks e.from.0 earlier.0 0 ((inverse e.from.0 earlier.0).1 from_rank.1) in
    let to_is : slice_index ranks e.to.0 ≡ to_rank.0 = get_or_from_slice_get ranks e.to.0 to_rank.0 0 to_rank.1 in
    omega (arith, from_is, to_is, from_rank.0))

-- a number that is nowhere
count_none : (r : ℕ) (xs : List ℕ) → ((i : ℕ) → slice_get xs i ≡ Some r → ⊥) → length (filter (λ x. eqb x r) xs) ≡ 0
count_none r [] none = refl
count_none r (x ∷ xs) none =
    let miss : eqb x r ≡ false = ne_eqb x r (λ e. none zero (ap (λ (k : ℕ). Some k) e)) in
    rw miss (count_none r xs (λ i is. none (suc i) is))

-- a number that is in one place
count_one : (r s : ℕ) (xs : List ℕ) → slice_get xs s ≡ Some r → ((i : ℕ) → slice_get xs i ≡ Some r → i ≡ s) → length (filter (λ x. eqb x r) xs) ≡ 1
count_one r s [] is once = absurd (none_some is)
count_one r zero (x ∷ xs) is once =
    let hit : eqb x r ≡ true = eq-eqb x r (some_same is) in
    let rest = count_none r xs (λ i there. omega (arith, once (suc i) there)) in
    rw hit (omega (arith, rest))
count_one r (suc s) (x ∷ xs) is once =
    let miss : eqb x r ≡ false = ne_eqb x r (λ e. omega (arith, once zero (ap (λ (k : ℕ). Some k) e))) in
    rw miss (count_one r s xs is (λ i there. omega (arith, once (suc i) there)))

-- each rank is one simulator's
pub each_once : (before : ℕ → ℕ → Bool) (n : ℕ) (ranks : List ℕ) → IsRanking before n ranks → IsEachOnce n ranks
each_once before n ranks (order, ordered, all, count, inverse) r under =
    let sim = below_get order r (omega arith) in
    sym (length-filter (λ x. eqb x r) ranks)
    ∙ count_one r sim.0 ranks ((inverse sim.0 r).1 sim.1) (λ i there. some_same (sym ((inverse i r).0 there) ∙ sim.1))
