-- Edges between simulators, which are known by their numbers.
use Rattle.std.specs.Prelude.{◌==◌, ◌&&◌, ◌<◌, ℕ, Bool, List, [], ◌∷◌, ◌++◌, ⊤}
use Rattle.std.specs.List.{list_any}
use Rattle.mk_base.specs.Lists.{Each, IsIn}
use Rattle.mk_cycles.specs.declared.ranking.Edge.{Edge}

abbrev pub edge : ℕ → ℕ → Edge
edge p s = record { from = record { 0 = p }; to = record { 0 = s } }

-- there is an edge from p to s
abbrev pub has_edge : List Edge → ℕ → ℕ → Bool
has_edge edges p s = list_any (λ (e : Edge). (e.from.0 == p) && (e.to.0 == s)) edges

-- the ends of the edges are numbers below the count
abbrev pub EndsBelow : ℕ → List Edge → Type 0
EndsBelow sims edges = Each (λ (e : Edge). (e.from.0 < sims) × (e.to.0 < sims)) edges

-- R leads from each number to the one behind it
abbrev pub IsChain : (ℕ → ℕ → Type 0) → List ℕ → Type 0
IsChain R [] = ⊤
IsChain R (x ∷ []) = ⊤
IsChain R (x ∷ y ∷ more) = R x y × IsChain R (y ∷ more)

-- from each number of the walk an edge leads to the one behind it, and from the last to the first
abbrev pub IsClosedWalk : List Edge → List ℕ → Type 0
IsClosedWalk edges [] = ⊥
IsClosedWalk edges (first ∷ more) = IsChain (λ p s. IsIn (edge p s) edges) ((first ∷ more)
    ++ first ∷ [])
