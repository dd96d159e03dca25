-- What is left where no order has all simulators, and the cycle that is named.
use Rattle.std.specs.Prelude.{◌≡◌, ℕ, ◌<◌, ◌≤◌, Bool, true, List, [], ◌∷◌, ◌++◌}
use Rattle.mk_base.specs.Lists.{Each, IsIn}
use Rattle.mk_cycles.specs.Edges.{IsChain}
use Rattle.mk_cycles.specs.Orders.{MayFollow, IsOrder}

-- s has no place in the order
abbrev pub IsUnplaced : ℕ → List ℕ → ℕ → Type 0
IsUnplaced n order s = (s < n) × (IsIn s order → ⊥)

-- p is the least-numbered one left that s needs
abbrev pub IsBack : (ℕ → ℕ → Bool) → ℕ → List ℕ → ℕ → ℕ → Type 0
IsBack before n order s p =
    IsUnplaced n order p × (before p s ≡ true)
    × ((q : ℕ) → IsUnplaced n order q → before q s ≡ true → p ≤ q)

-- going back from the least-numbered one left comes to s
pub data IsGoneBackTo (before : ℕ → ℕ → Bool) (n : ℕ) (order : List ℕ) : ℕ → Type 0 where
  at_least : (s : ℕ) → IsUnplaced n order s → ((t : ℕ) → IsUnplaced n order t → s ≤ t)
      → IsGoneBackTo before n order s
  further : (s p : ℕ) → IsGoneBackTo before n order s → IsBack before n order s p
      → IsGoneBackTo before n order p

-- a loop that going back comes to, in the edges' direction, from its least number, passed once
abbrev pub IsLoop : (ℕ → ℕ → Bool) → ℕ → List ℕ → List ℕ → Type 0
IsLoop before n order [] = ⊥
IsLoop before n order (first ∷ more) =
    IsGoneBackTo before n order first × Each (λ s. first < s) more
    × IsChain (λ p s. IsBack before n order s p) ((first ∷ more) ++ first ∷ [])

-- the order goes no further, and the walk is the loop among those left
abbrev pub IsCycle : (ℕ → ℕ → Bool) → ℕ → List ℕ → Type 0
IsCycle before n walk =
    (order : List ℕ) × IsOrder before n order × ((s : ℕ) → MayFollow before n order s → ⊥)
    × IsLoop before n order walk
