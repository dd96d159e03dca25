-- The order of ranks among n simulators, where `before p s` tells that p needs a rank before s.
use Rattle.std.specs.Prelude.{◌≡◌, ℕ, ◌<◌, ◌≤◌, ◌↔◌, Bool, true, List, length, take, slice_get, Some}
use Rattle.mk_base.specs.Lists.{IsIn}

-- s is not among those that are placed, and all that it needs are
abbrev pub MayFollow : (ℕ → ℕ → Bool) → ℕ → List ℕ → ℕ → Type 0
MayFollow before n placed s = (s < n) × (IsIn s placed → ⊥)
    × ((p : ℕ) → p < n → before p s ≡ true → IsIn p placed)

-- s is the least-numbered simulator that may follow those that are placed
abbrev pub IsNext : (ℕ → ℕ → Bool) → ℕ → List ℕ → ℕ → Type 0
IsNext before n placed s = MayFollow before n placed s
    × ((t : ℕ) → MayFollow before n placed t → s ≤ t)

-- in each place is the simulator that comes next after those in the places before it
abbrev pub IsOrder : (ℕ → ℕ → Bool) → ℕ → List ℕ → Type 0
IsOrder before n order = (r s : ℕ) → slice_get order r ≡ Some s → IsNext before n (take r order) s

-- the simulators are all in order, and s has the rank r exactly if it is in the place r
abbrev pub IsRanking : (ℕ → ℕ → Bool) → ℕ → List ℕ → Type 0
IsRanking before n ranks =
    (order : List ℕ) × IsOrder before n order × (length order ≡ n) × (length ranks ≡ n)
    × ((s r : ℕ) → (slice_get ranks s ≡ Some r) ↔ (slice_get order r ≡ Some s))
