-- For proofs alone. A table of edges as a relation.
use Rattle.std.specs.Prelude.{◌≡◌, ℕ, ◌+◌, ◌*◌, ◌^◌, ◌<◌, ◌&&◌, Bool, false, List, length, nat_lt, slice_index_or}

-- row by row for each simulator, whether each simulator leads to it
pub record Rows : Type 0 where
  pub sims : ℕ
  pub set : List Bool

pub record IsSquare (sims : ℕ) (set : List Bool) : Type 0 where
  pub area : length set ≡ sims * sims
  pub small : sims < 2 ^ 32

abbrev pub is_set : ℕ → List Bool → ℕ → ℕ → Bool
is_set sims set from to = nat_lt from sims
    && (nat_lt to sims && slice_index_or set (to * sims + from) false)

-- whether the table has an edge
abbrev pub leads : Rows → ℕ → ℕ → Bool
leads t = is_set t.sims t.set
