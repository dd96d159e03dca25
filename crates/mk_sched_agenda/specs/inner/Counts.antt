-- For proofs alone. How many turns are open.
use Rattle.std.specs.Prelude.{ℕ, suc, zero, Bool, true, false, List, [], ◌∷◌}

-- how many of these flags are set
abbrev pub open_among : List Bool → ℕ
open_among [] = zero
open_among (true ∷ more) = suc (open_among more)
open_among (false ∷ more) = open_among more
