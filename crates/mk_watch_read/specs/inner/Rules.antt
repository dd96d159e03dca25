-- For proofs alone. Which rules may be added to a store.
use Rattle.std.specs.Prelude.{ℕ, ◌&&◌, not, Bool, true, List, [], ◌∷◌, ◌++◌}
use Rattle.mk_watch_read.specs.Rules.{has_name}

-- the second names differ from each other and from the first
abbrev pub are_new : List (List ℕ) → List (List ℕ) → Bool
are_new there [] = true
are_new there (name ∷ more) = not (has_name name there) && are_new (there ++ name ∷ []) more
