-- For proofs alone. Which kinds may be added to a registry.
use Rattle.std.specs.Prelude.{◌&&◌, not, Bool, true, List, [], ◌∷◌, ◌++◌}
use Rattle.mk_local.specs.declared.turn.Turn.{Turn}
use Rattle.mk_local.specs.Kinds.{has_kind, name_of}

-- the names of the second rows differ from each other and from those of the first
abbrev pub are_new : List Turn → List Turn → Bool
are_new there [] = true
are_new there (T ∷ more) = not (has_kind (name_of T) there) && are_new (there ++ T ∷ []) more
