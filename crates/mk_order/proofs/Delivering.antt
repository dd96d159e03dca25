-- The supply of an act, output by output: after all that connections take it is the supply of the
-- acts grown.
use Rattle.std.proofs.Common.{ℕ, Bool, ◌&&◌, List, ◌==◌}
use Rattle.mk_base.specs.Lists.{same_text}

-- the same attribute of the same entity
abbrev pub is_of : ℕ → List ℕ → ℕ → List ℕ → Bool
is_of e attr f b = (f == e) && same_text b attr
