-- For proofs alone. The links of a fleet that starts none.
use Rattle.std.specs.Prelude.{List, [], ◌∷◌, Option, None, Some}
use Rattle.mk_base.specs.declared.LinkNo.{LinkNo}

-- the open links of a fleet that has this one, or none
abbrev pub given : Option LinkNo → List LinkNo
given None = []
given (Some link) = link ∷ []
