-- Where ids stand, and how they are found.
use Rattle.std.specs.Prelude.{ℕ, List, Option}
use Rattle.std.specs.List.{position}
use Rattle.mk_base.specs.Lists.{same_text}

-- the first place of this id among these
abbrev pub place_in : List (List ℕ) → List ℕ → Option ℕ
place_in ids id = position (λ x. same_text id x) ids
