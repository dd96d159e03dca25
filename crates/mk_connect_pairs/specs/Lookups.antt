-- What is kept so that nothing is looked for by going through it.
use Rattle.std.specs.Prelude.{◌≡◌, ℕ, ◌<◌, List, Some, slice_get, length}
use Rattle.mk_entities.specs.declared.entities.EntityInfo.{EntityInfo}
use Rattle.mk_connect_pairs.specs.Ends.{members}

-- under each group's number stand its entities
abbrev pub HasMembers : List EntityInfo → List (List ℕ) → Type 0
HasMembers entities groups = (g : ℕ) → g < length groups
    → slice_get groups g ≡ Some (members entities g)
