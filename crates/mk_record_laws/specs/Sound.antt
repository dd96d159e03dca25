-- A tree as bytes have it.
use Rattle.std.specs.Prelude.{◌≡◌, ◌≤◌, true}
use Rattle.mk_base.specs.declared.json.Json.{Json}
use Rattle.mk_base.specs.Trees.{is_in_range, nesting}
use Rattle.mk_base.specs.Proper.{is_proper}

-- its texts are UTF-8 and its names in order, its whole numbers are in range, and it nests at most
-- 127 deep
pub record IsSoundTree (tree : Json) : Type 0 where
  pub proper : is_proper tree ≡ true
  pub in_range : is_in_range tree ≡ true
  pub nests : nesting tree ≤ 127
