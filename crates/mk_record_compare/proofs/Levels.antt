-- What a level of a tree says of the tree.
use Rattle.std.proofs.Common.{ℕ, ℤ, Bool, true, false, List, Option, Some, None}
use Rattle.mk_base.specs.declared.json.Json.{Json, Json-F}

abbrev bool_at : Json-F Json → Option Bool
bool_at (Json-F.Bool b) = Some b
bool_at _ = None

abbrev whole_at : Json-F Json → Option ℤ
whole_at (Json-F.Whole n) = Some n
whole_at _ = None

abbrev text_at : Json-F Json → Option (List ℕ)
text_at (Json-F.Text s) = Some s
text_at _ = None

abbrev null_at : Json-F Json → Bool
null_at Json-F.Null = true
null_at _ = false
