-- For proofs alone. Beside `Forms`, which has what a reader needs.
use Rattle.std.specs.Prelude.{ℕ, List, [], ◌∷◌, map, Option, Some, None, is_some, option_map, if◌then◌else◌}
use Rattle.mk_base.specs.declared.json.Json.{Json}
use Rattle.mk_base.specs.Lists.{all_there}
use Rattle.mk_base.specs.Trees.{text_in, texts_in}
use Rattle.mk_plan.specs.Asks.{Request, Get, Set, Related, RelatedOfEach, members_by, datum_in}
use Rattle.mk_async.specs.Asked.{named_by}

-- the one item
abbrev pub only : List Json → Option Json
only (tree ∷ []) = Some tree
only _ = None

-- the requests of each function, by the argument
abbrev pub get_form : Json → Option Request
get_form tree = option_map Get (members_by texts_in tree)

abbrev pub set_form : Json → Option Request
set_form tree = option_map Set (members_by (members_by (members_by datum_in)) tree)

abbrev pub set_of : List (List ℕ × Json) → Option Request
set_of ms = option_map Set (named_by (members_by (members_by datum_in)) ms)

abbrev pub texts_form : Json → Option Request
texts_form tree = option_map RelatedOfEach (texts_in tree)

abbrev pub texts_of : List Json → Option Request
texts_of trees = option_map RelatedOfEach (all_there (map text_in trees))

abbrev pub related_form : Json → Option Request
related_form tree = if is_some (text_in tree) then option_map Related (text_in tree)
    else texts_form tree
