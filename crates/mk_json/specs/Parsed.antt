-- The tree that bytes of JSON have.
use Rattle.std.specs.Prelude.{ℕ, pos, List, [], ◌∷◌, Option, None, option_map, if◌then◌else◌}
use Rattle.std.specs.Str.{is_utf8}
use Rattle.serde_json.specs.Data as value
use Rattle.serde_json.specs.Read.{read}
use Rattle.mk_base.specs.declared.json.Json as tree

-- a number is whole where it is kept as one of 64 bits
abbrev pub tree_of_number : value.Num → tree.Json
tree_of_number (value.unsigned n) = tree.Whole (pos n)
tree_of_number (value.negative z) = tree.Whole z
tree_of_number (value.float x) = tree.Odd

-- the tree of a value of `serde_json`
abbrev mutual
  pub tree_of : value.Data → tree.Json
  tree_of value.null = tree.Null
  tree_of (value.boolean b) = tree.Bool b
  tree_of (value.number n) = tree_of_number n
  tree_of (value.string s) = tree.Text s
  tree_of (value.array ds) = tree.List (items_of ds)
  tree_of (value.object ms) = tree.Object (members_of ms)

  pub items_of : value.Items → List tree.Json
  items_of value.no_items = []
  items_of (value.item d ds) = tree_of d ∷ items_of ds

  pub members_of : value.Members → List (List ℕ × tree.Json)
  members_of value.no_members = []
  members_of (value.member k d ms) = (k, tree_of d) ∷ members_of ms

-- the tree of what `serde_json` reads, if the bytes are JSON in UTF-8
abbrev pub parsed : List ℕ → Option tree.Json
parsed bytes = if is_utf8 bytes then option_map tree_of (read bytes) else None
