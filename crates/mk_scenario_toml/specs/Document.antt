-- The tree that a text of TOML has.
use Rattle.std.specs.Prelude.{ℕ, List, [], ◌∷◌, Option, None, option_map, if◌then◌else◌}
use Rattle.std.specs.Str.{is_utf8}
use Rattle.toml.specs.Data as value
use Rattle.toml.specs.Parse.{parse_document}
use Rattle.mk_base.specs.declared.json.Json as tree

-- the tree of a value of `toml`: what is neither an integer, a truth value, a text, an array nor a
-- table is odd
abbrev mutual
  pub tree_of : value.Data → tree.Json
  tree_of (value.string s) = tree.Text s
  tree_of (value.integer z) = tree.Whole z
  tree_of (value.float x) = tree.Odd
  tree_of (value.boolean b) = tree.Bool b
  tree_of (value.datetime d) = tree.Odd
  tree_of (value.array ds) = tree.List (items_of ds)
  tree_of (value.table ms) = tree.Object (members_of ms)

  pub items_of : value.Items → List tree.Json
  items_of value.no_items = []
  items_of (value.item d ds) = tree_of d ∷ items_of ds

  pub members_of : value.Members → List (List ℕ × tree.Json)
  members_of value.no_members = []
  members_of (value.member k d ms) = (k, tree_of d) ∷ members_of ms

-- the tree of the table that a text in UTF-8 is, its keys in byte order, if the text is TOML
abbrev pub table_of : List ℕ → Option tree.Json
table_of text = option_map (λ ms. tree.Object (members_of ms)) (parse_document text)

-- the tree of the table that bytes are, if they are a text of TOML in UTF-8
abbrev pub toml_of : List ℕ → Option tree.Json
toml_of bytes = if is_utf8 bytes then table_of bytes else None
