-- For proofs alone. Members that a plain text begins with.
use Rattle.std.specs.Prelude.{◌≡◌, ◌⊎◌, ℕ, suc, ◌≤◌, List, [], ◌∷◌, ◌++◌, flat_map, codes, Bool, true, if◌then◌else◌}
use Rattle.std.specs.Ordering.{nat_cmp}
use Rattle.std.specs.declared.cmp.Ordering.TheVariants.{Less}
use Rattle.std.specs.Cmp.Lexicographic.{slice_cmp}
use Rattle.std.specs.List.Sorted.{IsStrictlySortedBy}
use Rattle.std.specs.Map.{keys_of}
use Rattle.std.specs.Str.{is_utf8, IsUtf8}
use Rattle.mk_base.specs.declared.json.Json as tree
use Rattle.mk_base.specs.declared.json.Json.{Json}
use Rattle.mk_base.specs.Lists.{Each}
use Rattle.mk_base.specs.Proper.{is_proper}
use Rattle.mk_base.specs.Texts.{quoted, text_of}
use Rattle.mk_base.specs.Trees.{is_in_range, nesting}

-- the tree can be written, and nests no deeper than this
pub record IsContent (depth : ℕ) (t : Json) : Type 0 where
  pub proper : is_proper t ≡ true
  pub in_range : is_in_range t ≡ true
  pub shallow : nesting t ≤ depth

-- a member's text
abbrev pub member_text : List ℕ × Json → List ℕ
member_text m = quoted m.0 ++ codes ":" ++ text_of m.1

-- members' texts, a comma behind each
abbrev pub led : List (List ℕ × Json) → List ℕ
led ms = flat_map (λ m. member_text m ++ 44 ∷ []) ms

-- what stands behind a member: a comma if more members follow, else a brace
abbrev pub ending : Bool → ℕ
ending more = if more then 44 else 125

-- the name is UTF-8, and the value can be written
abbrev pub IsMember : ℕ → List ℕ × Json → Type 0
IsMember depth m = (is_utf8 m.0 ≡ true) × IsContent depth m.1

-- the name isn't above the last one
abbrev pub IsUpTo : List ℕ → List ℕ → Type 0
IsUpTo last name = (name ≡ last) ⊎ (slice_cmp nat_cmp name last ≡ Less)

-- the text begins with a member whose name is above the last one, and its ending
pub record Begins (depth : ℕ) (last whole name : List ℕ) (value : Json) (more : Bool) (rest : List ℕ) : Type 0 where
  pub text : whole ≡ member_text (name, value) ++ ending more ∷ rest
  pub above : slice_cmp nat_cmp last name ≡ Less
  pub utf8 : IsUtf8 name
  pub content : IsContent depth value

-- the text begins with these members, their names rise up to the last one, and each can be written
pub record Found (depth : ℕ) (whole last : List ℕ) (ms : List (List ℕ × Json)) (rest : List ℕ) : Type 0 where
  pub text : whole ≡ led ms ++ rest
  pub each : Each (IsMember depth) ms
  pub sorted : IsStrictlySortedBy (slice_cmp nat_cmp) (keys_of ms)
  pub up_to : Each (IsUpTo last) (keys_of ms)

-- behind a brace the text begins with an object of these members, which can be written
pub record Closes (depth : ℕ) (whole : List ℕ) (ms : List (List ℕ × Json)) (rest : List ℕ) : Type 0 where
  pub text : 123 ∷ whole ≡ text_of (tree.Object ms) ++ rest
  pub content : IsContent (suc depth) (tree.Object ms)
  pub sorted : IsStrictlySortedBy (slice_cmp nat_cmp) (keys_of ms)
