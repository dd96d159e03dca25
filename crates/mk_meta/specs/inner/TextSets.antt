-- For proofs alone. A set of texts beside the list of them.
use Rattle.std.specs.Prelude.{◌≡◌, ℕ, ◌||◌, List}
use Rattle.std.specs.HashSet.{HashSet, contains_text}
use Rattle.std.specs.declared.string.String.{String}
use Rattle.mk_base.specs.Lists.{is_among, same_text}

-- the set has the texts
abbrev pub HasTexts : {S Y : Type 0} → HashSet (String Y) S → List (List ℕ) → Type 0
HasTexts known texts = (text : List ℕ) → contains_text known text ≡ is_among texts text

-- the set has one text more
abbrev pub HasMore : {S Y : Type 0} → HashSet (String Y) S → List ℕ → HashSet (String Y) S → Type 0
HasMore old text new = (other : List ℕ)
    → contains_text new other ≡ contains_text old other || same_text text other
