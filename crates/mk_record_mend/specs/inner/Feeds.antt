-- Where the last line feed of a text stands.
use Rattle.std.specs.Prelude.{◌≡◌, ℕ, true, not, List, ◌∷◌, ◌++◌, length, Option, Some, None}
use Rattle.std.specs.List.{list_all}
use Rattle.mk_record_read.specs.Reading.{is_feed}

-- no byte is a line feed
abbrev pub HasNoFeed : List ℕ → Type 0
HasNoFeed bytes = list_all (λ b. not (is_feed b)) bytes ≡ true

-- the text up to a line feed of this place, and what stands after that has none; or it has none at all
abbrev pub IsLastFeed : List ℕ → Option ℕ → Type 0
IsLastFeed bytes None = HasNoFeed bytes
IsLastFeed bytes (Some n) = (lines piece : List ℕ) × (bytes ≡ lines ++ 10 ∷ piece)
    × (length lines ≡ n) × HasNoFeed piece
