-- A record that was cut short, and the `end` line that it lacks.
use Rattle.std.specs.Prelude.{ℕ, Bool, false, List, [], ◌∷◌, ◌++◌, length, flat_map, codes, ◌||◌, if◌then◌else◌}
use Rattle.std.specs.Fmt.{decimal}
use Rattle.std.specs.List.{filter, slice_split}
use Rattle.mk_base.specs.Lists.{same_text}
use Rattle.mk_record_read.specs.Reading.{is_feed, word_of}

-- all items, without the last one
abbrev pub all_but_last : {X : Type 0} → List X → List X
all_but_last [] = []
all_but_last (x ∷ []) = []
all_but_last (x ∷ y ∷ more) = x ∷ all_but_last (y ∷ more)

-- the whole lines of a text: what stands before each line feed, back to the one before it
abbrev pub whole_lines : List ℕ → List (List ℕ)
whole_lines text = all_but_last (slice_split is_feed text)

-- the line says that a step was asked for, or that a message came
abbrev pub is_entry : List ℕ → Bool
is_entry line = same_text (word_of line) (codes "ask") || same_text (word_of line) (codes "got")

-- there is a last line, and it says so
abbrev pub ends_in_entry : List (List ℕ) → Bool
ends_in_entry [] = false
ends_in_entry (line ∷ []) = is_entry line
ends_in_entry (line ∷ next ∷ lines) = ends_in_entry (next ∷ lines)

-- these lines, each with its line feed
abbrev pub text_of_lines : List (List ℕ) → List ℕ
text_of_lines lines = flat_map (λ line. line ++ codes "\n") lines

-- the `end` line of a record with so many entries
abbrev pub end_line : ℕ → List ℕ
end_line count = codes "end " ++ decimal count ++ codes "\n"

-- a text whose last whole line is an entry: its whole lines, and the `end` line that counts the
-- entries among them. Any other text is left as it is
abbrev pub mended : List ℕ → List ℕ
mended text = if ends_in_entry (whole_lines text) then text_of_lines (whole_lines text)
    ++ end_line (length (filter is_entry (whole_lines text))) else text
