-- Room for a log: for so many entries, and for so many bytes of them.
use Rattle.std.specs.Prelude.{ℕ, ◌+◌, Bool, ◌&&◌, not, nat_lt, List, [], ◌∷◌, ◌++◌, length}
use Rattle.mk_outside.specs.declared.fleet.LogEntry.{LogEntry}
use Rattle.mk_outside.specs.declared.fleet.LogEntry.TheVariants as entry
use Rattle.mk_fakes.specs.Telling.{Telling}

-- the bytes that were heard or said by an entry
abbrev pub bytes_by : LogEntry → List ℕ
bytes_by (entry.Heard link bytes) = bytes
bytes_by (entry.NotHeard link) = []
bytes_by (entry.Said link bytes) = bytes
bytes_by (entry.NotSaid link) = []
bytes_by (entry.Ended link) = []
bytes_by entry.Rest = []
bytes_by (entry.Told moment) = []
bytes_by entry.Nap = []

-- how many bytes were heard or said by all entries
abbrev pub byte_count : List LogEntry → ℕ
byte_count [] = 0
byte_count (e ∷ es) = length (bytes_by e) + byte_count es

-- the entries are no more than there is room for, and so are their bytes
abbrev pub fit_in : ℕ → ℕ → List LogEntry → Bool
fit_in notes_room bytes_room entries = not (nat_lt notes_room (length entries))
    && not (nat_lt bytes_room (byte_count entries))

-- there is room for these entries behind the others
abbrev pub has_room : List LogEntry → Telling → Bool
has_room more t = fit_in t.notes_room t.bytes_room (t.entries ++ more)
