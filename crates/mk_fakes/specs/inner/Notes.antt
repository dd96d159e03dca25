-- For proofs alone. How a log is kept: notes, and the bytes of all of them, joined.
use Rattle.std.specs.Prelude.{ℕ, ◌+◌, List, [], ◌∷◌, take, drop}
use Rattle.mk_outside.specs.declared.fleet.LogEntry.{LogEntry}
use Rattle.mk_outside.specs.declared.fleet.LogEntry.TheVariants as entry
use Rattle.mk_fakes.specs.declared.note.Note.{Note}
use Rattle.mk_fakes.specs.declared.note.Note.TheVariants as note

-- how many bytes belong to a note
abbrev pub note_length : Note → ℕ
note_length (note.Heard link n) = n
note_length (note.NotHeard link) = 0
note_length (note.Said link n) = n
note_length (note.NotSaid link) = 0
note_length (note.Ended link) = 0
note_length note.Rest = 0
note_length (note.Told moment) = 0
note_length note.Nap = 0

-- the entry of a note and its bytes
abbrev pub entry_of : Note → List ℕ → LogEntry
entry_of (note.Heard link n) bytes = entry.Heard link bytes
entry_of (note.NotHeard link) bytes = entry.NotHeard link
entry_of (note.Said link n) bytes = entry.Said link bytes
entry_of (note.NotSaid link) bytes = entry.NotSaid link
entry_of (note.Ended link) bytes = entry.Ended link
entry_of note.Rest bytes = entry.Rest
entry_of (note.Told moment) bytes = entry.Told moment
entry_of note.Nap bytes = entry.Nap

-- how many bytes belong to all notes
abbrev pub all_length : List Note → ℕ
all_length [] = 0
all_length (n ∷ ns) = note_length n + all_length ns

-- the entries of notes, whose bytes stand one after the other
abbrev pub entries_of : List Note → List ℕ → List LogEntry
entries_of [] bytes = []
entries_of (n ∷ ns) bytes = entry_of n (take (note_length n) bytes)
    ∷ entries_of ns (drop (note_length n) bytes)
