-- The first of a record's entries that isn't the journal's.
use Rattle.std.specs.Prelude.{◌≡◌, ℕ, ◌<◌, List, length, take, slice_get, Option, Some, None}
use Rattle.mk_base.specs.Lists.{BeginsWith}
use Rattle.mk_plan.specs.declared.Entry.{Entry}
use Rattle.mk_plan.specs.Journals.{Arrival}
use Rattle.mk_record_read.specs.declared.saved.Asked.{Asked}
use Rattle.mk_record_read.specs.Entries.{RecordEntry, entries_in, entries_of}

-- n is the first place, from 0, whose entry in the record isn't the journal's entry there, or where
-- the journal has none; without such a place the journal begins with the record's entries
abbrev pub IsFirstOther : List RecordEntry → List RecordEntry → Option ℕ → Type 0
IsFirstOther record_has journal_has None = BeginsWith journal_has record_has
IsFirstOther record_has journal_has (Some n) = (n < length record_has)
    × (take n record_has ≡ take n journal_has)
    × (slice_get record_has n ≡ slice_get journal_has n → ⊥)

-- the same of entries that are compared; where none are, there is no such place
abbrev pub IsFirstOtherOf : List RecordEntry → Option (List RecordEntry) → Option ℕ → Type 0
IsFirstOtherOf journal_has None n = n ≡ None
IsFirstOtherOf journal_has (Some record_has) n = IsFirstOther record_has journal_has n

-- the entries of a record, by its messages and its steps; one of version 1 has no steps, and is
-- compared with nothing
abbrev pub entries_compared : List Arrival → Option (List Asked) → Option (List RecordEntry)
entries_compared A None = None
entries_compared A (Some steps) = Some (entries_in A steps)

-- the same of a record with these messages and steps, and of a journal's Steps and messages
abbrev pub IsOther : List Arrival → Option (List Asked) → List Entry → Option ℕ → Type 0
IsOther A steps J n = IsFirstOtherOf (entries_of J) (entries_compared A steps) n
