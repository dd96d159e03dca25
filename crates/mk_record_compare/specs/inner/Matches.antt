-- For proofs alone. What the comparison has found out about one entry of the journal.
use Rattle.std.specs.Prelude.{◌≡◌, ℕ, ◌+◌, ◌≤◌, List, [], ◌∷◌, length, map, drop, slice_get, Option, Some, None}
use Rattle.mk_base.specs.declared.SimNo.{SimNo}
use Rattle.mk_base.specs.Lists.{BeginsWith}
use Rattle.mk_plan.specs.declared.Message.{Message}
use Rattle.mk_plan.specs.declared.Entry.{Entry}
use Rattle.mk_plan.specs.declared.Entry.TheVariants.{Got}
use Rattle.mk_plan.specs.Journals as journals
use Rattle.mk_plan.specs.Journals.{arrivals}
use Rattle.mk_record_read.specs.declared.saved.Arrival.{Arrival}
use Rattle.mk_record_read.specs.declared.saved.Asked.{Asked}
use Rattle.mk_record_read.specs.Seen.{came}
use Rattle.mk_record_read.specs.Entries.{RecordEntry, MessageOf, entries_after, entry_of}
use Rattle.mk_record_compare.specs.declared.first.Match.{Match}
use Rattle.mk_record_compare.specs.declared.first.Match.TheVariants.{Neither, NextStep, NextMessage, Another, Behind}

-- A are the messages of the record: those at hand; or else so many, of which the journal has the
-- first
abbrev pub AreMessages : Option (List Arrival) → ℕ → List Entry → List Arrival → Type 0
AreMessages None count J A = BeginsWith (map came A) (arrivals J) × (length A ≡ count)
AreMessages (Some messages) count J A = (A ≡ messages) × (length A ≡ count)

-- a is the message that comes after n: the one at hand, or else the one that the journal has here
abbrev pub IsNamed : Option (List Arrival) → ℕ → journals.Arrival → Arrival → Type 0
IsNamed None n here a = came a ≡ here
IsNamed (Some messages) n here a = slice_get messages n ≡ Some a

-- where the journal's entry is a message, this is so of the first message that is left
abbrev pub IsNextNamed : Option (List Arrival) → ℕ → Entry → List Arrival → Type 0
IsNextNamed messages n e A = (s : SimNo) (m : Message) (a : Arrival) (more : List Arrival)
    → e ≡ Got s m → A ≡ a ∷ more → IsNamed messages n (record { sim = s.0; message = m }) a

-- the record's entries that are left
abbrev pub left : ℕ → List Arrival → List Asked → List RecordEntry
left n A steps = entries_after n (map came A) steps

-- no step is the next entry that is left: a message is, if there is one
pub record IsMessageNext (n : ℕ) (A : List Arrival) (steps : List Asked) : Type 0 where
  pub none : A ≡ [] → left n A steps ≡ []
  pub some : (a : Arrival) (more : List Arrival) → A ≡ a ∷ more
      → left n A steps ≡ MessageOf (came a) ∷ left (n + 1) more steps

-- what a journal's entry is to the entries that are left
abbrev pub IsMatch : ℕ → List Arrival → List Asked → Entry → Match → Type 0
IsMatch n A steps e Neither = entry_of e ≡ None
IsMatch n A steps e NextStep = (x : RecordEntry) × (entry_of e ≡ Some x)
    × (left n A steps ≡ x ∷ left n A (drop 1 steps)) × (1 ≤ length steps)
IsMatch n A steps e NextMessage = (x : RecordEntry) × (entry_of e ≡ Some x)
    × (left n A steps ≡ x ∷ left (n + 1) (drop 1 A) steps) × (1 ≤ length A)
IsMatch n A steps e Another = (x : RecordEntry) × (y : RecordEntry) × (rest : List RecordEntry)
    × (entry_of e ≡ Some x) × (left n A steps ≡ y ∷ rest) × (x ≡ y → ⊥)
IsMatch n A steps e Behind = (x : RecordEntry) × (entry_of e ≡ Some x) × (left n A steps ≡ [])
