-- What the calls of a fleet in memory answer, and which of them fail.
use Rattle.std.specs.Prelude.{ℕ, Bool, not, ◌||◌, List, [], ◌∷◌, ◌++◌, length, take, drop, min, Option, None, Some, unwrap_or, if◌then◌else◌}
use Rattle.std.specs.List.{list_any}
use Rattle.mk_base.specs.declared.LinkNo.{LinkNo}
use Rattle.mk_outside.specs.declared.fleet.LogEntry.{LogEntry}
use Rattle.mk_outside.specs.declared.fleet.LogEntry.TheVariants.{Rest, Told, Nap}
use Rattle.mk_outside.specs.declared.fleet.ReadLink.{ReadLink}
use Rattle.mk_outside.specs.declared.fleet.ReadLink.TheVariants as read
use Rattle.mk_outside.specs.declared.fleet.WriteLink.{WriteLink}
use Rattle.mk_outside.specs.declared.fleet.WriteLink.TheVariants as write
use Rattle.mk_outside.specs.Fleets.{read_entries, write_entries}
use Rattle.mk_fakes.specs.declared.failing.Failing.{Failing}
use Rattle.mk_fakes.specs.declared.mem_fleet.MemFleet.{MemFleet}
use Rattle.mk_fakes.specs.Fakes.{fails_now, next_count}
use Rattle.mk_fakes.specs.Paces.{balks, does_sleep}
use Rattle.mk_fakes.specs.Rooms.{has_room}
use Rattle.mk_fakes.specs.Scripts.{coming, is_awake}
use Rattle.mk_fakes.specs.Telling.{Biting, Wiring}

-- what a read into so many bytes finds, where this comes
abbrev pub read_of : Option (List ℕ) → ℕ → ReadLink
read_of None size = read.NotYet
read_of (Some []) size = read.Closed
read_of (Some (b ∷ bs)) size = read.Got (min (length (b ∷ bs)) size)

-- what a read of the link into so many bytes finds
abbrev pub hears : Wiring → LinkNo → ℕ → ReadLink
hears w link size = read_of (coming w link) size

-- the bytes that come on a link, if any do
abbrev pub bytes_on : Wiring → LinkNo → List ℕ
bytes_on w link = unwrap_or (coming w link) []

-- a buffer, after a read with this answer where these bytes came
abbrev pub filled : ReadLink → List ℕ → List ℕ → List ℕ
filled (read.Got n) bytes old = take n bytes ++ drop n old
filled read.NotYet bytes old = old
filled read.Closed bytes old = old
filled read.Failed bytes old = old

-- what a write of so many bytes comes to
abbrev pub says : Biting → ℕ → WriteLink
says b size = if balks b then write.NotYet else write.Put (min b.bite size)

-- after one more call, which failed or didn't
abbrev pub after_answer : Bool → Failing → Failing
after_answer failed f = record {
  numbers = f.numbers;
  calls = next_count f.calls;
  faults = if failed
      then next_count f.faults else f.faults;
}

-- the next call is one of those that fail, or these entries don't fit
abbrev pub refuses : MemFleet → List LogEntry → Bool
refuses f entries = fails_now f.failing || not (has_room entries f.diary)

-- a read into so many bytes fails
abbrev pub read_fails : MemFleet → LinkNo → ℕ → Bool
read_fails f link size = refuses f
    (read_entries link (hears f.wires link size) (bytes_on f.wires link))

-- a write of these bytes fails
abbrev pub write_fails : MemFleet → LinkNo → List ℕ → Bool
write_fails f link bytes = refuses f (write_entries link (says f.bites (length bytes)) bytes)

-- a wait fails: also where none of the links is awake
abbrev pub wait_fails : MemFleet → List LinkNo → Bool
wait_fails f links = refuses f (Rest ∷ []) || not (list_any (is_awake f.wires) links)

-- a look at the clock fails
abbrev pub now_fails : MemFleet → Bool
now_fails f = refuses f (Told f.diary.clock ∷ [])

-- a sleep fails: also where its number is too great
abbrev pub sleep_fails : MemFleet → Bool
sleep_fails f = refuses f (Nap ∷ []) || not (does_sleep f.pace)
