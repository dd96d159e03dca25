-- What contracts see of the parts of a fleet in memory.
use Rattle.std.specs.Prelude.{ℕ, ◌/◌, ◌+◌, Bool, List, [], ◌++◌, min}
use Rattle.mk_base.specs.declared.LinkNo.{LinkNo}
use Rattle.mk_outside.specs.declared.fleet.LogEntry.{LogEntry}
use Rattle.mk_outside.specs.Fleets.{last_moment}
use Rattle.mk_fakes.specs.declared.wires.Chunk.{Chunk}

-- a log, the number that a clock stands at, and for how many entries and bytes of them there is
-- room
pub record Telling : Type 0 where
  pub entries : List LogEntry
  pub clock : ℕ
  pub notes_room : ℕ
  pub bytes_room : ℕ

-- nothing was noted, in room for so many bytes and one entry for every 16 of them
abbrev pub blank : ℕ → Telling
blank room = record { entries = []; clock = 0; notes_room = room / 16; bytes_room = room }

-- with more entries
abbrev pub with_entries : List LogEntry → Telling → Telling
with_entries more t = record {
  entries = t.entries ++ more;
  clock = t.clock;
  notes_room = t.notes_room;
  bytes_room = t.bytes_room;
}

-- with the clock at this number
abbrev pub with_clock : ℕ → Telling → Telling
with_clock n t = record {
  entries = t.entries;
  clock = n;
  notes_room = t.notes_room;
  bytes_room = t.bytes_room;
}

-- with the clock so many milliseconds further on; it stays at its greatest number
abbrev pub advanced : ℕ → Telling → Telling
advanced ms t = with_clock (min (t.clock + ms) last_moment) t

-- a link: the chunks that are still to come on it, the first without those of its bytes that have
-- come; how many bytes were said on it; and whether the last write on it answered NotYet
pub record Line : Type 0 where
  pub rest : List Chunk
  pub said : ℕ
  pub held_up : Bool

-- how many links were started, which are open, the chunks of all links, and each link that was
-- started, by its number
pub record Wiring : Type 0 where
  pub started : ℕ
  pub links : List LinkNo
  pub chunks : List Chunk
  pub lines : List Line

-- how many bytes a write takes at most, which writes take none, and how many writes there were
pub record Biting : Type 0 where
  pub bite : ℕ
  pub balk : ℕ
  pub writes : ℕ
