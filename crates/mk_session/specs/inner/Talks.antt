-- For proofs alone. Beside `Talks`, which has what a reader needs.
use Rattle.std.specs.Prelude.{◌≡◌, ◌<◌, ◌≤◌, ℕ, Bool, true, false, ◌++◌, List, [], None, Some, length, take}
use Rattle.mk_base.specs.declared.LinkNo.{LinkNo}
use Rattle.mk_base.specs.Lists.{Each}
use Rattle.mk_outside.specs.declared.fleet.LogEntry.{LogEntry}
use Rattle.mk_outside.specs.declared.fleet.LogEntry.TheVariants.{NotHeard, Ended}
use Rattle.mk_outside.specs.Logs.{IsOnLink, heard_on, said_on, last_read, last_write}
use Rattle.mk_session.specs.declared.answers.Polled.{Polled}
use Rattle.mk_session.specs.declared.saying.Said.{Said}
use Rattle.mk_session.specs.declared.saying.Said.TheVariants as said
use Rattle.mk_session.specs.declared.inbox.Listened.{Listened}
use Rattle.mk_session.specs.declared.inbox.Listened.TheVariants as listened
use Rattle.mk_session.specs.Talks.{EachTook, IsHeldUp, LastTookNothing, Writes, IsSaidOut, FoundAs, ReadsLate}

-- all bytes were said, or so many of them before a write that took nothing or failed
abbrev pub SaidAs : LinkNo → Said → List ℕ → List LogEntry → Type 0
SaidAs link said.All bytes entries = Writes link entries bytes
    × EachTook link entries
SaidAs link (said.NotYet n) bytes entries = (n < length bytes) × Writes link entries (take n bytes)
    × IsHeldUp link (last_write link entries) × LastTookNothing link entries
SaidAs link (said.Failed n) bytes entries = (n < length bytes) × Writes link entries (take n bytes)
    × EachTook link entries

-- the front of what was unsent was said, and the rest is unsent
abbrev pub SpokenAs : LinkNo → Bool → List ℕ → List ℕ → List LogEntry → Type 0
SpokenAs link true old new entries = (bytes : List ℕ) × Writes link entries bytes
    × (bytes ++ new ≡ old) × IsSaidOut link (last_write link entries) new
SpokenAs link false old new entries = (bytes : List ℕ) × Writes link entries bytes
    × (bytes ++ new ≡ old)

-- entries of reads of one link alone, by which these bytes were heard
pub record Reads (link : LinkNo) (entries : List LogEntry) (bytes : List ℕ) : Type 0 where
  pub on_link : Each (IsOnLink link) entries
  pub no_write : last_write link entries ≡ None
  pub not_said : said_on link entries ≡ []
  pub heard : heard_on link entries ≡ bytes

-- what one read did to the bytes held
abbrev pub ListenedAs : LinkNo → Listened → List ℕ → List ℕ → List LogEntry → Type 0
ListenedAs link listened.Got old new entries = (bytes : List ℕ) × (0 < length bytes)
    × Reads link entries bytes × (new ≡ old ++ bytes) × (length entries ≤ 1)
ListenedAs link listened.NotYet old new entries = Reads link entries [] × (new ≡ old)
    × (last_read link entries ≡ Some (NotHeard link)) × (length entries ≤ 1)
ListenedAs link listened.Closed old new entries = Reads link entries [] × (new ≡ old)
    × (last_read link entries ≡ Some (Ended link)) × (length entries ≤ 1)
ListenedAs link listened.Failed old new entries = Reads link entries [] × (new ≡ old)
    × (length entries ≤ 1)
ListenedAs link listened.Mem old new entries = Reads link entries [] × (new ≡ old)
    × (length entries ≤ 1)

-- reads until there is a message, or none can be had, each read where no whole frame is held
abbrev pub HeardAs : LinkNo → Polled → List ℕ → List ℕ → List LogEntry → Type 0
HeardAs link answer old new entries = (bytes : List ℕ) × Reads link entries bytes
    × FoundAs link answer (old ++ bytes) new (last_read link entries) × ReadsLate link old entries
