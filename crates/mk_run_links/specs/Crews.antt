-- What the calls of a run's links do.
use Rattle.std.specs.Prelude.{◌≡◌, ℕ, true, List, length, Option, Some, None, Result, Ok, Err}
use Rattle.mk_base.specs.declared.SimNo.{SimNo}
use Rattle.mk_outside.specs.declared.fleet.LogEntry.{LogEntry}
use Rattle.mk_plan.specs.declared.Item.{Item}
use Rattle.mk_plan.specs.declared.Message.{Message}
use Rattle.mk_message.specs.Written.{item_text}
use Rattle.mk_run_laws.specs.Channels.{IsParkedIn, Channel}
use Rattle.mk_run_laws.specs.Crews.{IsRestless, IsHeard, IsUnheard, AreStopped}
use Rattle.mk_run_links.specs.declared.answers.LinkHalt.{LinkHalt}
use Rattle.mk_run_links.specs.Halts.{ShowsHalt}
use Rattle.mk_run_links.specs.Entries.{AreOfLinks, AreOn}
use Rattle.mk_run_links.specs.Places.{IsChannelLink, Channels, at, crew}

-- the payload of an item to simulator s, with the next id of its channel, has n bytes
abbrev pub IsLengthOf : ℕ → Item → ℕ → Channels → Type 0
IsLengthOf n item s channels = (w : Channel) × (at channels s ≡ Some w)
    × (n ≡ length (item_text w.next item))

-- a message was heard; or nothing was, for this cause
abbrev pub HearsAs : Result (SimNo × Message) LinkHalt → List LogEntry → Channels → Channels
    → Type 0
HearsAs (Ok p) entries old new = IsHeard entries p.0.0 p.1 (crew old) (crew new)
HearsAs (Err h) entries old new = IsUnheard entries (crew old) (crew new) × ShowsHalt h entries new

-- by these entries each channel was looked at, nothing had come on it, and all of it is said or its
-- last write took nothing; it is parked
abbrev pub ArePending : List LogEntry → Channels → Type 0
ArePending entries channels = (i : ℕ) (w : Channel) → at channels i ≡ Some w
    → (w.parked ≡ true) × IsParkedIn entries w

-- by reads and writes on the channels' links alone a message was heard; or nothing was, for this
-- cause; or nothing was, and each channel was looked at
abbrev pub TriesAs : Result (Option (SimNo × Message)) LinkHalt → List LogEntry → Channels
    → Channels
    → Type 0
TriesAs (Ok (Some p)) entries old new = IsHeard entries p.0.0 p.1 (crew old) (crew new)
    × AreOfLinks (IsChannelLink old) entries
TriesAs (Ok None) entries old new = IsUnheard entries (crew old) (crew new)
    × AreOfLinks (IsChannelLink old) entries × ArePending entries new
TriesAs (Err h) entries old new = IsUnheard entries (crew old) (crew new)
    × AreOfLinks (IsChannelLink old) entries × ShowsHalt h entries new

-- every channel was stopped by reads and writes on the channels' links alone, and the fleet didn't
-- rest
abbrev pub StopsAll : List LogEntry → Type 0 → Channels → Type 0
StopsAll entries risen channels = AreStopped entries risen (crew channels) × IsRestless entries
    × AreOn (IsChannelLink channels) entries
