-- Why nothing more is heard on a run's links, and what their channels show of that.
use Rattle.std.specs.Prelude.{◌≡◌, List, Option, None, Some, Result, Ok, Err, ⊤, ℕ}
use Rattle.mk_outside.specs.declared.fleet.LogEntry.{LogEntry}
use Rattle.mk_outside.specs.declared.fleet.LogEntry.TheVariants.{Ended}
use Rattle.mk_outside.specs.Logs.{last_read}
use Rattle.mk_frame.specs.Frames.{IsTooLong, IsUnfinished}
use Rattle.mk_session.specs.declared.answers.Heard.{Heard}
use Rattle.mk_session.specs.declared.answers.Heard.TheVariants as heard
use Rattle.mk_session.specs.Fronts.{BeginsGarbled}
use Rattle.mk_run_laws.specs.Channels.{Channel}
use Rattle.mk_run_links.specs.declared.answers.LinkHalt.{LinkHalt}
use Rattle.mk_run_links.specs.declared.answers.LinkHalt.TheVariants as halt
use Rattle.mk_run_links.specs.Places.{Channels, at}

-- why no message was heard: the link has ended where no whole frame was held, or what is held
-- begins with a frame that has no message, or with the header of one that is too long
abbrev pub ShowsHeard : Heard → List LogEntry → Channel → Type 0
ShowsHeard (heard.Message message) entries w = ⊤
ShowsHeard (heard.Garbled test) entries w = BeginsGarbled w.held test
ShowsHeard (heard.TooLong n) entries w = IsTooLong n w.held
ShowsHeard heard.Closed entries w = IsUnfinished w.held
    × (last_read w.link entries ≡ Some (Ended w.link))
ShowsHeard heard.Failed entries w = ⊤
ShowsHeard heard.Mem entries w = ⊤

-- simulator s has a channel, which shows that this was heard
abbrev pub HeardOf : ℕ → Heard → List LogEntry → Channels → Type 0
HeardOf s h entries new = (w : Channel) × (at new s ≡ Some w) × ShowsHeard h entries w

-- what the link of a halt shows
abbrev pub ShowsHalt : LinkHalt → List LogEntry → Channels → Type 0
ShowsHalt halt.Fleet entries new = ⊤
ShowsHalt (halt.Gone sim) entries new = HeardOf sim.0 heard.Closed entries new
ShowsHalt (halt.Garbled sim test) entries new = HeardOf sim.0 (heard.Garbled test) entries new
ShowsHalt (halt.LongFrame sim n) entries new = HeardOf sim.0 (heard.TooLong n) entries new
ShowsHalt halt.Mem entries new = ⊤

-- the halt that is answered again: each but want of memory
abbrev pub lasting_halt : LinkHalt → Option LinkHalt
lasting_halt halt.Fleet = Some halt.Fleet
lasting_halt (halt.Gone sim) = Some (halt.Gone sim)
lasting_halt (halt.Garbled sim test) = Some (halt.Garbled sim test)
lasting_halt (halt.LongFrame sim n) = Some (halt.LongFrame sim n)
lasting_halt halt.Mem = None

-- the halt that is kept after this was heard
abbrev pub lasting : {A : Type 0} → Result A LinkHalt → Option LinkHalt
lasting (Ok heard) = None
lasting (Err h) = lasting_halt h
