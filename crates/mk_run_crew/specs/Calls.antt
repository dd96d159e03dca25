-- What the calls of a crew do in a run.
use Rattle.std.specs.Prelude.{◌≡◌, ℕ, ◌<◌, ◌≤◌, ◌^◌, true, false, List, [], Option, Some, None, Result, Ok, Err, ⊤, slice_set}
use Rattle.mk_base.specs.declared.SimNo.{SimNo}
use Rattle.mk_frame.specs.Frames.{limit}
use Rattle.mk_outside.specs.declared.fleet.LogEntry.{LogEntry}
use Rattle.mk_plan.specs.declared.Item.{Item}
use Rattle.mk_plan.specs.declared.Message.{Message}
use Rattle.mk_plan.specs.Sequential.{takes_id}
use Rattle.mk_local.specs.Replies.{item_reply, after_item}
use Rattle.mk_local.specs.Simulators.{Simulator}
use Rattle.mk_run_laws.specs.Channels.{Channel}
use Rattle.mk_run_laws.specs.Crews.{channel_at, IsSentOnLink, IsSentWithin, IsHeard, IsUnheard}
use Rattle.mk_run_links.specs.declared.answers.LinkHalt.{LinkHalt}
use Rattle.mk_run_links.specs.declared.answers.LinkHalt.TheVariants as link_halt
use Rattle.mk_run_links.specs.Crews.{ArePending, IsLengthOf}
use Rattle.mk_run_links.specs.Entries.{AreOfLinks}
use Rattle.mk_run_links.specs.Halts.{ShowsHalt}
use Rattle.mk_run_links.specs.Places.{IsChannelLink, IsLinked}
use Rattle.mk_run_local.specs.Seen.{sim_at}
use Rattle.mk_run_crew.specs.declared.halt.Halt.{Halt}
use Rattle.mk_run_crew.specs.declared.halt.Halt.TheVariants as halt
use Rattle.mk_run_crew.specs.Seen.{CrewSeen, crew_of, within_of, is_here}

-- simulator i has a link, whose next id is below 2^32, and the id is that one where the item takes one
abbrev pub HasNext : Item → ℕ → ℕ → CrewSeen → Type 0
HasNext item id i C = (w : Channel) × (channel_at (crew_of C) i ≡ Some w) × (w.next < 2 ^ 32)
    × (takes_id item ≡ true → id ≡ w.next)

-- the reply of simulator s, within the program, to the item is kept, and that simulator has come on
-- by the item
pub record SendsWithin (s : ℕ) (item : Item) (id : ℕ) (old new : CrewSeen) : Type 0 where
  pub sim : Simulator
  pub there : sim_at (within_of old) s ≡ Some sim
  pub reply : Message
  pub replied : item_reply sim id item ≡ Some reply
  pub kept : IsSentWithin s reply (crew_of old) (crew_of new)
  pub sims : new.sims ≡ slice_set old.sims s (Some (after_item sim item))

-- an item was sent to simulator s
pub record SendsAs (s : ℕ) (item : Item) (id : ℕ) (old new : CrewSeen) : Type 0 where
  pub within : is_here old s ≡ true → SendsWithin s item id old new
  pub on_link : is_here old s ≡ false → IsSentOnLink s item id (crew_of old) (crew_of new)
      × (new.sims ≡ old.sims)

-- the payload of the item to simulator s is allowed, where it has a link
abbrev pub IsAllowed : ℕ → Item → CrewSeen → Type 0
IsAllowed s item C = is_here C s ≡ false → (n : ℕ) × IsLengthOf n item s C.channels × (n ≤ limit)

-- why an item wasn't sent: the payload of so many bytes to this simulator's link is more than a
-- frame may have, or memory was wanting
abbrev pub ShowsUnsent : Halt → ℕ → Item → CrewSeen → Type 0
ShowsUnsent (halt.Setup fault) s item C = ⊥
ShowsUnsent halt.Fleet s item C = ⊥
ShowsUnsent (halt.Gone sim) s item C = ⊥
ShowsUnsent (halt.Garbled sim test) s item C = ⊥
ShowsUnsent (halt.LongFrame sim n) s item C = ⊥
ShowsUnsent (halt.LongItem sim n) s item C = (sim.0 ≡ s) × (is_here C s ≡ false)
    × IsLengthOf n item s C.channels × (limit < n)
ShowsUnsent halt.Mem s item C = ⊤

-- a reply is kept, or some simulator has a channel
abbrev pub CanHear : CrewSeen → Type 0
CanHear C = C.kept ≡ [] → (i : ℕ) × IsLinked i C.channels

-- the halt that the links' halt is
abbrev pub halt_of : LinkHalt → Halt
halt_of link_halt.Fleet = halt.Fleet
halt_of (link_halt.Gone sim) = halt.Gone sim
halt_of (link_halt.Garbled sim test) = halt.Garbled sim test
halt_of (link_halt.LongFrame sim n) = halt.LongFrame sim n
halt_of link_halt.Mem = halt.Mem

-- nothing was heard, for this cause
pub record HearsNothing (h : Halt) (entries : List LogEntry) (old new : CrewSeen) : Type 0 where
  pub why : LinkHalt
  pub is : h ≡ halt_of why
  pub unheard : IsUnheard entries (crew_of old) (crew_of new)
  pub shown : ShowsHalt why entries new.channels

-- a message was heard; or nothing was, for this cause
abbrev pub HearsAs : Result (SimNo × Message) Halt → List LogEntry → CrewSeen → CrewSeen → Type 0
HearsAs (Ok p) entries old new = IsHeard entries p.0.0 p.1 (crew_of old) (crew_of new)
HearsAs (Err h) entries old new = HearsNothing h entries old new

-- by reads and writes on the channels' links alone a message was heard; or nothing was, for this
-- cause; or no reply was kept, and each link was looked at, on which nothing had come and all is
-- said or the last write took nothing
abbrev pub TriesAs : Result (Option (SimNo × Message)) Halt → List LogEntry → CrewSeen → CrewSeen
    → Type 0
TriesAs (Ok (Some p)) entries old new = IsHeard entries p.0.0 p.1 (crew_of old) (crew_of new)
    × AreOfLinks (IsChannelLink old.channels) entries
TriesAs (Ok None) entries old new = IsUnheard entries (crew_of old) (crew_of new)
    × AreOfLinks (IsChannelLink old.channels) entries × ArePending entries new.channels
TriesAs (Err h) entries old new = HearsNothing h entries old new
    × AreOfLinks (IsChannelLink old.channels) entries

-- the halt of the links that is answered again after this one: each but want of memory
abbrev pub lasting_halt : Halt → Option LinkHalt
lasting_halt (halt.Setup fault) = None
lasting_halt halt.Fleet = Some link_halt.Fleet
lasting_halt (halt.Gone sim) = Some (link_halt.Gone sim)
lasting_halt (halt.Garbled sim test) = Some (link_halt.Garbled sim test)
lasting_halt (halt.LongFrame sim n) = Some (link_halt.LongFrame sim n)
lasting_halt (halt.LongItem sim n) = None
lasting_halt halt.Mem = None

-- the halt that is answered again after this was heard
abbrev pub lasting : {A : Type 0} → Result A Halt → Option LinkHalt
lasting (Ok heard) = None
lasting (Err h) = lasting_halt h
