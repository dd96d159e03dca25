-- For proofs alone. What came of one look at a link, of looks at all of them, and of one rest.
use Rattle.std.specs.Prelude.{◌≡◌, ℕ, ◌==◌, Bool, true, false, ◌&&◌, ◌||◌, List, [], ◌∷◌, length, map, Result, Ok, Err, option_map, if◌then◌else◌}
use Rattle.mk_base.specs.declared.LinkNo.{LinkNo}
use Rattle.mk_base.specs.declared.SimNo.{SimNo}
use Rattle.mk_base.specs.Links.{same_link}
use Rattle.mk_base.specs.Lists.{IsIn}
use Rattle.mk_launch.specs.Starts.{links_in}
use Rattle.mk_outside.specs.declared.fleet.LogEntry.{LogEntry}
use Rattle.mk_outside.specs.declared.fleet.LogEntry.TheVariants.{Rest}
use Rattle.mk_plan.specs.declared.Message.{Message}
use Rattle.mk_session.specs.declared.answers.Heard.{Heard}
use Rattle.mk_session.specs.declared.answers.Heard.TheVariants as heard
use Rattle.mk_run_laws.specs.Channels.{Channel}
use Rattle.mk_run_laws.specs.Crews.{AreMoved, IsHeard, IsUnheard}
use Rattle.mk_run_links.specs.declared.answers.LinkHalt.{LinkHalt}
use Rattle.mk_run_links.specs.declared.answers.LinkHalt.TheVariants as halt
use Rattle.mk_run_links.specs.declared.answers.Listened.{Listened}
use Rattle.mk_run_links.specs.declared.answers.Listened.TheVariants as listened
use Rattle.mk_run_links.specs.declared.answers.Looked.{Looked}
use Rattle.mk_run_links.specs.declared.answers.Looked.TheVariants as looked
use Rattle.mk_run_links.specs.Halts.{HeardOf, ShowsHalt}
use Rattle.mk_run_links.specs.inner.OneChannel.{link_of, message_in, unparked}
use Rattle.mk_run_links.specs.Entries.{AreOfLinks}
use Rattle.mk_run_links.specs.Places.{AreParked, IsChannelLink, Channels, IsLinked, at, crew}

-- simulator s gave these messages, and all others none
abbrev pub only_by : ℕ → List Message → ℕ → List Message
only_by s given i = if s == i then given else []

-- one link was polled, and its channel moved; or all channels are parked, and nothing was done
abbrev pub LooksAs : Looked → List LogEntry → Channels → Channels → Type 0
LooksAs (looked.Heard sim h) entries old new = AreMoved entries (only_by sim.0 (message_in h))
    (crew old) (crew new) × AreOfLinks (IsChannelLink old) entries × IsLinked sim.0 old
    × HeardOf sim.0 h entries new
LooksAs looked.Parked entries old new = AreMoved entries (λ i. []) (crew old) (crew new)
    × AreOfLinks (IsChannelLink old) entries
LooksAs looked.Quiet entries old new = (new ≡ old) × (entries ≡ []) × AreParked old

-- what came of looks where this was heard of a simulator
abbrev pub listened_of : SimNo → Heard → Listened
listened_of sim (heard.Message message) = listened.Message sim message
listened_of sim (heard.Garbled test) = listened.Halted (halt.Garbled sim test)
listened_of sim (heard.TooLong n) = listened.Halted (halt.LongFrame sim n)
listened_of sim heard.Closed = listened.Halted (halt.Gone sim)
listened_of sim heard.Failed = listened.Halted halt.Fleet
listened_of sim heard.Mem = listened.Halted halt.Mem

-- a message was heard; or nothing was, for this cause; or nothing was, and all channels are parked
abbrev pub ListensAs : Listened → List LogEntry → Channels → Channels → Type 0
ListensAs (listened.Message sim m) entries old new = IsHeard entries sim.0 m (crew old) (crew new)
    × AreOfLinks (IsChannelLink old) entries
ListensAs (listened.Halted h) entries old new = IsUnheard entries (crew old) (crew new)
    × AreOfLinks (IsChannelLink old) entries × ShowsHalt h entries new
ListensAs listened.Quiet entries old new = IsUnheard entries (crew old) (crew new)
    × AreOfLinks (IsChannelLink old) entries × AreParked new

-- the channel of simulator s, if it has one, is no longer parked, and all others stand
pub record IsWokenAt (s : ℕ) (old new : Channels) : Type 0 where
  pub here : at new s ≡ option_map unparked (at old s)
  pub others : (i : ℕ) → (i ≡ s → ⊥) → at new i ≡ at old i

-- no channel is parked any more
abbrev pub AreWoken : Channels → Channels → Type 0
AreWoken old new = (i : ℕ) → at new i ≡ option_map unparked (at old i)

-- the link's place among others is marked
abbrev pub is_marked : List Bool → List LinkNo → LinkNo → Bool
is_marked [] links link = false
is_marked (mark ∷ marks) [] link = false
is_marked (mark ∷ marks) (other ∷ links) link = (mark && same_link other link)
    || is_marked marks links link

-- the channel is no longer parked if its link's place is marked
abbrev pub woken_by : List Bool → List LinkNo → Channel → Channel
woken_by marks links w = if is_marked marks links w.link then unparked w else w

-- the channels of the links whose places are marked are no longer parked, and all others stand
abbrev pub AreWokenBy : List Bool → Channels → Channels → Type 0
AreWokenBy marks old new = (i : ℕ) → at new i
    ≡ option_map (woken_by marks (links_in (map link_of old))) (at old i)

-- the fleet rested and marked some links, and their channels alone are no longer parked; or nothing
-- was done
abbrev pub RestsAs : Result (Unit {0}) LinkHalt → List LogEntry → Channels → Channels → Type 0
RestsAs (Ok done) entries old new = (entries ≡ Rest ∷ [])
    × ((marks : List Bool) × (length marks ≡ length (links_in (map link_of old)))
    × IsIn true marks × AreWokenBy marks old new)
RestsAs (Err h) entries old new = (entries ≡ []) × (new ≡ old) × ShowsHalt h [] new
