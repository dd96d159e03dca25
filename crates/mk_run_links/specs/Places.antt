-- The channels of a crew, each at the place of its simulator.
use Rattle.std.specs.Prelude.{◌≡◌, ℕ, ◌<◌, ◌^◌, true, false, not, List, [], map, filter, Option, Some, option_map, option_and_then, slice_get}
use Rattle.std.specs.List.{list_any}
use Rattle.mk_base.specs.declared.LinkNo.{LinkNo}
use Rattle.mk_base.specs.Lists.{IsIn}
use Rattle.mk_base.specs.Links.{same_link}
use Rattle.mk_scenario.specs.declared.parts.SimPart.{SimPart}
use Rattle.mk_launch.specs.Starts.{places}
use Rattle.mk_run_laws.specs.Channels.{Channel}
use Rattle.mk_run_laws.specs.Crews.{CrewState}

-- the channels of a crew: none for a simulator within the program
abbrev pub Channels : Type 0
Channels = List (Option Channel)

-- the channel of simulator i, if it has one
abbrev pub at : Channels → ℕ → Option Channel
at channels i = option_and_then (λ (o : Option Channel). o) (slice_get channels i)

-- simulator i has a channel
abbrev pub IsLinked : ℕ → Channels → Type 0
IsLinked i channels = (w : Channel) × (at channels i ≡ Some w)

-- the next id of simulator i's channel, if it has one, is below 2^32
abbrev pub HasSmallNext : ℕ → Channels → Type 0
HasSmallNext i channels = (w : Channel) → at channels i ≡ Some w → w.next < 2 ^ 32

-- the link is that of a channel
abbrev pub IsChannelLink : Channels → LinkNo → Type 0
IsChannelLink channels link = (i : ℕ) × (w : Channel) × (at channels i ≡ Some w) × (w.link ≡ link)

-- the channel of simulator s was w and is v, and all others stand
pub record IsSet (s : ℕ) (w v : Channel) (old new : Channels) : Type 0 where
  pub there : at old s ≡ Some w
  pub here : at new s ≡ Some v
  pub others : (i : ℕ) → (i ≡ s → ⊥) → at new i ≡ at old i

-- the link of simulator i, if it has a channel, is open
abbrev pub IsOpenAt : ℕ → Channels → List LinkNo → Type 0
IsOpenAt i channels open_links = (w : Channel) → at channels i ≡ Some w → IsIn w.link open_links

-- the links of all channels are open
abbrev pub AreOpen : Channels → List LinkNo → Type 0
AreOpen channels open_links = (i : ℕ) → IsOpenAt i channels open_links

-- all channels are parked
abbrev pub AreParked : Channels → Type 0
AreParked channels = (i : ℕ) (w : Channel) → at channels i ≡ Some w → w.parked ≡ true

-- the crew that has these channels, and keeps no reply
abbrev pub crew : Channels → CrewState
crew channels = record { channels = channels; kept = [] }

-- the channel of a link on which nothing was heard and nothing is to be said
abbrev pub new_channel : LinkNo → Channel
new_channel link = record { link = link; held = []; unsent = []; parked = false; next = 0 }

-- no link stands at two places
abbrev pub AreDistinct : List (Option LinkNo) → Type 0
AreDistinct links = (i j : ℕ) (l : LinkNo) → slice_get links i ≡ Some (Some l)
    → slice_get links j ≡ Some (Some l) → i ≡ j

-- the channels of a crew that begins, of the links at these places
abbrev pub new_channels : List (Option LinkNo) → Channels
new_channels links = map (option_map new_channel) links

-- the links without those among others
abbrev pub without_all : List LinkNo → List LinkNo → List LinkNo
without_all others links = filter (λ (link : LinkNo). not (list_any (same_link link) others)) links

-- the places that a start of all simulators leaves have distinct links
abbrev pub PlacesAreDistinct : Type 0
PlacesAreDistinct = (started : ℕ) (sims : List SimPart) → AreDistinct (places started sims)
