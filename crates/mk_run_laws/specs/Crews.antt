-- A crew: the channels of a run's simulators and the replies that are kept, and what its calls do
-- to them.
use Rattle.std.specs.Prelude.{◌≡◌, ℕ, ◌==◌, true, List, [], ◌∷◌, ◌++◌, filter_map, Option, Some, None, option_and_then, slice_get, if◌then◌else◌, ⊤}
use Rattle.mk_plan.specs.declared.Item.{Item}
use Rattle.mk_plan.specs.declared.Message.{Message}
use Rattle.mk_plan.specs.Journals.{Arrival}
use Rattle.mk_plan.specs.Sequential.{id_after}
use Rattle.mk_message.specs.Written.{item_text}
use Rattle.mk_outside.specs.declared.fleet.LogEntry.{LogEntry}
use Rattle.mk_outside.specs.declared.fleet.LogEntry.TheVariants.{Rest}
use Rattle.mk_run_laws.specs.Payloads.{IsFramed}
use Rattle.mk_run_laws.specs.Channels.{Channel, IsMoved, queued, IsStopped}

-- the channel of each simulator that has a link, and the replies of simulators within the program
-- that were not heard yet, the oldest first
pub record CrewState : Type 0 where
  pub channels : List (Option Channel)
  pub kept : List Arrival

-- the channel of simulator i
abbrev pub channel_at : CrewState → ℕ → Option Channel
channel_at C i = option_and_then (λ (o : Option Channel). o) (slice_get C.channels i)

-- the reply, if it is one of simulator i
abbrev pub kept_from : ℕ → Arrival → Option Message
kept_from i a = if a.sim == i then Some a.message else None

-- the kept replies of simulator i
abbrev pub kept_of : ℕ → List Arrival → List Message
kept_of i kept = filter_map (kept_from i) kept

-- by these entries a channel, if there is one, came from old to new and gave these messages
abbrev pub IsMovedAt : List LogEntry → List Message → Option Channel → Option Channel → Type 0
IsMovedAt entries given None None = ⊤
IsMovedAt entries given None (Some new) = ⊥
IsMovedAt entries given (Some old) None = ⊥
IsMovedAt entries given (Some old) (Some new) = IsMoved entries given old new

-- m is what simulator s gave, and the others gave nothing
abbrev pub given_by : ℕ → Message → ℕ → List Message
given_by s m i = if s == i then m ∷ [] else []

-- the channels came from old to new and gave these messages
abbrev pub AreMoved : List LogEntry → (ℕ → List Message) → CrewState → CrewState → Type 0
AreMoved entries given old new = (i : ℕ)
    → IsMovedAt entries (given i) (channel_at old i) (channel_at new i)

-- at each rest among these entries every channel was parked, and had given nothing
abbrev pub AreParkedAtRests : List LogEntry → CrewState → Type 0
AreParkedAtRests entries old = (before after : List LogEntry) → entries ≡ before ++ Rest ∷ after
    → (i : ℕ) (w : Channel) → channel_at old i ≡ Some w → (mid : Channel) × IsMoved before [] w mid
    × (mid.parked ≡ true)

-- a message was heard: the oldest reply that was kept, or where none was kept the next message of a
-- link
pub data IsHeard (entries : List LogEntry) (s : ℕ) (m : Message)
    (old new : CrewState) : Type 0 where
  kept : old.kept ≡ record { sim = s; message = m } ∷ new.kept → new.channels ≡ old.channels
      → entries ≡ [] → IsHeard entries s m old new
  on_link : old.kept ≡ [] → new.kept ≡ [] → (w : Channel) → channel_at old s ≡ Some w
      → AreMoved entries (given_by s m) old new → AreParkedAtRests entries old
      → IsHeard entries s m old new

-- nothing was heard: the fleet failed, there was no memory, or a link ended or began with something
-- else than a message
pub record IsUnheard (entries : List LogEntry) (old new : CrewState) : Type 0 where
  pub kept : new.kept ≡ old.kept
  pub none_kept : old.kept ≡ []
  pub moved : AreMoved entries (λ i. []) old new
  pub parked : AreParkedAtRests entries old

-- an item, whose payload with this id a frame may have, was queued on the channel of simulator s,
-- whose next id is then the one behind the item
pub record IsSentOnLink (s : ℕ) (item : Item) (id : ℕ) (old new : CrewState) : Type 0 where
  pub channel : Channel
  pub there : channel_at old s ≡ Some channel
  pub here : channel_at new s
      ≡ Some (queued (item_text id item) (id_after channel.next (item ∷ [])) channel)
  pub framed : IsFramed (item_text id item)
  pub others : (i : ℕ) → (i ≡ s → ⊥) → channel_at new i ≡ channel_at old i
  pub kept : new.kept ≡ old.kept

-- the reply of a simulator within the program to an item was kept
pub record IsSentWithin (s : ℕ) (reply : Message) (old new : CrewState) : Type 0 where
  pub channels : new.channels ≡ old.channels
  pub kept : new.kept ≡ old.kept ++ record { sim = s; message = reply } ∷ []

-- the fleet didn't rest
abbrev pub IsRestless : List LogEntry → Type 0
IsRestless entries = (before after : List LogEntry) → entries ≡ before ++ Rest ∷ after → ⊥

-- by these entries every channel was stopped
abbrev pub AreStopped : List LogEntry → Type 0 → CrewState → Type 0
AreStopped entries risen C = (i : ℕ) (w : Channel) → channel_at C i ≡ Some w
    → IsStopped entries risen w
