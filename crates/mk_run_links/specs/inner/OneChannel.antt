-- For proofs alone. What came of a call on one channel.
use Rattle.std.specs.Prelude.{◌≡◌, ℕ, ◌⊎◌, Bool, true, false, List, [], ◌∷◌, ◌++◌, Some, Option, None, option_map, ⊤}
use Rattle.mk_base.specs.declared.LinkNo.{LinkNo}
use Rattle.mk_base.specs.Lists.{Each, BeginsWith}
use Rattle.mk_plan.specs.declared.Message.{Message}
use Rattle.mk_outside.specs.declared.fleet.LogEntry.{LogEntry}
use Rattle.mk_outside.specs.declared.fleet.LogEntry.TheVariants.{NotSaid}
use Rattle.mk_outside.specs.Logs.{IsOnLink, heard_on, said_on, last_write}
use Rattle.mk_session.specs.declared.answers.Heard.{Heard}
use Rattle.mk_session.specs.declared.answers.Heard.TheVariants as heard
use Rattle.mk_session.specs.declared.answers.Polled.{Polled}
use Rattle.mk_session.specs.declared.answers.Polled.TheVariants as polled
use Rattle.mk_run_laws.specs.Channels.{Channel, IsMoved, IsStopped}
use Rattle.mk_run_links.specs.Places.{Channels, IsSet, at}
use Rattle.mk_run_links.specs.Halts.{ShowsHeard}

-- the message that was heard
abbrev pub message_in : Heard → List Message
message_in (heard.Message message) = message ∷ []
message_in (heard.Garbled test) = []
message_in (heard.TooLong n) = []
message_in heard.Closed = []
message_in heard.Failed = []
message_in heard.Mem = []

-- the message that a poll gave
abbrev pub given_in : Polled → List Message
given_in (polled.Ready h) = message_in h
given_in polled.Pending = []

-- the poll was pending
abbrev pub is_pending : Polled → Bool
is_pending (polled.Ready h) = false
is_pending polled.Pending = true

-- why a poll gave no message
abbrev pub Shows : Polled → List LogEntry → Channel → Type 0
Shows (polled.Ready h) entries w = ShowsHeard h entries w
Shows polled.Pending entries w = ⊤

-- by these entries, which are of the channel's link alone, a poll moved the channel
pub record PollsChannel (answer : Polled) (old : Channel) (entries : List LogEntry)
    (new : Channel) : Type 0 where
  pub on_link : Each (IsOnLink old.link) entries
  pub moved : IsMoved entries (given_in answer) old new
  pub parked : new.parked ≡ is_pending answer
  pub shown : Shows answer entries new

-- by these entries, which are of the channel's link alone, what is unsent and then these bytes were
-- said: a beginning of them, and all but where a write took nothing or the count of faults rose
pub record FlushesChannel (w : Channel) (last : List ℕ) (risen : Type 0)
    (entries : List LogEntry) : Type 0 where
  pub on_link : Each (IsOnLink w.link) entries
  pub unheard : heard_on w.link entries ≡ []
  pub said : BeginsWith (w.unsent ++ last) (said_on w.link entries)
  pub whole : (said_on w.link entries ≡ w.unsent ++ last)
      ⊎ ((last_write w.link entries ≡ Some (NotSaid w.link)) ⊎ risen)

-- by these entries, which are of the channel's link alone, the channel was stopped
pub record StopsChannel (w : Channel) (risen : Type 0) (entries : List LogEntry) : Type 0 where
  pub on_link : Each (IsOnLink w.link) entries
  pub stopped : IsStopped entries risen w

-- the link of a channel, if there is one
abbrev pub link_of : Option Channel → Option LinkNo
link_of o = option_map (λ (w : Channel). w.link) o

-- the channel, not parked
abbrev pub unparked : Channel → Channel
unparked w = record {
  link = w.link;
  held = w.held;
  unsent = w.unsent;
  parked = false;
  next = w.next;
}

-- the channel of simulator s was polled with this answer, and all others stand
pub record PollsAt (answer : Polled) (s : ℕ) (old : Channels) (entries : List LogEntry)
    (new : Channels) : Type 0 where
  pub channel : Channel
  pub after : Channel
  pub set : IsSet s channel after old new
  pub polled : PollsChannel answer channel entries after

-- by these entries the channel of simulator s, if there is one, was stopped
pub record StopsAt (s : ℕ) (channels : Channels) (risen : Type 0)
    (entries : List LogEntry) : Type 0 where
  pub some : (w : Channel) → at channels s ≡ Some w → StopsChannel w risen entries
  pub none : at channels s ≡ None → entries ≡ []
