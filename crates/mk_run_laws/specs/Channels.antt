-- A link as a crew keeps it, and how a call moves it.
use Rattle.std.specs.Prelude.{◌≡◌, ℕ, Bool, true, false, List, [], ◌++◌, Some, None, ◌⊎◌}
use Rattle.mk_base.specs.declared.LinkNo.{LinkNo}
use Rattle.mk_base.specs.Lists.{BeginsWith}
use Rattle.mk_plan.specs.declared.Call.TheVariants.{Stop}
use Rattle.mk_plan.specs.declared.Message.{Message}
use Rattle.mk_message.specs.Written.{call_text}
use Rattle.mk_frame.specs.Frames.{IsUnfinished, frame_of, frames_of}
use Rattle.mk_outside.specs.declared.fleet.LogEntry.{LogEntry}
use Rattle.mk_outside.specs.declared.fleet.LogEntry.TheVariants.{NotHeard, NotSaid}
use Rattle.mk_outside.specs.Logs.{heard_on, said_on, last_read, last_write}
use Rattle.mk_run_laws.specs.Hearing.{Takes}
use Rattle.mk_run_laws.specs.Payloads.{AreFramed, IsFramed}

-- the link, what was heard on it and isn't given yet, what is unsent, whether it is parked, and the id
-- that comes next
pub record Channel : Type 0 where
  pub link : LinkNo
  pub held : List ℕ
  pub unsent : List ℕ
  pub parked : Bool
  pub next : ℕ

-- by the last read nothing had come, all is said or the last write took nothing, and no whole frame
-- is held
pub record IsParkedIn (log : List LogEntry) (channel : Channel) : Type 0 where
  pub heard_all : last_read channel.link log ≡ Some (NotHeard channel.link)
  pub said_all : (channel.unsent ≡ []) ⊎ (last_write channel.link log ≡ Some (NotSaid channel.link))
  pub unfinished : IsUnfinished channel.held

-- the channel was parked, and nothing was read or written on it
pub record StaysParked (entries : List LogEntry) (old new : Channel) : Type 0 where
  pub same : new ≡ old
  pub parked : old.parked ≡ true
  pub unread : last_read old.link entries ≡ None
  pub unwritten : last_write old.link entries ≡ None

-- by these entries the channel came from old to new, and gave these messages; where it is parked then,
-- it is so by them, or it was and nothing was read or written on it
pub record IsMoved (entries : List LogEntry) (given : List Message)
    (old new : Channel) : Type 0 where
  pub link : new.link ≡ old.link
  pub next : new.next ≡ old.next
  pub said : said_on old.link entries ++ new.unsent ≡ old.unsent
  pub taken : Takes (old.held ++ heard_on old.link entries) given new.held
  pub parked : new.parked ≡ true → IsParkedIn entries new ⊎ StaysParked entries old new

-- over the whole log the channel gave these messages, these payloads, each of them one that a frame
-- may have, were queued on it, and this is the next id; where it is parked, it is so by the log
pub record IsChannelAt (log : List LogEntry) (messages : List Message) (payloads : List (List ℕ))
    (next : ℕ) (channel : Channel) : Type 0 where
  pub heard : Takes (heard_on channel.link log) messages channel.held
  pub said : said_on channel.link log ++ channel.unsent ≡ frames_of payloads
  pub framed : AreFramed payloads
  pub next_id : channel.next ≡ next
  pub parked : channel.parked ≡ true → IsParkedIn log channel

-- the channel with one more payload to be said, and with this next id; it isn't parked
abbrev pub queued : List ℕ → ℕ → Channel → Channel
queued payload next channel = record {
  link = channel.link;
  held = channel.held;
  unsent = channel.unsent
      ++ frame_of payload;
  parked = false;
  next = next;
}

-- what is still to be said on a channel that is stopped: what is unsent, and a stop
abbrev pub last_bytes : Channel → List ℕ
last_bytes channel = channel.unsent ++ frame_of (call_text channel.next Stop)

-- by these entries the channel was stopped: nothing was heard, and a beginning of its last bytes
-- was said; all of them, but where a write took nothing or the count of faults rose; and a frame
-- may have the stop's payload
pub record IsStopped (entries : List LogEntry) (risen : Type 0) (channel : Channel) : Type 0 where
  pub unheard : heard_on channel.link entries ≡ []
  pub said : BeginsWith (last_bytes channel) (said_on channel.link entries)
  pub framed : IsFramed (call_text channel.next Stop)
  pub whole : (said_on channel.link entries ≡ last_bytes channel)
      ⊎ ((last_write channel.link entries ≡ Some (NotSaid channel.link)) ⊎ risen)
