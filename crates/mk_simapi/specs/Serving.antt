-- What is heard and said on a link that a simulator of a kind is served on, and why the serving
-- ends.
use Rattle.std.specs.Prelude.{◌≡◌, ℕ, ◌<◌, ◌≤◌, true, false, List, [], ◌∷◌, ◌++◌, length, fold, Some, ⊤}
use Rattle.mk_base.specs.declared.LinkNo.{LinkNo}
use Rattle.mk_base.specs.Lists.{Each, BeginsWith}
use Rattle.mk_plan.specs.declared.Message.{Message}
use Rattle.mk_frame.specs.Frames.{IsTooLong, IsUnfinished, frames_of, limit}
use Rattle.mk_message.specs.Written.{message_text}
use Rattle.mk_outside.specs.declared.fleet.LogEntry.{LogEntry}
use Rattle.mk_outside.specs.declared.fleet.LogEntry.TheVariants.{NotHeard, Ended, Rest}
use Rattle.mk_outside.specs.Logs.{heard_on, said_on, last_read}
use Rattle.mk_session.specs.Fronts.{BeginsGarbled}
use Rattle.mk_local.specs.Simulators.{Simulator}
use Rattle.mk_run_laws.specs.Hearing.{messages_heard, rest_heard}
use Rattle.mk_run_laws.specs.Rests.{SaysAll}
use Rattle.mk_simapi.specs.declared.served.Served.{Served}
use Rattle.mk_simapi.specs.declared.served.Served.TheVariants as served
use Rattle.mk_simapi.specs.Replies.{is_stop, reply_to, after_message, payloads}

-- the messages that were heard on the link
abbrev pub heard_of : LinkNo → List LogEntry → List Message
heard_of link log = messages_heard (heard_on link log)

-- none of the messages is a stop
abbrev pub NoStop : List Message → Type 0
NoStop = Each (λ (m : Message). is_stop m ≡ false)

-- each reply to these messages fits into a frame
abbrev pub AreShort : Simulator → List Message → Type 0
AreShort L ms = Each (λ (p : List ℕ). length p ≤ limit) (payloads L ms)

-- a stop was heard, and the replies to all before it were said, or the last write took nothing
pub record HasHeardStop (L : Simulator) (link : LinkNo) (log : List LogEntry) : Type 0 where
  pub before : List Message
  pub stop : Message
  pub later : List Message
  pub heard : heard_of link log ≡ before ++ stop ∷ later
  pub is : is_stop stop ≡ true
  pub first : NoStop before
  pub short : AreShort L before
  pub said : SaysAll link log (frames_of (payloads L before))

-- a message was heard whose reply has n bytes, which is more than a frame may have; all replies
-- before it are short, and were said, or the last write took nothing; and no stop came up to it
pub record IsLong (L : Simulator) (link : LinkNo) (log : List LogEntry) (n : ℕ) : Type 0 where
  pub before : List Message
  pub asks : Message
  pub later : List Message
  pub heard : heard_of link log ≡ before ++ asks ∷ later
  pub going : NoStop (before ++ asks ∷ [])
  pub short : AreShort L before
  pub reply : Message
  pub replied : reply_to (fold after_message L before) asks ≡ Some reply
  pub length_is : length (message_text reply) ≡ n
  pub long : limit < n
  pub said : SaysAll link log (frames_of (payloads L before))

-- no stop was heard, each reply is short, and all were said, or the last write took nothing
pub record IsUnstopped (L : Simulator) (link : LinkNo) (log : List LogEntry) : Type 0 where
  pub going : NoStop (heard_of link log)
  pub short : AreShort L (heard_of link log)
  pub said : SaysAll link log (frames_of (payloads L (heard_of link log)))

-- the cause by which the serving ended
abbrev pub EndsBy : Simulator → LinkNo → Served → List LogEntry → Type 0
EndsBy L link served.Stopped log = HasHeardStop L link log
EndsBy L link served.Closed log = IsUnstopped L link log
    × IsUnfinished (rest_heard (heard_on link log)) × (last_read link log ≡ Some (Ended link))
EndsBy L link served.Failed log = ⊤
EndsBy L link (served.Garbled test) log = IsUnstopped L link log
    × BeginsGarbled (rest_heard (heard_on link log)) test
EndsBy L link (served.TooLong n) log = IsUnstopped L link log
    × IsTooLong n (rest_heard (heard_on link log))
EndsBy L link (served.LongReply n) log = IsLong L link log n
EndsBy L link served.Mem log = ⊤

-- where the serving rests: no stop was heard so far, all replies were said, or the last write took
-- nothing, and nothing more had come
pub record IsWellAtRest (L : Simulator) (link : LinkNo) (before : List LogEntry) : Type 0 where
  pub going : NoStop (heard_of link before)
  pub said : SaysAll link before (frames_of (payloads L (heard_of link before)))
  pub heard_all : last_read link before ≡ Some (NotHeard link)

-- at each rest of the log
abbrev pub RestsWell : Simulator → LinkNo → List LogEntry → Type 0
RestsWell L link log = (before after : List LogEntry) → log ≡ before ++ Rest ∷ after
    → IsWellAtRest L link before

-- by these entries the simulator was served: what was said is a beginning of the frames of the
-- replies to what was heard, in order and up to a stop
pub record Serves (L : Simulator) (link : LinkNo) (end : Served)
    (log : List LogEntry) : Type 0 where
  pub said : BeginsWith (frames_of (payloads L (heard_of link log))) (said_on link log)
  pub rests : RestsWell L link log
  pub ended : EndsBy L link end log
