-- For proofs alone. What holds while a simulator is served.
use Rattle.std.specs.Prelude.{◌≡◌, ◌≤◌, ◌<◌, ℕ, List, [], ◌∷◌, ◌++◌, length, fold, Option, Some, None, ⊤}
use Rattle.mk_base.specs.declared.LinkNo.{LinkNo}
use Rattle.mk_plan.specs.declared.Message.{Message}
use Rattle.mk_frame.specs.Frames.{frame_of, frames_of, limit}
use Rattle.mk_outside.specs.declared.fleet.LogEntry.{LogEntry}
use Rattle.mk_outside.specs.declared.fleet.LogEntry.TheVariants.{Rest}
use Rattle.mk_outside.specs.Logs.{heard_on, said_on, last_write}
use Rattle.mk_session.specs.declared.session.Session.{Session}
use Rattle.mk_session.specs.Talks.{IsSaidOut}
use Rattle.mk_local.specs.Simulators.{Simulator}
use Rattle.mk_run_laws.specs.Hearing.{Takes}
use Rattle.mk_simapi.specs.declared.served.Served.{Served}
use Rattle.mk_simapi.specs.declared.served.Served.TheVariants as served
use Rattle.mk_simapi.specs.declared.servant.Answer.{Answer}
use Rattle.mk_simapi.specs.declared.servant.Answer.TheVariants as answer
use Rattle.mk_simapi.specs.Replies.{after_message, payloads}
use Rattle.mk_simapi.specs.Serving.{NoStop, AreShort, RestsWell, Serves}

-- by this log these messages were heard, and all of them were answered; M is the simulator then,
-- and s the session
pub record IsServing (L : Simulator) (link : LinkNo) (log : List LogEntry) (ms : List Message)
    (M : Simulator) (s : Session) : Type 0 where
  pub on : s.link ≡ link
  pub heard : Takes (heard_on link log) ms s.held
  pub said : said_on link log ++ s.unsent ≡ frames_of (payloads L ms)
  pub now : M ≡ fold after_message L ms
  pub going : NoStop ms
  pub short : AreShort L ms
  pub rests : RestsWell L link log

-- the same, but that one more message was heard and isn't answered yet
pub record IsAsked (L : Simulator) (link : LinkNo) (log : List LogEntry) (ms : List Message)
    (m : Message) (M : Simulator) (s : Session) : Type 0 where
  pub on : s.link ≡ link
  pub heard : Takes (heard_on link log) (ms ++ m ∷ []) s.held
  pub said : said_on link log ++ s.unsent ≡ frames_of (payloads L ms)
  pub said_out : IsSaidOut link (last_write link log) s.unsent
  pub now : M ≡ fold after_message L ms
  pub going : NoStop ms
  pub short : AreShort L ms
  pub rests : RestsWell L link log

-- the serving goes on, or it has ended
abbrev pub GoesOn : Simulator → LinkNo → List LogEntry → Option Served → Simulator → Session
    → Type 0
GoesOn L link log None M s = (ms : List Message) × IsServing L link log ms M s
GoesOn L link log (Some end) M s = Serves L link end log

-- the fleet has waited, or it did nothing
abbrev pub RestsAs : Option Served → List LogEntry → Type 0
RestsAs None entries = entries ≡ Rest ∷ []
RestsAs (Some served.Stopped) entries = ⊥
RestsAs (Some served.Closed) entries = ⊥
RestsAs (Some served.Failed) entries = entries ≡ []
RestsAs (Some (served.Garbled test)) entries = ⊥
RestsAs (Some (served.TooLong n)) entries = ⊥
RestsAs (Some (served.LongReply n)) entries = ⊥
RestsAs (Some served.Mem) entries = entries ≡ []

-- a payload was queued, or it is too long, or there was no memory for it
abbrev pub QueuesAs : List ℕ → Session → Option Served → Session → Type 0
QueuesAs payload old None new = (new
    ≡ record { link = old.link; held = old.held; unsent = old.unsent ++ frame_of payload })
    × (length payload ≤ limit)
QueuesAs payload old (Some served.Stopped) new = ⊥
QueuesAs payload old (Some served.Closed) new = ⊥
QueuesAs payload old (Some served.Failed) new = ⊥
QueuesAs payload old (Some (served.Garbled test)) new = ⊥
QueuesAs payload old (Some (served.TooLong n)) new = ⊥
QueuesAs payload old (Some (served.LongReply n)) new = (n ≡ length payload) × (limit < n)
QueuesAs payload old (Some served.Mem) new = ⊤

-- the reply was queued, or there was none, or the message was a stop
abbrev pub SaysAs : Answer → Session → Option Served → Session → Type 0
SaysAs (answer.Reply payload) old end new = QueuesAs payload.items old end new
SaysAs answer.Nothing old end new = (end ≡ None) × (new ≡ old)
SaysAs answer.Stop old end new = (end ≡ Some served.Stopped) × (new ≡ old)
