-- A serving goes on by a poll, an answer and a rest, and how it ends.
use Rattle.std.proofs.Common.{◌≡◌, ◌≢◌, ℕ, ◌≤◌, ◌<◌, true, false, List, [], ◌∷◌, ◌++◌, length, fold, Option, Some, None, Ok, refl, sym, ap, ◌∙◌, subst, append_assoc}
use Rattle.std.specs.Global.{Vec}
use Rattle.mk_base.specs.declared.LinkNo.{LinkNo}
use Rattle.mk_base.specs.Lists.{BeginsWith, Each}
use Rattle.mk_base.proofs.Lists.{append_nil, some_same}
use Rattle.mk_plan.specs.declared.Message.{Message}
use Rattle.mk_frame.specs.Frames.{BeginsWithFrame, IsTooLong, IsUnfinished, frame_of, frames_of, limit}
use Rattle.mk_message.specs.Messages.{message_of}
use Rattle.mk_message.specs.Written.{message_text}
use Rattle.mk_outside.specs.declared.fleet.LogEntry.{LogEntry}
use Rattle.mk_outside.specs.declared.fleet.LogEntry.TheVariants.{NotHeard, Ended, Rest}
use Rattle.mk_outside.proofs.OnLogs.{adds_more, adds_none, heard-append, said-append}
use Rattle.mk_outside.specs.Logs.{Adds, IsOnLink, heard_on, is_read, last_read, last_write, said_on}
use Rattle.mk_session.specs.declared.answers.Heard.TheVariants as heard
use Rattle.mk_session.specs.declared.answers.Polled.{Polled}
use Rattle.mk_session.specs.declared.answers.Polled.TheVariants as polled
use Rattle.mk_session.specs.declared.session.Session.{Session}
use Rattle.mk_session.specs.Answers.{Polls}
use Rattle.mk_session.specs.Fronts.{BeginsGarbled}
use Rattle.mk_session.specs.Talks.{IsSaidOut}
use Rattle.mk_local.specs.declared.turn.Turn.{Turn}
use Rattle.mk_local.specs.Kinds.{kind_named}
use Rattle.mk_local.specs.Simulators.{Simulator, new_simulator}
use Rattle.mk_run_laws.specs.Hearing.{Takes, none, more, first_message, messages_heard, rest_heard}
use Rattle.mk_run_laws.specs.Rests.{SaysAll}
use Rattle.mk_run_laws.proofs.Moving.{last_later}
use Rattle.mk_run_laws.proofs.Taking.{garbled_none, long_none, none_first, none_heard, taken_heard, taken_rest, takes_more, takes_on, unfinished_none}
use Rattle.mk_simapi.specs.declared.served.Served.{Served}
use Rattle.mk_simapi.specs.declared.served.Served.TheVariants as served
use Rattle.mk_simapi.specs.declared.servant.Answer.{Answer}
use Rattle.mk_simapi.specs.declared.servant.Answer.TheVariants as answer
use Rattle.mk_simapi.specs.inner.Answers.{AnswersAs}
use Rattle.mk_simapi.specs.Replies.{after_message, is_stop, payloads, reply_to}
use Rattle.mk_simapi.specs.Serving.{AreShort, EndsBy, NoStop, IsUnstopped, IsWellAtRest, RestsWell, Serves, heard_of}
use Rattle.mk_simapi.specs.inner.Standing.{GoesOn, IsAsked, IsServing, QueuesAs, RestsAs, SaysAs}
use Rattle.mk_simapi.proofs.Going.{after_more, frames_begin, payloads_more, payloads_same}
use Rattle.mk_simapi.proofs.Logs.{no_rest, rests_more, rests_still, said_out_later, says_all}
use Rattle.mk_base.proofs.Items.{each_behind}
use Rattle.mk_frame.proofs.OnFrames.{frames_of-push}

module _ (L : Simulator) (link : LinkNo) where
  -- a serving begins
  pub begun : (s : Session) → s ≡ record { link = link; held = []; unsent = [] } → IsServing L link [] [] L s
  begun s is = subst (IsServing L link [] [] L) (sym is) (record { on = refl; heard = none []; said = refl; now = refl; going = tt; short = tt; rests = no_rest L link })

  -- ---- a poll

  module _ (log entries : List LogEntry) (ms : List Message) (M : Simulator) (s t : Session) (a : Polled) (at : IsServing L link log ms M s) (p : Polls a s entries t) where
    same : t.link ≡ link
    same = p.same_link ∙ at.on

    each : Each (IsOnLink link) entries
    each = subst (λ (l : LinkNo). Each (IsOnLink l) entries) at.on p.on_link

    heard_all : heard_on link (log ++ entries) ≡ heard_on link log ++ heard_on link entries
    heard_all = heard-append link log entries

    said_here : said_on link entries ++ t.unsent ≡ s.unsent
    said_here = subst (λ (l : LinkNo). said_on l entries ++ t.unsent ≡ s.unsent) at.on p.said

    said_all : said_on link (log ++ entries) ++ t.unsent ≡ frames_of (payloads L ms)
    said_all = ap (λ (b : List ℕ). b ++ t.unsent) (said-append link log entries) ∙ append_assoc (said_on link log) (said_on link entries) t.unsent
        ∙ ap (λ (b : List ℕ). said_on link log ++ b) said_here ∙ at.said

    rests_all : RestsWell L link (log ++ entries)
    rests_all = rests_still L link log entries at.rests each

    -- nothing was taken off
    heard_still : t.held ≡ s.held ++ heard_on link entries → Takes (heard_on link (log ++ entries)) ms t.held
    heard_still held = subst (λ (h : List ℕ). Takes h ms t.held) (sym heard_all) (subst (λ (h : List ℕ). Takes (heard_on link log ++ heard_on link entries) ms h) (sym held) (takes_on (heard_on link log) ms s.held (heard_on link entries) at.heard))

    still : t.held ≡ s.held ++ heard_on link entries → IsServing L link (log ++ entries) ms M t
    still held = record { on = same; heard = heard_still held; said = said_all; now = at.now; going = at.going; short = at.short; rests = rests_all }

    -- a message was taken off
    module _ (m : Message) (payload : List ℕ) (is : message_of payload ≡ Ok m) (begins : BeginsWithFrame (s.held ++ heard_on link entries) payload t.held) (out : a ≢ polled.Ready heard.Failed) where
      pub is_asked : IsAsked L link (log ++ entries) ms m M t
      is_asked = record {
        on = same;
        heard = subst (λ (h : List ℕ). Takes h (ms ++ m ∷ []) t.held) (sym heard_all) (takes_more (heard_on link log) (heard_on link entries) s.held t.held ms (m ∷ []) at.heard (more (s.held ++ heard_on link entries) payload t.held t.held m [] begins is (none t.held)));
        said = said_all;
        said_out = said_out_later link log entries t.unsent (subst (λ (l : LinkNo). IsSaidOut l (last_write l entries) t.unsent) at.on (p.said_out out));
        now = at.now;
        going = at.going;
        short = at.short;
        rests = rests_all;
      }

  -- ---- what was said, at any end

  said_so_far : (log : List LogEntry) (ms later : List Message) (unsent : List ℕ) → heard_of link log ≡ ms ++ later → said_on link log ++ unsent ≡ frames_of (payloads L ms) → BeginsWith (frames_of (payloads L (heard_of link log))) (said_on link log)
  said_so_far log ms later unsent is said = subst (λ (all : List Message). BeginsWith (frames_of (payloads L all)) (said_on link log)) (sym is) (frames_begin L ms later (said_on link log) unsent said)

  module _ (log : List LogEntry) (ms : List Message) (M : Simulator) (s : Session) (at : IsServing L link log ms M s) where
    heard_is : heard_of link log ≡ ms ++ messages_heard s.held
    heard_is = taken_heard (heard_on link log) ms s.held at.heard

    ends : (end : Served) → EndsBy L link end log → Serves L link end log
    ends end by = record { said = said_so_far log ms (messages_heard s.held) s.unsent heard_is at.said; rests = at.rests; ended = by }

    pub fails : Serves L link served.Failed log
    fails = ends served.Failed tt

    pub wants_memory : Serves L link served.Mem log
    wants_memory = ends served.Mem tt

    -- where no message stands in front, all that were heard are answered
    module _ (nothing : first_message s.held ≡ None) where
      all_heard : heard_of link log ≡ ms
      all_heard = heard_is ∙ ap (λ (l : List Message). ms ++ l) (none_heard s.held nothing).0 ∙ append_nil ms

      all_rest : rest_heard (heard_on link log) ≡ s.held
      all_rest = taken_rest (heard_on link log) ms s.held at.heard ∙ (none_heard s.held nothing).1

      unstopped : IsSaidOut link (last_write link log) s.unsent → IsUnstopped L link log
      unstopped out = record {
        going = subst NoStop (sym all_heard) at.going;
        short = subst (AreShort L) (sym all_heard) at.short;
        said = subst (λ (all : List Message). SaysAll link log (frames_of (payloads L all))) (sym all_heard) (says_all link log s.unsent (frames_of (payloads L ms)) at.said out);
      }

      well : IsSaidOut link (last_write link log) s.unsent → last_read link log ≡ Some (NotHeard link) → IsWellAtRest L link log
      well out last = record { going = (unstopped out).going; said = (unstopped out).said; heard_all = last }

    module _ (out : IsSaidOut link (last_write link log) s.unsent) where
      pub closes : IsUnfinished s.held → last_read link log ≡ Some (Ended link) → Serves L link served.Closed log
      closes un last = let nothing = none_first s.held (unfinished_none s.held un) in ends served.Closed (unstopped nothing out, subst IsUnfinished (sym (all_rest nothing)) un, last)

      pub garbles : (n : ℕ) → BeginsGarbled s.held n → Serves L link (served.Garbled n) log
      garbles n g = let nothing = garbled_none s.held g.0 g.1 n g.3 g.2 in ends (served.Garbled n) (unstopped nothing out, subst (λ (h : List ℕ). BeginsGarbled h n) (sym (all_rest nothing)) g)

      pub overlong : (n : ℕ) → IsTooLong n s.held → Serves L link (served.TooLong n) log
      overlong n l = let nothing = none_first s.held (long_none s.held n l) in ends (served.TooLong n) (unstopped nothing out, subst (IsTooLong n) (sym (all_rest nothing)) l)

    -- the fleet waits
    pub rested : IsUnfinished s.held → IsSaidOut link (last_write link log) s.unsent → last_read link log ≡ Some (NotHeard link) → IsServing L link (log ++ Rest ∷ []) ms M s
    rested un out last = record {
      on = at.on;
      heard = subst (λ (h : List ℕ). Takes h ms s.held) (sym (heard-append link log (Rest ∷ []) ∙ append_nil (heard_on link log))) at.heard;
      said = ap (λ (b : List ℕ). b ++ s.unsent) (said-append link log (Rest ∷ []) ∙ append_nil (said_on link log)) ∙ at.said;
      now = at.now;
      going = at.going;
      short = at.short;
      rests = rests_more L link log at.rests (well (none_first s.held (unfinished_none s.held un)) out last);
    }

  -- ---- an answer

  module _ (log : List LogEntry) (ms : List Message) (m : Message) (M : Simulator) (s : Session) (at : IsAsked L link log ms m M s) where
    asked_is : heard_of link log ≡ ms ++ m ∷ messages_heard s.held
    asked_is = taken_heard (heard_on link log) (ms ++ m ∷ []) s.held at.heard ∙ append_assoc ms (m ∷ []) (messages_heard s.held)

    ends_asked : (end : Served) → EndsBy L link end log → Serves L link end log
    ends_asked end by = record { said = said_so_far log ms (m ∷ messages_heard s.held) s.unsent asked_is at.said; rests = at.rests; ended = by }

    pub asked_memory : Serves L link served.Mem log
    asked_memory = ends_asked served.Mem tt

    pub stops : is_stop m ≡ true → Serves L link served.Stopped log
    stops e = ends_asked served.Stopped (record {
      before = ms;
      stop = m;
      later = messages_heard s.held;
      heard = asked_is;
      is = e;
      first = at.going;
      short = at.short;
      said = says_all link log s.unsent (frames_of (payloads L ms)) at.said at.said_out;
    })

    replied_to : (o : Option Message) → reply_to M m ≡ o → reply_to (fold after_message L ms) m ≡ o
    replied_to o e = ap (λ (N : Simulator). reply_to N m) (sym at.now) ∙ e

    pub too_long : (payload : List ℕ) (reply : Message) (n : ℕ) → is_stop m ≡ false → reply_to M m ≡ Some reply → payload ≡ message_text reply → n ≡ length payload → limit < n → Serves L link (served.LongReply n) log
    too_long payload reply n e some is size long = ends_asked (served.LongReply n) (record {
      before = ms;
      asks = m;
      later = messages_heard s.held;
      heard = asked_is;
      going = each_behind (λ (x : Message). is_stop x ≡ false) ms m at.going e;
      short = at.short;
      reply = reply;
      replied = replied_to (Some reply) some;
      length_is = ap length (sym is) ∙ sym size;
      long = long;
      said = says_all link log s.unsent (frames_of (payloads L ms)) at.said at.said_out;
    })

    module _ (N : Simulator) (after : N ≡ after_message M m) (e : is_stop m ≡ false) where
      now_after : N ≡ fold after_message L (ms ++ m ∷ [])
      now_after = after ∙ ap (λ (X : Simulator). after_message X m) at.now ∙ sym (after_more L ms m)

      going_after : NoStop (ms ++ m ∷ [])
      going_after = each_behind (λ (x : Message). is_stop x ≡ false) ms m at.going e

      pub ignored : reply_to M m ≡ None → IsServing L link log (ms ++ m ∷ []) N s
      ignored none_said =
          let same : payloads L (ms ++ m ∷ []) ≡ payloads L ms = payloads_same L ms m at.going e (replied_to None none_said) in
          record {
            on = at.on;
            heard = at.heard;
            said = at.said ∙ ap frames_of (sym same);
            now = now_after;
            going = going_after;
            short = subst (Each (λ (p : List ℕ). length p ≤ limit)) (sym same) at.short;
            rests = at.rests;
          }

      pub queues : (payload : List ℕ) (reply : Message) (t : Session) → reply_to M m ≡ Some reply → payload ≡ message_text reply → t ≡ record { link = s.link; held = s.held; unsent = s.unsent ++ frame_of payload } → length payload ≤ limit → IsServing L link log (ms ++ m ∷ []) N t
      queues payload reply t some is so fits =
          let all : payloads L (ms ++ m ∷ []) ≡ payloads L ms ++ payload ∷ [] = payloads_more L ms m reply at.going e (replied_to (Some reply) some) ∙ ap (λ (p : List ℕ). payloads L ms ++ p ∷ []) (sym is) in
          subst (IsServing L link log (ms ++ m ∷ []) N) (sym so) (record {
            on = at.on;
            heard = at.heard;
            said = sym (append_assoc (said_on link log) s.unsent (frame_of payload)) ∙ ap (λ (b : List ℕ). b ++ frame_of payload) at.said ∙ sym (frames_of-push (payloads L ms) payload) ∙ ap frames_of (sym all);
            now = now_after;
            going = going_after;
            short = subst (Each (λ (p : List ℕ). length p ≤ limit)) (sym all) (each_behind (λ (p : List ℕ). length p ≤ limit) (payloads L ms) payload at.short fits);
            rests = at.rests;
          })

-- ---- what came of a poll

-- the serving after a poll that gave no message
module _ (L : Simulator) (link : LinkNo) (log entries : List LogEntry) (ms : List Message) (M : Simulator) (s t : Session) (at : IsServing L link log ms M s) where
  after_poll : (a : Polled) → Polls a s entries t → t.held ≡ s.held ++ heard_on s.link entries → IsServing L link (log ++ entries) ms M t
  after_poll a p held = still L link log entries ms M s t a at p (held ∙ ap (λ (l : LinkNo). s.held ++ heard_on l entries) at.on)

  on_link : (a : Polled) → Polls a s entries t → t.link ≡ link
  on_link a p = p.same_link ∙ at.on

  out_after : (a : Polled) → Polls a s entries t → a ≢ polled.Ready heard.Failed → IsSaidOut link (last_write link (log ++ entries)) t.unsent
  out_after a p going = said_out_later link log entries t.unsent (subst (λ (l : LinkNo). IsSaidOut l (last_write l entries) t.unsent) at.on (p.said_out going))

  pub polled_failed : Polls (polled.Ready heard.Failed) s entries t → Serves L link served.Failed (log ++ entries)
  polled_failed p = fails L link (log ++ entries) ms M t (after_poll (polled.Ready heard.Failed) p p.found)

  pub polled_memory : Polls (polled.Ready heard.Mem) s entries t → Serves L link served.Mem (log ++ entries)
  polled_memory p = wants_memory L link (log ++ entries) ms M t (after_poll (polled.Ready heard.Mem) p p.found)

  pub polled_closed : Polls (polled.Ready heard.Closed) s entries t → Serves L link served.Closed (log ++ entries)
  polled_closed p = closes L link (log ++ entries) ms M t (after_poll (polled.Ready heard.Closed) p p.found.0) (out_after (polled.Ready heard.Closed) p (λ e. apart e)) p.found.1
      (last_later (is_read link) log entries (Ended link) (subst (λ (l : LinkNo). last_read l entries ≡ Some (Ended l)) at.on p.found.2))
    where
      apart : polled.Ready heard.Closed ≡ polled.Ready heard.Failed → ⊥
      apart e = cc

  pub polled_garbled : (n : ℕ) → Polls (polled.Ready (heard.Garbled n)) s entries t → Serves L link (served.Garbled n) (log ++ entries)
  polled_garbled n p = garbles L link (log ++ entries) ms M t (after_poll (polled.Ready (heard.Garbled n)) p p.found.0) (out_after (polled.Ready (heard.Garbled n)) p (λ e. apart e)) n p.found.1
    where
      apart : polled.Ready (heard.Garbled n) ≡ polled.Ready heard.Failed → ⊥
      apart e = cc

  pub polled_long : (n : ℕ) → Polls (polled.Ready (heard.TooLong n)) s entries t → Serves L link (served.TooLong n) (log ++ entries)
  polled_long n p = overlong L link (log ++ entries) ms M t (after_poll (polled.Ready (heard.TooLong n)) p p.found.0) (out_after (polled.Ready (heard.TooLong n)) p (λ e. apart e)) n p.found.1
    where
      apart : polled.Ready (heard.TooLong n) ≡ polled.Ready heard.Failed → ⊥
      apart e = cc

  pub polled_message : (m : Message) → Polls (polled.Ready (heard.Message m)) s entries t → IsAsked L link (log ++ entries) ms m M t
  polled_message m p = is_asked L link log entries ms M s t (polled.Ready (heard.Message m)) at p m p.found.0 p.found.1
      (subst (λ (l : LinkNo). BeginsWithFrame (s.held ++ heard_on l entries) p.found.0 t.held) at.on p.found.2) (λ e. apart e)
    where
      apart : polled.Ready (heard.Message m) ≡ polled.Ready heard.Failed → ⊥
      apart e = cc

  -- a poll was pending, and the fleet has waited or not
  module _ (p : Polls polled.Pending s entries t) where
    pending : IsServing L link (log ++ entries) ms M t
    pending = after_poll polled.Pending p p.found.0

    out : IsSaidOut link (last_write link (log ++ entries)) t.unsent
    out = out_after polled.Pending p (λ e. apart e)
      where
        apart : polled.Pending ≡ polled.Ready heard.Failed → ⊥
        apart e = cc

    last : last_read link (log ++ entries) ≡ Some (NotHeard link)
    last = last_later (is_read link) log entries (NotHeard link) (subst (λ (l : LinkNo). last_read l entries ≡ Some (NotHeard l)) at.on p.found.2)

    pub pending_rest : (end : Option Served) (rest : List LogEntry) → RestsAs end rest → GoesOn L link (log ++ (entries ++ rest)) end M t
    pending_rest None rest is = (ms, subst (λ (l : List LogEntry). IsServing L link l ms M t) (sym (ap (λ (r : List LogEntry). log ++ (entries ++ r)) is ∙ sym (append_assoc log entries (Rest ∷ [])))) (rested L link (log ++ entries) ms M t pending p.found.1 out last))
    pending_rest (Some served.Stopped) rest is = absurd is
    pending_rest (Some served.Closed) rest is = absurd is
    pending_rest (Some served.Failed) rest is = subst (λ (l : List LogEntry). Serves L link served.Failed l) (sym (ap (λ (r : List LogEntry). log ++ (entries ++ r)) is ∙ ap (λ (e : List LogEntry). log ++ e) (append_nil entries))) (fails L link (log ++ entries) ms M t pending)
    pending_rest (Some (served.Garbled test)) rest is = absurd is
    pending_rest (Some (served.TooLong n)) rest is = absurd is
    pending_rest (Some (served.LongReply n)) rest is = absurd is
    pending_rest (Some served.Mem) rest is = subst (λ (l : List LogEntry). Serves L link served.Mem l) (sym (ap (λ (r : List LogEntry). log ++ (entries ++ r)) is ∙ ap (λ (e : List LogEntry). log ++ e) (append_nil entries))) (wants_memory L link (log ++ entries) ms M t pending)

-- ---- what came of an answer

module _ (L : Simulator) (link : LinkNo) (log : List LogEntry) (ms : List Message) (m : Message) (M N : Simulator) (s : Session) (at : IsAsked L link log ms m M s) where
  pub answered_stop : AnswersAs answer.Stop M m → GoesOn L link log (Some served.Stopped) N s
  answered_stop a = stops L link log ms m M s at a

  pub answered_nothing : N ≡ after_message M m → AnswersAs answer.Nothing M m → GoesOn L link log None N s
  answered_nothing after a = (ms ++ m ∷ [], ignored L link log ms m M s at N after a.0 a.1)

  pub answered_memory : (t : Session) → GoesOn L link log (Some served.Mem) N t
  answered_memory t = asked_memory L link log ms m M s at

  module _ (payload : Vec ℕ) (a : AnswersAs (answer.Reply payload) M m) where
    pub answered_reply : (t : Session) → N ≡ after_message M m → t ≡ record { link = s.link; held = s.held; unsent = s.unsent ++ frame_of payload.items } → length payload.items ≤ limit → GoesOn L link log None N t
    answered_reply t after so fits = (ms ++ m ∷ [], queues L link log ms m M s at N after a.0 payload.items a.1 t a.2 a.3 so fits)

    pub answered_long : (n : ℕ) (t : Session) → n ≡ length payload.items → limit < n → GoesOn L link log (Some (served.LongReply n)) N t
    answered_long n t size long = too_long L link log ms m M s at payload.items a.1 n a.0 a.2 a.3 size long

-- what was said of an answer
module _ (L : Simulator) (link : LinkNo) (log : List LogEntry) (ms : List Message) (m : Message) (M N : Simulator) (s t : Session) (at : IsAsked L link log ms m M s) (after : N ≡ after_message M m) where
  queued_on : (payload : Vec ℕ) (end : Option Served) → AnswersAs (answer.Reply payload) M m → QueuesAs payload.items s end t → GoesOn L link log end N t
  queued_on payload None a q = answered_reply L link log ms m M N s at payload a t after q.0 q.1
  queued_on payload (Some served.Stopped) a q = absurd q
  queued_on payload (Some served.Closed) a q = absurd q
  queued_on payload (Some served.Failed) a q = absurd q
  queued_on payload (Some (served.Garbled test)) a q = absurd q
  queued_on payload (Some (served.TooLong n)) a q = absurd q
  queued_on payload (Some (served.LongReply n)) a q = answered_long L link log ms m M N s at payload a n t q.0 q.1
  queued_on payload (Some served.Mem) a q = answered_memory L link log ms m M N s at t

  pub said_on_link : (a : Answer) (end : Option Served) → AnswersAs a M m → SaysAs a s end t → GoesOn L link log end N t
  said_on_link (answer.Reply payload) end a q = queued_on payload end a q
  said_on_link answer.Nothing end a q = subst (λ (e : Option Served). GoesOn L link log e N t) (sym q.0) (subst (λ (u : Session). GoesOn L link log None N u) (sym q.1) (answered_nothing L link log ms m M N s at after a))
  said_on_link answer.Stop end a q = subst (λ (e : Option Served). GoesOn L link log e N t) (sym q.0) (answered_stop L link log ms m M N s at a)

-- ---- rounds one after another

-- a simulator of the kind of this name is being served
pub record StillServing (rows : List Turn) (kind : List ℕ) (link : LinkNo) (old new : Option (List LogEntry)) (M : Simulator) (s : Session) : Type 0 where
  pub row : Turn
  pub named : kind_named kind rows ≡ Some row
  pub entries : List LogEntry
  pub adds : Adds entries old new
  pub answered : List Message
  pub serving : IsServing (new_simulator row) link entries answered M s

pub serving_begun : (rows : List Turn) (kind : List ℕ) (link : LinkNo) (log : Option (List LogEntry)) (M : Simulator) (s : Session) → kind_named kind rows ≡ Some M.kind → M ≡ new_simulator M.kind → s ≡ record { link = link; held = []; unsent = [] } → StillServing rows kind link log log M s
serving_begun rows kind link log M s named new is = record {
  row = M.kind;
  named = named;
  entries = [];
  adds = adds_none log;
  answered = [];
  serving = subst (λ (X : Simulator). IsServing (new_simulator M.kind) link [] [] X s) (sym new) (begun (new_simulator M.kind) link s is);
}

module _ (rows : List Turn) (kind : List ℕ) (link : LinkNo) (old mid new : Option (List LogEntry)) (M N : Simulator) (s t : Session) (more : List LogEntry) (at : StillServing rows kind link old mid M s) (adds : Adds more mid new) (end : Option Served)
    (went : (L : Simulator) (log : List LogEntry) (before : List Message) → IsServing L s.link log before M s → GoesOn L s.link (log ++ more) end N t) where
  went_on : GoesOn (new_simulator at.row) link (at.entries ++ more) end N t
  went_on = subst (λ (l : LinkNo). GoesOn (new_simulator at.row) l (at.entries ++ more) end N t) at.serving.on
      (went (new_simulator at.row) at.entries at.answered (subst (λ (l : LinkNo). IsServing (new_simulator at.row) l at.entries at.answered M s) (sym at.serving.on) at.serving))

  pub serving_on : end ≡ None → StillServing rows kind link old new N t
  serving_on e = let w = subst (λ (o : Option Served). GoesOn (new_simulator at.row) link (at.entries ++ more) o N t) e went_on in record {
    row = at.row;
    named = at.named;
    entries = at.entries ++ more;
    adds = adds_more at.entries more old mid new at.adds adds;
    answered = w.0;
    serving = w.1;
  }

  pub serving_ended : (last : Served) → end ≡ Some last → (entries : List LogEntry) × Adds entries old new × ((row : Turn) → kind_named kind rows ≡ Some row → Serves (new_simulator row) link last entries)
  serving_ended last e = (
    at.entries ++ more,
    adds_more at.entries more old mid new at.adds adds,
    λ row is. subst (λ (T : Turn). Serves (new_simulator T) link last (at.entries ++ more)) (some_same (sym at.named ∙ is)) (subst (λ (o : Option Served). GoesOn (new_simulator at.row) link (at.entries ++ more) o N t) e went_on),
  )

-- there was no memory to begin
pub unbegun : (rows : List Turn) (kind : List ℕ) (link : LinkNo) (log : Option (List LogEntry)) → (entries : List LogEntry) × Adds entries log log × ((row : Turn) → kind_named kind rows ≡ Some row → Serves (new_simulator row) link served.Mem entries)
unbegun rows kind link log = ([], adds_none log, λ row is. wants_memory (new_simulator row) link [] [] (new_simulator row) (record { link = link; held = []; unsent = [] }) (begun (new_simulator row) link (record { link = link; held = []; unsent = [] }) refl))
