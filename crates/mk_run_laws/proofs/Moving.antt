-- How a channel's account over a log goes on with the entries of a call.
use Rattle.std.proofs.Common.{◌≡◌, ℕ, Bool, List, [], ◌∷◌, ◌++◌, Option, Some, None, refl, sym, ap, ◌∙◌, subst, ◌⊎◌, inl, inr, append_assoc, true≢false}
use Rattle.mk_base.specs.declared.LinkNo.{LinkNo}
use Rattle.mk_base.specs.Lists.{BeginsWith}
use Rattle.mk_base.proofs.Lists.{append_nil, none_some, some_same}
use Rattle.mk_plan.specs.declared.Call.TheVariants.{Stop}
use Rattle.mk_plan.specs.declared.Message.{Message}
use Rattle.mk_message.specs.Written.{call_text}
use Rattle.mk_frame.specs.Frames.{frame_of, frames_of}
use Rattle.mk_outside.specs.declared.fleet.LogEntry.{LogEntry}
use Rattle.mk_outside.specs.declared.fleet.LogEntry.TheVariants.{NotHeard, NotSaid}
use Rattle.mk_outside.specs.Logs.{heard_on, said_on, later_of, last_that, last_read, last_write, is_read, is_write}
use Rattle.mk_run_laws.specs.Hearing.{Takes}
use Rattle.mk_run_laws.specs.Payloads.{AreFramed, IsFramed}
use Rattle.mk_run_laws.specs.Channels.{Channel, IsParkedIn, StaysParked, IsMoved, IsChannelAt, queued, IsStopped}
use Rattle.mk_run_laws.proofs.Taking.{takes_more}
use Rattle.mk_run_laws.specs.Crews.{IsMovedAt}
use Rattle.mk_outside.proofs.OnLogs.{heard-append, said-append, last-append}
use Rattle.mk_frame.proofs.OnFrames.{frames_of-push}

-- ---- logs

-- the last one of the later entries is the last one of all
pub last_later : (test : LogEntry → Bool) (a b : List LogEntry) (e : LogEntry) → last_that test b ≡ Some e → last_that test (a ++ b) ≡ Some e
last_later test a b e is = last-append test a b ∙ ap (later_of (last_that test a)) is

-- where there is none of the later entries, the last one stays
pub last_kept : (test : LogEntry → Bool) (a b : List LogEntry) → last_that test b ≡ None → last_that test (a ++ b) ≡ last_that test a
last_kept test a b is = last-append test a b ∙ ap (later_of (last_that test a)) is

-- ---- parked channels

pub parked_later : (log entries : List LogEntry) (w : Channel) → IsParkedIn entries w → IsParkedIn (log ++ entries) w
parked_later log entries w p = record {
  heard_all = last_later (is_read w.link) log entries (NotHeard w.link) p.heard_all;
  said_all = elim p.said_all [ inl none ↦ inl none | inr not ↦ inr (last_later (is_write w.link) log entries (NotSaid w.link) not) ];
  unfinished = p.unfinished;
}

pub parked_still : (log entries : List LogEntry) (old new : Channel) → StaysParked entries old new → IsParkedIn log old → IsParkedIn (log ++ entries) new
parked_still log entries old new left p = subst (λ (w : Channel). IsParkedIn (log ++ entries) w) (sym left.same) (record {
  heard_all = last_kept (is_read old.link) log entries left.unread ∙ p.heard_all;
  said_all = elim p.said_all [ inl none ↦ inl none | inr not ↦ inr (last_kept (is_write old.link) log entries left.unwritten ∙ not) ];
  unfinished = p.unfinished;
})

-- ---- the calls

-- a channel goes on by the entries of a call, and gives messages
pub channel_moved : (log entries : List LogEntry) (ms given : List Message) (payloads : List (List ℕ)) (next : ℕ) (old new : Channel) → IsChannelAt log ms payloads next old → IsMoved entries given old new
    → IsChannelAt (log ++ entries) (ms ++ given) payloads next new
channel_moved log entries ms given payloads next old new at moved = record {
  heard = subst (λ (l : LinkNo). Takes (heard_on l (log ++ entries)) (ms ++ given) new.held) (sym moved.link)
      (subst (λ (h : List ℕ). Takes h (ms ++ given) new.held) (sym (heard-append old.link log entries))
      (takes_more (heard_on old.link log) (heard_on old.link entries) old.held new.held ms given at.heard moved.taken));
  said = ap (λ (l : LinkNo). said_on l (log ++ entries) ++ new.unsent) moved.link ∙ ap (λ (b : List ℕ). b ++ new.unsent) (said-append old.link log entries)
      ∙ append_assoc (said_on old.link log) (said_on old.link entries) new.unsent ∙ ap (λ (b : List ℕ). said_on old.link log ++ b) moved.said ∙ at.said;
  framed = at.framed;
  next_id = moved.next ∙ at.next_id;
  parked = λ p. elim (moved.parked p) [ inl now ↦ parked_later log entries new now | inr left ↦ parked_still log entries old new left (at.parked left.parked) ];
}

-- two calls after each other are as one
pub moved_twice : (a b : List LogEntry) (given later : List Message) (old mid new : Channel) → IsMoved a given old mid → IsMoved b later mid new → IsMoved (a ++ b) (given ++ later) old new
moved_twice a b given later old mid new one two = record {
  link = two.link ∙ one.link;
  next = two.next ∙ one.next;
  said = ap (λ (x : List ℕ). x ++ new.unsent) (said-append old.link a b) ∙ append_assoc (said_on old.link a) (said_on old.link b) new.unsent
      ∙ ap (λ (x : List ℕ). said_on old.link a ++ x) (ap (λ (l : LinkNo). said_on l b ++ new.unsent) (sym one.link) ∙ two.said) ∙ one.said;
  taken = subst (λ (h : List ℕ). Takes (old.held ++ h) (given ++ later) new.held) (sym (heard-append old.link a b))
      (subst (λ (h : List ℕ). Takes h (given ++ later) new.held) (append_assoc old.held (heard_on old.link a) (heard_on old.link b))
      (takes_more (old.held ++ heard_on old.link a) (heard_on old.link b) mid.held new.held given later one.taken
      (subst (λ (l : LinkNo). Takes (mid.held ++ heard_on l b) later new.held) one.link two.taken)));
  parked = λ p. elim (two.parked p) [
    | inl now ↦ inl (parked_later a b new now)
    | inr left ↦ elim (one.parked left.parked) [
      | inl there ↦ inl (parked_still a b mid new left there)
      | inr still ↦ inr (record {
        same = left.same ∙ still.same;
        parked = still.parked;
        unread = last_kept (is_read old.link) a b (subst (λ (l : LinkNo). last_read l b ≡ None) one.link left.unread) ∙ still.unread;
        unwritten = last_kept (is_write old.link) a b (subst (λ (l : LinkNo). last_write l b ≡ None) one.link left.unwritten) ∙ still.unwritten;
      })
    ]
  ];
}

-- one payload more that a frame may have
pub framed_push : (payloads : List (List ℕ)) (payload : List ℕ) → AreFramed payloads → IsFramed payload → AreFramed (payloads ++ payload ∷ [])
framed_push [] payload all one = (one, tt)
framed_push (p ∷ payloads) payload all one = (all.0, framed_push payloads payload all.1 one)

-- a payload is queued that a frame may have
pub channel_queued : (log : List LogEntry) (ms : List Message) (payloads : List (List ℕ)) (next after : ℕ) (payload : List ℕ) (old : Channel) → IsChannelAt log ms payloads next old → IsFramed payload
    → IsChannelAt log ms (payloads ++ payload ∷ []) after (queued payload after old)
channel_queued log ms payloads next after payload old at one = record {
  heard = at.heard;
  said = sym (append_assoc (said_on old.link log) old.unsent (frame_of payload)) ∙ ap (λ (b : List ℕ). b ++ frame_of payload) at.said ∙ sym (frames_of-push payloads payload);
  framed = framed_push payloads payload at.framed one;
  next_id = refl;
  parked = λ p. absurd (true≢false (sym p));
}

-- a channel is stopped: what was said is a beginning of the frames of all payloads and of a stop
pub said_at_stop : (log entries : List LogEntry) (ms : List Message) (payloads : List (List ℕ)) (next : ℕ) (risen : Type 0) (w : Channel) → IsChannelAt log ms payloads next w → IsStopped entries risen w
    → BeginsWith (frames_of (payloads ++ call_text next Stop ∷ [])) (said_on w.link (log ++ entries))
said_at_stop log entries ms payloads next risen w at stopped = (
  stopped.said.0,
  frames_of-push payloads (call_text next Stop) ∙ ap (λ (n : ℕ). frames_of payloads ++ frame_of (call_text n Stop)) (sym at.next_id)
      ∙ ap (λ (b : List ℕ). b ++ frame_of (call_text w.next Stop)) (sym at.said)
      ∙ append_assoc (said_on w.link log) w.unsent (frame_of (call_text w.next Stop))
      ∙ ap (λ (b : List ℕ). said_on w.link log ++ b) stopped.said.1
      ∙ sym (append_assoc (said_on w.link log) (said_on w.link entries) stopped.said.0)
      ∙ ap (λ (b : List ℕ). b ++ stopped.said.0) (sym (said-append w.link log entries)),
)

-- and all of it, but where a write took nothing or the count of faults rose
pub all_at_stop : (log entries : List LogEntry) (ms : List Message) (payloads : List (List ℕ)) (next : ℕ) (risen : Type 0) (w : Channel) → IsChannelAt log ms payloads next w → IsStopped entries risen w
    → (said_on w.link (log ++ entries) ≡ frames_of (payloads ++ call_text next Stop ∷ [])) ⊎ ((last_write w.link (log ++ entries) ≡ Some (NotSaid w.link)) ⊎ risen)
all_at_stop log entries ms payloads next risen w at stopped = elim stopped.whole [
  | inl all ↦ inl (said-append w.link log entries ∙ ap (λ (b : List ℕ). said_on w.link log ++ b) all
      ∙ sym (append_assoc (said_on w.link log) w.unsent (frame_of (call_text w.next Stop)))
      ∙ ap (λ (b : List ℕ). b ++ frame_of (call_text w.next Stop)) at.said
      ∙ ap (λ (n : ℕ). frames_of payloads ++ frame_of (call_text n Stop)) at.next_id
      ∙ sym (frames_of-push payloads (call_text next Stop)))
  | inr (inl not) ↦ inr (inl (last_later (is_write w.link) log entries (NotSaid w.link) not))
  | inr (inr rose) ↦ inr (inr rose)
]

-- and no payload is longer than a frame's may be
pub framed_at_stop : (log entries : List LogEntry) (ms : List Message) (payloads : List (List ℕ)) (next : ℕ) (risen : Type 0) (w : Channel) → IsChannelAt log ms payloads next w → IsStopped entries risen w → AreFramed (payloads ++ call_text next Stop ∷ [])
framed_at_stop log entries ms payloads next risen w at stopped = framed_push payloads (call_text next Stop) at.framed (subst (λ (n : ℕ). IsFramed (call_text n Stop)) at.next_id stopped.framed)

-- nothing is heard while a channel is stopped
pub heard_at_stop : (log entries : List LogEntry) (risen : Type 0) (w : Channel) → IsStopped entries risen w → heard_on w.link (log ++ entries) ≡ heard_on w.link log
heard_at_stop log entries risen w stopped = heard-append w.link log entries ∙ ap (λ (b : List ℕ). heard_on w.link log ++ b) stopped.unheard ∙ append_nil (heard_on w.link log)

-- ---- a channel at a place, where one may be

pub moved_there : (entries : List LogEntry) (given : List Message) (o p : Option Channel) (w : Channel) → o ≡ Some w → IsMovedAt entries given o p → (v : Channel) × (p ≡ Some v) × IsMoved entries given w v
moved_there entries given None p w e moved = absurd (none_some e)
moved_there entries given (Some u) None w e moved = absurd moved
moved_there entries given (Some u) (Some v) w e moved = (v, refl, subst (λ (x : Channel). IsMoved entries given x v) (some_same e) moved)

pub moved_back : (entries : List LogEntry) (given : List Message) (o p : Option Channel) (v : Channel) → p ≡ Some v → IsMovedAt entries given o p → (w : Channel) × (o ≡ Some w) × (v.link ≡ w.link)
moved_back entries given o None v e moved = absurd (none_some e)
moved_back entries given None (Some u) v e moved = absurd moved
moved_back entries given (Some w) (Some u) v e moved = (w, refl, ap (λ (x : Channel). x.link) (sym (some_same e)) ∙ moved.link)

pub moved_none : (entries : List LogEntry) (given : List Message) (o p : Option Channel) → o ≡ None → IsMovedAt entries given o p → p ≡ None
moved_none entries given None None e moved = refl
moved_none entries given None (Some v) e moved = absurd moved
moved_none entries given (Some u) p e moved = absurd (none_some (sym e))
