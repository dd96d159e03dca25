-- What a session's answers come to for its channel.
use Rattle.std.proofs.Common.{◌≡◌, ◌⊎◌, ℕ, inl, inr, Bool, true, false, List, [], ◌++◌, drop, refl, sym, ap, ◌∙◌}
use Rattle.std.proofs.lemmas.List.{take-append-drop}
use Rattle.mk_base.proofs.Lists.{append_nil}
use Rattle.mk_outside.specs.declared.fleet.LogEntry.{LogEntry}
use Rattle.mk_outside.specs.Counts.{HasRisen}
use Rattle.mk_outside.specs.Logs.{last_write, said_on}
use Rattle.mk_session.specs.declared.answers.Heard.TheVariants as heard
use Rattle.mk_session.specs.declared.answers.Polled.{Polled}
use Rattle.mk_session.specs.declared.answers.Polled.TheVariants as polled
use Rattle.mk_session.specs.declared.session.Session.{Session}
use Rattle.mk_session.specs.Answers.{Polls, FlushedAs}
use Rattle.mk_session.specs.Talks.{EachTook, IsHeldUp, LastTookNothing}
use Rattle.mk_session.proofs.OnTalks.{last_is_held_up}
use Rattle.mk_run_laws.specs.Channels.{Channel}
use Rattle.mk_run_laws.proofs.Polling.{pending_moved, message_moved, nothing_moved}
use Rattle.mk_run_links.specs.inner.OneChannel.{PollsChannel, FlushesChannel, is_pending}

-- the channel of a session
abbrev pub channel_of : Session → Bool → ℕ → Channel
channel_of s parked next = record { link = s.link; held = s.held; unsent = s.unsent; parked = parked; next = next }

pub polls_channel : (answer : Polled) (old new : Session) (entries : List LogEntry) (was : Bool) (next : ℕ) → Polls answer old entries new → PollsChannel answer (channel_of old was next) entries (channel_of new (is_pending answer) next)
polls_channel (polled.Ready (heard.Message m)) old new entries was next p = record {
  on_link = p.on_link;
  moved = message_moved entries (channel_of old was next) (channel_of new false next) p.found.0 m p.same_link refl p.said p.found.2 p.found.1 refl;
  parked = refl;
  shown = tt;
}
polls_channel (polled.Ready (heard.Garbled t)) old new entries was next p = record {
  on_link = p.on_link;
  moved = nothing_moved entries (channel_of old was next) (channel_of new false next) p.same_link refl p.said p.found.0 refl;
  parked = refl;
  shown = p.found.1;
}
polls_channel (polled.Ready (heard.TooLong n)) old new entries was next p = record {
  on_link = p.on_link;
  moved = nothing_moved entries (channel_of old was next) (channel_of new false next) p.same_link refl p.said p.found.0 refl;
  parked = refl;
  shown = p.found.1;
}
polls_channel (polled.Ready heard.Closed) old new entries was next p = record {
  on_link = p.on_link;
  moved = nothing_moved entries (channel_of old was next) (channel_of new false next) p.same_link refl p.said p.found.0 refl;
  parked = refl;
  shown = (p.found.1, rw p.same_link p.found.2);
}
polls_channel (polled.Ready heard.Failed) old new entries was next p = record {
  on_link = p.on_link;
  moved = nothing_moved entries (channel_of old was next) (channel_of new false next) p.same_link refl p.said p.found refl;
  parked = refl;
  shown = tt;
}
polls_channel (polled.Ready heard.Mem) old new entries was next p = record {
  on_link = p.on_link;
  moved = nothing_moved entries (channel_of old was next) (channel_of new false next) p.same_link refl p.said p.found refl;
  parked = refl;
  shown = tt;
}
polls_channel polled.Pending old new entries was next p = record {
  on_link = p.on_link;
  moved = pending_moved entries (channel_of old was next) (channel_of new true next) p.same_link refl p.said p.found.0 p.found.1 p.found.2 (p.said_out (λ e. absurd (apart e)));
  parked = refl;
  shown = tt;
}
  where
    apart : polled.Pending ≡ polled.Ready heard.Failed → ⊥
    apart e = cc

pub flushes_channel : (answer : Bool) (w : Channel) (last : List ℕ) (entries : List LogEntry) (before after : ℕ) → FlushedAs answer w.link (w.unsent ++ last) entries before after → FlushesChannel w last (HasRisen before after) entries
flushes_channel true w last entries before after f = record {
  on_link = f.0.on_link;
  unheard = f.0.not_heard;
  said = ([], sym (append_nil (said_on w.link entries) ∙ f.0.said));
  whole = inl f.0.said;
}
flushes_channel false w last entries before after f = record {
  on_link = f.2.on_link;
  unheard = f.2.not_heard;
  said = (drop f.0 (w.unsent ++ last), sym (ap (λ (b : List ℕ). b ++ drop f.0 (w.unsent ++ last)) f.2.said ∙ take-append-drop f.0 (w.unsent ++ last)));
  whole = inr (stopped f.3);
}
  where
    stopped : (LastTookNothing w.link entries ⊎ EachTook w.link entries × HasRisen before after)
        → (IsHeldUp w.link (last_write w.link entries) ⊎ HasRisen before after)
    stopped (inl last) = inl (last_is_held_up w.link entries last)
    stopped (inr (each, risen)) = inr risen
