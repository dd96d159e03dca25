-- What comes on links in memory, and when.
use Rattle.std.specs.Prelude.{ℕ, zero, suc, ◌+◌, ◌-◌, ◌^◌, Bool, true, false, ◌||◌, List, [], ◌∷◌, ◌++◌, length, drop, filter, min, nat_lt, Option, None, Some, option_map, option_and_then, unwrap_or, slice_get, if◌then◌else◌}
use Rattle.std.specs.Option.{is_some}
use Rattle.mk_base.specs.declared.LinkNo.{LinkNo}
use Rattle.mk_base.specs.Links.{same_link, without}
use Rattle.mk_outside.specs.declared.fleet.Started.{Started}
use Rattle.mk_outside.specs.declared.fleet.Started.TheVariants as started
use Rattle.mk_outside.specs.declared.fleet.ReadLink.{ReadLink}
use Rattle.mk_outside.specs.declared.fleet.ReadLink.TheVariants as read
use Rattle.mk_outside.specs.declared.fleet.WriteLink.{WriteLink}
use Rattle.mk_outside.specs.declared.fleet.WriteLink.TheVariants as write
use Rattle.mk_fakes.specs.declared.wires.Chunk.{Chunk}
use Rattle.mk_fakes.specs.Telling.{Line, Wiring}

-- the chunks of a link, in their order
abbrev pub chunks_of : LinkNo → List Chunk → List Chunk
chunks_of link = filter (λ c. same_link c.link link)

-- how many bytes were said on a link; none on one that wasn't started
abbrev pub said_to : Wiring → LinkNo → ℕ
said_to w link = unwrap_or (option_map (λ l. l.said) (slice_get w.lines link.0)) 0

-- the next chunk of a link
abbrev pub next_chunk : Wiring → LinkNo → Option Chunk
next_chunk w link = option_and_then (λ l. slice_get l.rest 0) (slice_get w.lines link.0)

-- a chunk's bytes, once at least so many bytes were said on its other link
abbrev pub given : Wiring → Chunk → Option (List ℕ)
given w c = if nat_lt (said_to w c.on) c.after then None else Some c.bytes

-- what is coming on a link: what is left of its next chunk, once that is given; no bytes are the
-- link's end
abbrev pub coming : Wiring → LinkNo → Option (List ℕ)
coming w link = option_and_then (given w) (next_chunk w link)

-- the last write on the link answered NotYet
abbrev pub is_held_up : Wiring → LinkNo → Bool
is_held_up w link = unwrap_or (option_map (λ l. l.held_up) (slice_get w.lines link.0)) false

-- a wait marks the link: its last write answered NotYet, or something is coming on it
abbrev pub is_awake : Wiring → LinkNo → Bool
is_awake w link = is_held_up w link || is_some (coming w link)

-- with one item changed
abbrev pub changed_at : {X : Type 0} → (X → X) → ℕ → List X → List X
changed_at change i [] = []
changed_at change zero (x ∷ xs) = change x ∷ xs
changed_at change (suc i) (x ∷ xs) = x ∷ changed_at change i xs

-- with one link changed
abbrev pub on_line : LinkNo → (Line → Line) → Wiring → Wiring
on_line link change w = record {
  started = w.started;
  links = w.links;
  chunks = w.chunks;
  lines = changed_at change link.0 w.lines;
}

-- the chunk without its first n bytes
abbrev pub without_front : ℕ → Chunk → Chunk
without_front n c = record { link = c.link; on = c.on; after = c.after; bytes = drop n c.bytes }

-- what is still to come after n bytes of the next chunk: the rest of it, if there is any, and the
-- chunks behind it
abbrev pub past : ℕ → List Chunk → List Chunk
past n [] = []
past n (c ∷ cs) = if nat_lt n (length c.bytes) then without_front n c ∷ cs else cs

-- a link after n bytes have come
abbrev pub heard : ℕ → Line → Line
heard n l = record { rest = past n l.rest; said = l.said; held_up = l.held_up }

-- a link after n more bytes were said; held up, or not
abbrev pub said_more : ℕ → Bool → Line → Line
said_more n held_up l = record {
  rest = l.rest;
  said = min (l.said + n) (2 ^ 64 - 1);
  held_up = held_up;
}

-- after a start with this answer: a new link has all its chunks before it, and nothing was said on
-- it
abbrev pub after_start : Started → Wiring → Wiring
after_start (started.Link link) w = record {
  started = w.started + 1;
  links = w.links ++ link ∷ [];
  chunks = w.chunks;
  lines = w.lines
      ++ (record { rest = chunks_of link w.chunks; said = 0; held_up = false }) ∷ [];
}
after_start started.Failed w = w
after_start started.Mem w = w

-- after a read with this answer
abbrev pub after_read : LinkNo → ReadLink → Wiring → Wiring
after_read link (read.Got n) w = on_line link (heard n) w
after_read link read.NotYet w = w
after_read link read.Closed w = w
after_read link read.Failed w = w

-- after a write with this answer
abbrev pub after_write : LinkNo → WriteLink → Wiring → Wiring
after_write link (write.Put n) w = on_line link (said_more n false) w
after_write link write.NotYet w = on_line link (said_more 0 true) w
after_write link write.Failed w = on_line link (said_more 0 false) w

-- after a link was closed
abbrev pub after_close : LinkNo → Wiring → Wiring
after_close link w = record {
  started = w.started;
  links = without link w.links;
  chunks = w.chunks;
  lines = w.lines;
}
