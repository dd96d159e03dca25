-- Links that are kept by cursors.
use Rattle.std.proofs.Common.{◌≡◌, ℕ, zero, suc, ◌+◌, ◌-◌, ◌<◌, ◌≤◌, Bool, false, if◌then◌else◌, ◌^◌, min, option_and_then, List, [], ◌∷◌, ◌++◌, length, drop, get_or, refl, sym, ap, ◌∙◌, arith, Some, None, option_map, slice_get, slice_set}
use Rattle.std.proofs.Common.{length-append, subst}
use Rattle.std.proofs.lemmas.List.{length-set}
use Rattle.std.proofs.lemmas.Bool.{le-ltb, lt-ltb}
use Rattle.std.proofs.lemmas.Option.{slice_get_past, slice_get_read}
use Rattle.mk_base.specs.declared.LinkNo.{LinkNo}
use Rattle.mk_outside.specs.declared.fleet.Started.TheVariants as started
use Rattle.mk_fakes.specs.declared.wires.Chunk.{Chunk}
use Rattle.mk_fakes.specs.declared.wires.Cursor.{Cursor}
use Rattle.mk_fakes.specs.inner.Cursors.{cut, line_of, lines_from}
use Rattle.mk_fakes.specs.Scripts.{after_start, changed_at, chunks_of, coming, given, on_line, past, said_more, said_to, without_front}
use Rattle.mk_fakes.specs.Telling.{Line, Wiring}

-- the link at a place
pub lines_get : (chunks : List Chunk) (n : ℕ) (cursors : List Cursor) (k : ℕ) → slice_get (lines_from chunks n cursors) k ≡ option_map (line_of chunks (n + k)) (slice_get cursors k)
lines_get chunks n [] k = refl
lines_get chunks n (c ∷ cursors) zero = ap (λ i. Some (line_of chunks i c)) (omega arith)
lines_get chunks n (c ∷ cursors) (suc k) = lines_get chunks (n + 1) cursors k ∙ ap (λ i. option_map (line_of chunks i) (slice_get cursors k)) (omega arith)

-- with one cursor set
pub lines_set : (chunks : List Chunk) (n : ℕ) (cursors : List Cursor) (k : ℕ) (c : Cursor) → lines_from chunks n (slice_set cursors k c) ≡ changed_at (λ line. line_of chunks (n + k) c) k (lines_from chunks n cursors)
lines_set chunks n [] k c = refl
lines_set chunks n (d ∷ cursors) zero c = ap (λ i. line_of chunks i c ∷ lines_from chunks (n + 1) cursors) (omega arith)
lines_set chunks n (d ∷ cursors) (suc k) c = ap (λ ls. line_of chunks n d ∷ ls) (lines_set chunks (n + 1) cursors k c ∙ ap (λ i. changed_at (λ line. line_of chunks i c) k (lines_from chunks (n + 1) cursors)) (omega arith))

-- with one more cursor
pub lines_push : (chunks : List Chunk) (n : ℕ) (cursors : List Cursor) (c : Cursor) → lines_from chunks n (cursors ++ c ∷ []) ≡ lines_from chunks n cursors ++ line_of chunks (n + length cursors) c ∷ []
lines_push chunks n [] c = ap (λ i. line_of chunks i c ∷ []) (omega arith)
lines_push chunks n (d ∷ cursors) c = ap (λ ls. line_of chunks n d ∷ ls) (lines_push chunks (n + 1) cursors c ∙ ap (λ i. lines_from chunks (n + 1) cursors ++ line_of chunks i c ∷ []) (omega arith))

-- nothing was changed where there is no such place
pub unchanged : {X : Type 0} (f : X → X) (k : ℕ) (xs : List X) → slice_get xs k ≡ None → xs ≡ changed_at f k xs
unchanged f k [] none = refl
unchanged f zero (x ∷ xs) none = absurd (cc none)
unchanged f (suc k) (x ∷ xs) none = ap (λ l. x ∷ l) (unchanged f k xs none)

-- what an item is changed to
pub changed_to : {X : Type 0} (f : X → X) (k : ℕ) (xs : List X) (x y : X) → Some x ≡ slice_get xs k → y ≡ f x → changed_at (λ _. y) k xs ≡ changed_at f k xs
changed_to f k [] x y is to = absurd (cc is)
changed_to {X} f zero (z ∷ xs) x y is to =
    let same : x ≡ z = cc is in
    ap (λ l. l ∷ xs) (to ∙ ap f same)
changed_to f (suc k) (z ∷ xs) x y is to = ap (λ l. z ∷ l) (changed_to f k xs x y is to)

-- chunks of which nothing was cut
pub cut_none : (cs : List Chunk) → cut 0 cs ≡ cs
cut_none [] = refl
cut_none (c ∷ cs) = refl

-- what is seen of links that are kept so
abbrev pub shown : List Chunk → List Cursor → List LinkNo → Wiring
shown chunks cursors links = record { started = length cursors; links = links; chunks = chunks; lines = lines_from chunks 0 cursors }

-- a link that was started
pub line_there : (chunks : List Chunk) (cursors : List Cursor) (links : List LinkNo) (w : Wiring) (k n : ℕ) (c : Cursor) → shown chunks cursors links ≡ w → n ≡ length cursors → k < n → c ≡ get_or cursors k c
    → Some (line_of w.chunks k c) ≡ slice_get w.lines k
line_there chunks cursors links w k n c is size within at =
    let there : Some (line_of chunks k c) ≡ slice_get (lines_from chunks 0 cursors) k =
    ap (λ i. Some (line_of chunks i c)) (omega arith) ∙ ap (option_map (line_of chunks (0 + k))) (sym (slice_get_read cursors n k c size within at)) ∙ sym (lines_get chunks 0 cursors k) in
    subst (λ (v : Wiring). Some (line_of v.chunks k c) ≡ slice_get v.lines k) is there

-- a link that wasn't started
pub line_missing : (chunks : List Chunk) (cursors : List Cursor) (links : List LinkNo) (w : Wiring) (k : ℕ) → shown chunks cursors links ≡ w → length cursors ≤ k → None ≡ slice_get w.lines k
line_missing chunks cursors links w k is past =
    let missing : None ≡ slice_get (lines_from chunks 0 cursors) k =
    ap (option_map (line_of chunks (0 + k))) (sym (slice_get_past cursors k past)) ∙ sym (lines_get chunks 0 cursors k) in
    subst (λ (v : Wiring). None ≡ slice_get v.lines k) is missing

-- with the cursor of a link set
pub set_shows : (chunks : List Chunk) (cursors : List Cursor) (links : List LinkNo) (w : Wiring) (link : LinkNo) (c : Cursor) → shown chunks cursors links ≡ w
    → shown chunks (slice_set cursors link.0 c) links ≡ on_line link (λ line. line_of w.chunks link.0 c) w
set_shows chunks cursors links w link c is =
    let after : Wiring → Wiring = λ v. on_line link (λ line. line_of v.chunks link.0 c) v in
    ap (λ n. record { started = n; links = links; chunks = chunks; lines = lines_from chunks 0 (slice_set cursors link.0 c) }) (length-set cursors link.0 c)
    ∙ ap (λ ls. record { started = length cursors; links = links; chunks = chunks; lines = ls }) (lines_set chunks 0 cursors link.0 c ∙ ap (λ i. changed_at (λ line. line_of chunks i c) link.0 (lines_from chunks 0 cursors)) (omega arith))
    ∙ ap after is

-- with one link more
pub start_shows : (chunks : List Chunk) (cursors new_cursors : List Cursor) (links new_links : List LinkNo) (w : Wiring) (n : ℕ) → shown chunks cursors links ≡ w → n ≡ length cursors
    → new_cursors ≡ cursors ++ (record { next = 0; at = 0; said = 0; held_up = false }) ∷ [] → new_links ≡ links ++ (record { 0 = n }) ∷ []
    → shown chunks new_cursors new_links ≡ after_start (started.Link (record { 0 = n })) w
start_shows chunks cursors new_cursors links new_links w n is size one two =
    let fresh : Cursor = record { next = 0; at = 0; said = 0; held_up = false } in
    let line : ℕ → Line = λ i. record { rest = chunks_of (record { 0 = i }) chunks; said = 0; held_up = false } in
    let begun : line_of chunks (0 + length cursors) fresh ≡ line n =
    ap (λ cs. record { rest = cs; said = 0; held_up = false }) (cut_none (chunks_of (record { 0 = 0 + length cursors }) chunks)) ∙ ap line (omega arith) in
    ap (λ cs. shown chunks cs new_links) one
    ∙ ap (λ ls. shown chunks (cursors ++ fresh ∷ []) ls) two
    ∙ ap (λ k. record { started = k; links = links ++ (record { 0 = n }) ∷ []; chunks = chunks; lines = lines_from chunks 0 (cursors ++ fresh ∷ []) }) (length-append cursors (fresh ∷ []))
    ∙ ap (λ ls. record { started = length cursors + 1; links = links ++ (record { 0 = n }) ∷ []; chunks = chunks; lines = ls }) (lines_push chunks 0 cursors fresh ∙ ap (λ l. lines_from chunks 0 cursors ++ l ∷ []) begun)
    ∙ ap (after_start (started.Link (record { 0 = n }))) is

-- a link that was changed to this
pub line_changed : (w : Wiring) (link : LinkNo) (f : Line → Line) (l m : Line) → Some l ≡ slice_get w.lines link.0 → m ≡ f l → on_line link (λ line. m) w ≡ on_line link f w
line_changed w link f l m there to = ap (λ ls. record { started = w.started; links = w.links; chunks = w.chunks; lines = ls }) (changed_to f link.0 w.lines l m there to)

-- no link was changed
pub line_unchanged : (w : Wiring) (link : LinkNo) (f : Line → Line) → None ≡ slice_get w.lines link.0 → w ≡ on_line link f w
line_unchanged w link f missing = ap (λ ls. record { started = w.started; links = w.links; chunks = w.chunks; lines = ls }) (unchanged f link.0 w.lines (sym missing))

-- a link on which more was said
pub said_line : (chunks : List Chunk) (k : ℕ) (c : Cursor) (n said : ℕ) (held_up : Bool) → said ≡ min (c.said + n) (2 ^ 64 - 1)
    → line_of chunks k (record { next = c.next; at = c.at; said = said; held_up = held_up }) ≡ said_more n held_up (line_of chunks k c)
said_line chunks k c n said held_up is = ap (λ m. line_of chunks k (record { next = c.next; at = c.at; said = m; held_up = held_up })) is

-- the next chunk of a link that has none
pub next_none : (w : Wiring) (link : LinkNo) (c : Cursor) → Some (line_of w.chunks link.0 c) ≡ slice_get w.lines link.0 → chunks_of link (drop c.next w.chunks) ≡ [] → None ≡ coming w link
next_none w link c there none =
    ap (λ cs. option_and_then (given w) (slice_get (cut c.at cs) 0)) (sym none) ∙ ap (λ l. option_and_then (given w) (option_and_then (λ (l : Line). slice_get l.rest 0) l)) there

-- the next chunk of a link
pub next_some : (w : Wiring) (link : LinkNo) (c : Cursor) (chunk : Chunk) (more : List Chunk) → Some (line_of w.chunks link.0 c) ≡ slice_get w.lines link.0 → chunks_of link (drop c.next w.chunks) ≡ chunk ∷ more
    → given w (without_front c.at chunk) ≡ coming w link
next_some w link c chunk more there some =
    ap (λ cs. option_and_then (given w) (slice_get (cut c.at cs) 0)) (sym some) ∙ ap (λ l. option_and_then (given w) (option_and_then (λ (l : Line). slice_get l.rest 0) l)) there

-- a chunk that isn't given yet
pub too_early : (w : Wiring) (c : Chunk) (at said : ℕ) → said ≡ said_to w c.on → said < c.after → None ≡ given w (without_front at c)
too_early w c at said is early =
    ap (λ (b : Bool). if b then None else Some (drop at c.bytes)) (sym (lt-ltb (said_to w c.on) c.after (omega (arith, is, early))))

-- a chunk that is given
pub in_time : (w : Wiring) (c : Chunk) (at said : ℕ) → said ≡ said_to w c.on → c.after ≤ said → Some (drop at c.bytes) ≡ given w (without_front at c)
in_time w c at said is late =
    ap (λ (b : Bool). if b then None else Some (drop at c.bytes)) (sym (le-ltb (said_to w c.on) c.after (omega (arith, is, late))))
