-- Lemmas on frames.
use Rattle.std.proofs.Common.{◌≡◌, ℕ, ◌+◌, ◌-◌, ◌*◌, ◌<◌, ◌≤◌, inl, inr, List, [], ◌∷◌, ◌++◌, length, take, drop, replicate, slice_index, refl, sym, ap, subst, ◌∙◌, ◌/◌, ◌%◌, arith, length-append, append_assoc}
use Rattle.std.proofs.lemmas.List.{take-append-drop, length-take-le, length-drop, length-replicate, append_cancel_left, drop-drop, append-nil}
use Rattle.byteorder.specs.Endian.{big_bytes, big_number}
use Rattle.byteorder.specs.Numbers.{big_number-reads_back, length-bytes_high_first}
use Rattle.mk_base.specs.Lists.{Each}
use Rattle.mk_frame.specs.Frames.{limit, frame_of, frames_of, IsProperPrefix, IsUnfinished, IsTooLong, BeginsWithFrame, Feeding, begun, feeds, takes}

-- four bytes are the header of the number that they read as
pub header_read : (held : List ℕ) → 4 ≤ length held → ((i : ℕ) → slice_index held i < 256) → take 4 held ≡ big_bytes 4 (big_number 4 held)
header_read [] four bytes = absurd (omega arith)
header_read (a ∷ []) four bytes = absurd (omega arith)
header_read (a ∷ b ∷ []) four bytes = absurd (omega arith)
header_read (a ∷ b ∷ c ∷ []) four bytes = absurd (omega arith)
header_read (a ∷ b ∷ c ∷ d ∷ rest) four bytes =
    let la : a < 256 = bytes 0 in
    let lb : b < 256 = bytes 1 in
    let lc : c < 256 = bytes 2 in
    let ld : d < 256 = bytes 3 in
    let n = a * 16777216 + (b * 65536 + (c * 256 + (d * 1 + 0))) in
    let ea : a ≡ n / 16777216 % 256 = omega arith in
    let eb : b ≡ n / 65536 % 256 = omega arith in
    let ec : c ≡ n / 256 % 256 = omega arith in
    let ed : d ≡ n % 256 = omega arith in
    cc

-- a frame is as long as its payload and four bytes
pub length-frame_of : (payload : List ℕ) → length (frame_of payload) ≡ 4 + length payload
length-frame_of payload =
    length-append (big_bytes 4 (length payload)) payload ∙ ap (λ n. n + length payload) (length-bytes_high_first 4 (length payload))

-- a frame's header reads as its length
pub read-frame_of : (payload more : List ℕ) → length payload ≤ limit → big_number 4 (frame_of payload ++ more) ≡ length payload
read-frame_of payload more allowed =
    ap (big_number 4) (append_assoc (big_bytes 4 (length payload)) payload more)
    ∙ big_number-reads_back 4 (length payload) (payload ++ more) (omega arith)

-- bytes that begin with the header of a longer payload are unfinished
pub unfinished : (held : List ℕ) (n : ℕ) → 4 ≤ length held → take 4 held ≡ big_bytes 4 n → n ≤ limit → length held < 4 + n → IsUnfinished held
unfinished held n four header allowed short =
    let missing = replicate (4 + n - length held) 0 in
    let payload = drop 4 held ++ missing in
    let lengths : length payload ≡ n = length-append (drop 4 held) missing ∙ omega (arith, length-drop 4 held, length-replicate {A = ℕ} (4 + n - length held) 0) in
    let is : frame_of payload ≡ held ++ missing =
    ap (λ m. big_bytes 4 m ++ payload) lengths ∙ ap (λ h. h ++ payload) (sym header) ∙ sym (append_assoc (take 4 held) (drop 4 held) missing)
    ∙ ap (λ h. h ++ missing) (take-append-drop 4 held) in
    inr (payload, omega arith, (missing, omega (arith, length-replicate {A = ℕ} (4 + n - length held) 0), is))

-- bytes that begin with a whole frame
pub whole : (held : List ℕ) (n : ℕ) → n ≤ limit → 4 + n ≤ length held → take 4 held ≡ big_bytes 4 n → BeginsWithFrame held (take n (drop 4 held)) (drop (4 + n) held)
whole held n allowed there header =
    let payload = take n (drop 4 held) in
    let lengths : length payload ≡ n = length-take-le n (drop 4 held) (omega (arith, length-drop 4 held)) in
    let is : frame_of payload ++ drop (4 + n) held ≡ held =
    ap (λ m. (big_bytes 4 m ++ payload) ++ drop (4 + n) held) lengths
    ∙ ap (λ h. (h ++ payload) ++ drop (4 + n) held) (sym header)
    ∙ append_assoc (take 4 held) payload (drop (4 + n) held)
    ∙ ap (λ r. take 4 held ++ (payload ++ r)) (sym (drop-drop n 4 held))
    ∙ ap (λ r. take 4 held ++ r) (take-append-drop n (drop 4 held))
    ∙ take-append-drop 4 held in
    (omega arith, sym is)

-- two lists of one length that begin the same list are the same
same_front : (xs ys more rest : List ℕ) → length xs ≡ length ys → xs ++ more ≡ ys ++ rest → (xs ≡ ys) × (more ≡ rest)
same_front [] [] more rest lengths same = (refl, same)
same_front [] (y ∷ ys) more rest lengths same = absurd (omega arith)
same_front (x ∷ xs) [] more rest lengths same = absurd (omega arith)
same_front (x ∷ xs) (y ∷ ys) more rest lengths same =
    let heads : x ≡ y = cc in
    let tails : xs ++ more ≡ ys ++ rest = cc in
    let inner = same_front xs ys more rest (omega arith) tails in
    let fronts : xs ≡ ys = inner.0 in
    (cc, inner.1)

-- two frames that begin the same bytes are the same
pub same_frame : (payload other more rest : List ℕ) → length payload ≤ limit → length other ≤ limit → frame_of payload ++ more ≡ frame_of other ++ rest → (payload ≡ other) × (more ≡ rest)
same_frame payload other more rest allowed fits same =
    let lengths : length payload ≡ length other =
    sym (read-frame_of payload more allowed) ∙ ap (big_number 4) same ∙ read-frame_of other rest fits in
    let frames = same_front (frame_of payload) (frame_of other) more rest (length-frame_of payload ∙ ap (λ n. 4 + n) lengths ∙ sym (length-frame_of other)) same in
    (append_cancel_left (big_bytes 4 (length other)) payload other (ap (λ n. big_bytes 4 n ++ payload) (sym lengths) ∙ frames.0), frames.1)

-- unfinished bytes begin with no frame
pub unfinished_not_whole : (held payload rest : List ℕ) → IsUnfinished held → BeginsWithFrame held payload rest → ⊥
unfinished_not_whole held payload rest (inl short) (allowed, is) =
    omega (arith, ap length is, length-append (frame_of payload) rest, length-frame_of payload)
unfinished_not_whole held payload rest (inr (other, fits, (more, some, begins))) (allowed, is) =
    let same = same_frame payload other (rest ++ more) [] allowed fits (sym (append_assoc (frame_of payload) rest more) ∙ ap (λ h. h ++ more) (sym is) ∙ sym begins ∙ sym (append-nil (frame_of other))) in
    omega (arith, ap length same.1, length-append rest more)

-- bytes that begin with a frame have no header that is too long
pub whole_not_long : (held payload rest : List ℕ) (n : ℕ) → BeginsWithFrame held payload rest → IsTooLong n held → ⊥
whole_not_long held payload rest n (allowed, is) (four, reads, long) =
    let read : big_number 4 held ≡ length payload = ap (big_number 4) is ∙ read-frame_of payload rest allowed in
    omega (arith, reads, read)

-- no frame is a proper prefix of another
pub not_prefix : (payload other : List ℕ) → length payload ≤ limit → length other ≤ limit → IsProperPrefix (frame_of payload) (frame_of other) → ⊥
not_prefix payload other allowed fits (more, some, begins) =
    let same = same_frame payload other more [] allowed fits (sym begins ∙ sym (append-nil (frame_of other))) in
    omega (arith, ap length same.1)

-- the frames of more payloads
pub frames_of-append : (given more : List (List ℕ)) → frames_of (given ++ more) ≡ frames_of given ++ frames_of more
frames_of-append [] more = refl
frames_of-append (payload ∷ given) more =
    ap (λ f. frame_of payload ++ f) (frames_of-append given more) ∙ sym (append_assoc (frame_of payload) (frames_of given) (frames_of more))

-- what was given, joined, and what is held is what was fed
pub joined : (fed : List ℕ) (given : List (List ℕ)) (held : List ℕ) → Feeding fed given held → fed ≡ frames_of given ++ held
joined _ _ _ begun = refl
joined _ _ _ (feeds fed given held piece before) = ap (λ f. f ++ piece) (joined fed given held before) ∙ append_assoc (frames_of given) held piece
joined _ _ _ (takes fed given held payload rest before (allowed, is)) =
    joined fed given held before ∙ ap (λ h. frames_of given ++ h) (is ∙ ap (λ f. f ++ rest) (sym (append-nil (frame_of payload))))
    ∙ sym (append_assoc (frames_of given) (frames_of (payload ∷ [])) rest) ∙ ap (λ f. f ++ rest) (sym (frames_of-append given (payload ∷ [])))

-- one item more
each-push : (P : List ℕ → Type 0) (given : List (List ℕ)) (payload : List ℕ) → Each P given → P payload → Each P (given ++ payload ∷ [])
each-push P [] payload each here = (here, tt)
each-push P (x ∷ given) payload (first, each) here = (first, each-push P given payload each here)

-- what was given has allowed lengths
pub allowed_lengths : (fed : List ℕ) (given : List (List ℕ)) (held : List ℕ) → Feeding fed given held → Each (λ payload. length payload ≤ limit) given
allowed_lengths _ _ _ begun = tt
allowed_lengths _ _ _ (feeds fed given held piece before) = allowed_lengths fed given held before
allowed_lengths _ _ _ (takes fed given held payload rest before (allowed, is)) = each-push (λ p. length p ≤ limit) given payload (allowed_lengths fed given held before) allowed

-- the payloads of a stream are fixed by its bytes
pub same_given : (given other : List (List ℕ)) (held rest : List ℕ) → Each (λ payload. length payload ≤ limit) given → Each (λ payload. length payload ≤ limit) other
    → ((payload more : List ℕ) → BeginsWithFrame held payload more → ⊥) → ((payload more : List ℕ) → BeginsWithFrame rest payload more → ⊥)
    → frames_of given ++ held ≡ frames_of other ++ rest → (given ≡ other) × (held ≡ rest)
same_given [] [] held rest allowed fits ended done same = (refl, same)
same_given [] (q ∷ other) held rest allowed fits ended done same =
    absurd (ended q (frames_of other ++ rest) (fits.0, same ∙ append_assoc (frame_of q) (frames_of other) rest))
same_given (p ∷ given) [] held rest allowed fits ended done same =
    absurd (done p (frames_of given ++ held) (allowed.0, sym same ∙ append_assoc (frame_of p) (frames_of given) held))
same_given (p ∷ given) (q ∷ other) held rest allowed fits ended done same =
    let first = same_frame p q (frames_of given ++ held) (frames_of other ++ rest) allowed.0 fits.0
    (sym (append_assoc (frame_of p) (frames_of given) held) ∙ same ∙ append_assoc (frame_of q) (frames_of other) rest) in
    let others = same_given given other held rest allowed.1 fits.1 ended done first.1 in
    let heads : p ≡ q = first.0 in
    let tails : given ≡ other = others.0 in
    (cc, others.1)

-- what a buffer holds after its first bytes were given, before and after a frame is taken
pub taken : (buffer old held new payload : List ℕ) (given n : ℕ) → held ≡ old → drop given buffer ≡ old → n ≤ limit → 4 + n ≤ length held → take 4 held ≡ big_bytes 4 n
    → payload ≡ take (4 + n - 4) (drop 4 held) → new ≡ drop (given + (4 + n)) buffer → BeginsWithFrame old payload new
taken buffer old held new payload given n same is allowed there header taking leaving =
    let first = whole held n allowed there header in
    let length_is : 4 + n - 4 ≡ n = omega arith in
    let payload_is : payload ≡ take n (drop 4 held) = taking ∙ ap (λ m. take m (drop 4 held)) length_is in
    let rest_is : new ≡ drop (4 + n) held =
    leaving ∙ sym (drop-drop (4 + n) given buffer) ∙ ap (drop (4 + n)) (is ∙ sym same) in
    (subst (λ (p : List ℕ). length p ≤ limit) (sym payload_is) first.0, sym same ∙ first.1 ∙ ap (λ p. frame_of p ++ drop (4 + n) held) (sym payload_is) ∙ ap (λ r. frame_of payload ++ r) (sym rest_is))

pub frames_of-push : (payloads : List (List ℕ)) (payload : List ℕ) → frames_of (payloads ++ payload ∷ []) ≡ frames_of payloads ++ frame_of payload
frames_of-push payloads payload = frames_of-append payloads (payload ∷ []) ∙ ap (λ f. frames_of payloads ++ f) (append-nil (frame_of payload))
