-- Messages that are taken off bytes one after another are those that were heard.
use Rattle.std.proofs.Common.{◌≡◌, ℕ, zero, suc, ◌+◌, ◌-◌, ◌<◌, ◌≤◌, inl, inr, Bool, true, false, List, [], ◌∷◌, ◌++◌, length, take, drop, Option, Some, None, option_map, option_and_then, Ok, Err, nat_le, ◌&&◌, if◌then◌else◌, refl, sym, ap, ◌∙◌, subst, arith, append_assoc, length-append, true≢false}
use Rattle.std.proofs.lemmas.Bool.{cases_lt}
use Rattle.std.proofs.Math.Seq.{drop-append_seam, take-append_seam}
use Rattle.std.proofs.lemmas.List.{length-drop, append-nil}
use Rattle.byteorder.specs.Endian.{big_bytes, big_number}
use Rattle.byteorder.specs.Numbers.{big_from-append, length-bytes_high_first}
use Rattle.mk_base.proofs.Lists.{none_some, some_same}
use Rattle.mk_plan.specs.declared.Message.{Message}
use Rattle.mk_message.specs.Messages.{message_of}
use Rattle.mk_frame.specs.Frames.{limit, frame_of, IsUnfinished, IsTooLong, BeginsWithFrame}
use Rattle.mk_frame.proofs.OnFrames.{length-frame_of, read-frame_of}
use Rattle.mk_run_laws.specs.Hearing.{value_in, announced, first_frame, first_message, cut, messages_heard, rest_heard, Takes, none, more}
use Rattle.mk_base.proofs.Counts.{at_most_test, test_at_most}

-- ---- the front

le_false : (a b : ℕ) → b < a → nat_le a b ≡ false
le_false a b h = grind arith

-- bytes that begin with a frame have it as their first
pub frame_first : (held payload rest : List ℕ) → BeginsWithFrame held payload rest → first_frame held ≡ Some (payload, rest)
frame_first held payload rest (allowed, is) =
    let reads : announced held ≡ length payload = ap (big_number 4) is ∙ read-frame_of payload rest allowed in
    let whole : length held ≡ (4 + length payload) + length rest = ap length is ∙ length-append (frame_of payload) rest ∙ ap (λ n. n + length rest) (length-frame_of payload) in
    let four : nat_le 4 (length held) ≡ true = at_most_test 4 (length held) (omega arith) in
    let fits : nat_le (announced held) limit ≡ true = at_most_test (announced held) limit (omega arith) in
    let there : nat_le (4 + announced held) (length held) ≡ true = at_most_test (4 + announced held) (length held) (omega arith) in
    let head : length (big_bytes 4 (length payload)) ≡ 4 = length-bytes_high_first 4 (length payload) in
    let parts : held ≡ big_bytes 4 (length payload) ++ (payload ++ rest) = is ∙ append_assoc (big_bytes 4 (length payload)) payload rest in
    let behind : drop 4 held ≡ payload ++ rest = ap (drop 4) parts ∙ ap (λ n. drop n (big_bytes 4 (length payload) ++ (payload ++ rest))) (sym head) ∙ drop-append_seam (big_bytes 4 (length payload)) (payload ++ rest) in
    let one : take (announced held) (drop 4 held) ≡ payload = ap (λ n. take n (drop 4 held)) reads ∙ ap (take (length payload)) behind ∙ take-append_seam payload rest in
    let other : drop (4 + announced held) held ≡ rest = ap (λ n. drop (4 + n) held) reads ∙ ap (λ n. drop n held) (sym (length-frame_of payload)) ∙ ap (drop (length (frame_of payload))) is ∙ drop-append_seam (frame_of payload) rest in
    rw (four, fits, there) (λ i. Some (one i, other i))

-- the bytes behind a first frame are fewer
pub frame_shorter : (held : List ℕ) (f : List ℕ × List ℕ) → first_frame held ≡ Some f → length f.1 + 4 ≤ length held
frame_shorter held f e = go (nat_le 4 (length held)) (nat_le (announced held) limit) (nat_le (4 + announced held) (length held)) refl e
  where
    go : (a b c : Bool) → nat_le 4 (length held) ≡ a → (if a && b && c then Some (take (announced held) (drop 4 held), drop (4 + announced held) held) else None) ≡ Some f → length f.1 + 4 ≤ length held
    go true true true h e =
        let four : 4 ≤ length held = test_at_most 4 (length held) h in
        let is : drop (4 + announced held) held ≡ f.1 = ap (λ (p : List ℕ × List ℕ). p.1) (some_same e) in
        let size : length f.1 ≡ length held - (4 + announced held) = ap length (sym is) ∙ length-drop (4 + announced held) held in
        omega arith
    go true true false h e = absurd (none_some e)
    go true false c h e = absurd (none_some e)
    go false b c h e = absurd (none_some e)

abbrev picked : Bool → Bool → Bool → List ℕ → Option (List ℕ × List ℕ)
picked a b c held = if a && b && c then Some (take (announced held) (drop 4 held), drop (4 + announced held) held) else None

third_fails : (a b c : Bool) (held : List ℕ) → c ≡ false → picked a b c held ≡ None
third_fails true true true held e = absurd (true≢false e)
third_fails true true false held e = refl
third_fails true false c held e = refl
third_fails false b c held e = refl

-- unfinished bytes have no first frame
pub unfinished_none : (held : List ℕ) → IsUnfinished held → first_frame held ≡ None
unfinished_none held (inl short) = let no : nat_le 4 (length held) ≡ false = le_false 4 (length held) short in rw no refl
unfinished_none held (inr (payload, fits, (later, some, is))) = elim (cases_lt (length held) 4) [
  | inl short ↦ let no : nat_le 4 (length held) ≡ false = le_false 4 (length held) short in rw no refl
  | inr four ↦
      let read : announced held ≡ length payload = sym (big_from-append 4 held later (omega arith)) ∙ ap (big_number 4) (sym is ∙ sym (append-nil (frame_of payload))) ∙ read-frame_of payload [] fits in
      let size : length held + length later ≡ 4 + length payload = sym (length-append held later) ∙ ap length (sym is) ∙ length-frame_of payload in
      third_fails (nat_le 4 (length held)) (nat_le (announced held) limit) (nat_le (4 + announced held) (length held)) held (le_false (4 + announced held) (length held) (omega arith))
]

-- nor have bytes whose header is too long
pub long_none : (held : List ℕ) (n : ℕ) → IsTooLong n held → first_frame held ≡ None
long_none held n (four, reads, long) =
    let a : nat_le 4 (length held) ≡ true = at_most_test 4 (length held) four in
    let b : nat_le (announced held) limit ≡ false = le_false (announced held) limit (subst (λ m. limit < m) (sym reads) long) in
    rw (a, b) refl

-- a frame whose payload has a message gives it first
pub message_first : (held payload rest : List ℕ) (m : Message) → BeginsWithFrame held payload rest → message_of payload ≡ Ok m → first_message held ≡ Some (m, rest)
message_first held payload rest m begins is = let f : first_frame held ≡ Some (payload, rest) = frame_first held payload rest begins in rw (f, is) refl

-- no message stands in front of bytes without a first frame
pub none_first : (held : List ℕ) → first_frame held ≡ None → first_message held ≡ None
none_first held e = rw e refl

-- nor of bytes whose first payload has none
pub garbled_none : (held payload rest : List ℕ) (n : ℕ) → BeginsWithFrame held payload rest → message_of payload ≡ Err n → first_message held ≡ None
garbled_none held payload rest n begins is = let f : first_frame held ≡ Some (payload, rest) = frame_first held payload rest begins in rw (f, is) refl

-- ---- how many are cut

pub message_shorter : (held : List ℕ) (f : Message × List ℕ) → first_message held ≡ Some f → length f.1 + 4 ≤ length held
message_shorter held f e = go (first_frame held) refl e
  where
    inner : (g : List ℕ × List ℕ) (r : Option Message) → length g.1 + 4 ≤ length held → option_map (λ (m : Message). let p : Message × List ℕ = (m, g.1) in p) r ≡ Some f → length f.1 + 4 ≤ length held
    inner g None h e = absurd (none_some e)
    inner g (Some m) h e = subst (λ (p : Message × List ℕ). length p.1 + 4 ≤ length held) (some_same e) h

    go : (o : Option (List ℕ × List ℕ)) → first_frame held ≡ o → option_and_then (λ (f : List ℕ × List ℕ). option_map (λ (m : Message). let p : Message × List ℕ = (m, f.1) in p) (value_in (message_of f.0))) o ≡ Some f → length f.1 + 4 ≤ length held
    go None is e = absurd (none_some e)
    go (Some g) is e = inner g (value_in (message_of g.0)) (frame_shorter held g is) e

abbrev pub then_cut : ℕ → List ℕ → Option (Message × List ℕ) → List Message × List ℕ
then_cut n held o = elim o [ None ↦ ([], held) | Some f ↦ (f.0 ∷ (cut n f.1).0, (cut n f.1).1) ]

cut_some : (n k : ℕ) (held : List ℕ) (o : Option (Message × List ℕ)) → ((f : Message × List ℕ) → o ≡ Some f → cut n f.1 ≡ cut k f.1) → then_cut n held o ≡ then_cut k held o
cut_some n k held None same = refl
cut_some n k held (Some f) same = λ i. (f.0 ∷ (same f refl i).0, (same f refl i).1)

-- as many as there are bytes is enough
pub enough : (n k : ℕ) (held : List ℕ) → length held ≤ n → length held ≤ k → cut n held ≡ cut k held
enough zero zero held a b = refl
enough zero (suc k) held a b = let none_there : first_message held ≡ None = none_first held (unfinished_none held (inl (omega arith))) in rw (none_there, cut) refl
enough (suc n) zero held a b = let none_there : first_message held ≡ None = none_first held (unfinished_none held (inl (omega arith))) in rw (none_there, cut) refl
enough (suc n) (suc k) held a b = cut_some n k held (first_message held) (λ f e. let short = message_shorter held f e in enough n k f.1 (omega arith) (omega arith))

-- what is taken is cut off first
takes_cut : (n : ℕ) (held : List ℕ) (ms : List Message) (left : List ℕ) → Takes held ms left → length held ≤ n → cut n held ≡ (ms ++ messages_heard left, rest_heard left)
takes_cut n held [] left (none _) h = enough n (length held) held h (omega arith)
takes_cut zero held (m ∷ ms) left (more _ payload rest _ _ _ begins is later) h = absurd (let short = message_shorter held (m, rest) (message_first held payload rest m begins is) in omega arith)
takes_cut (suc k) held (m ∷ ms) left (more _ payload rest _ _ _ begins is later) h =
    let first : first_message held ≡ Some (m, rest) = message_first held payload rest m begins is in
    let short : length rest + 4 ≤ length held = message_shorter held (m, rest) first in
    let r : cut k rest ≡ (ms ++ messages_heard left, rest_heard left) = takes_cut k rest ms left later (omega arith) in
    ap (then_cut k held) first ∙ (λ i. (m ∷ (r i).0, (r i).1))

-- the messages heard are those that were taken, and those of what is left
pub taken_heard : (held : List ℕ) (ms : List Message) (left : List ℕ) → Takes held ms left → messages_heard held ≡ ms ++ messages_heard left
taken_heard held ms left t = ap (λ (p : List Message × List ℕ). p.0) (takes_cut (length held) held ms left t (omega arith))

pub taken_rest : (held : List ℕ) (ms : List Message) (left : List ℕ) → Takes held ms left → rest_heard held ≡ rest_heard left
taken_rest held ms left t = ap (λ (p : List Message × List ℕ). p.1) (takes_cut (length held) held ms left t (omega arith))

-- where no message stands in front, none is heard
pub none_heard : (held : List ℕ) → first_message held ≡ None → (messages_heard held ≡ []) × (rest_heard held ≡ held)
none_heard held e = go (length held) e
  where
    go : (n : ℕ) → first_message held ≡ None → ((cut n held).0 ≡ []) × ((cut n held).1 ≡ held)
    go zero e = (refl, refl)
    go (suc n) e = (ap (λ (o : Option (Message × List ℕ)). (then_cut n held o).0) e, ap (λ (o : Option (Message × List ℕ)). (then_cut n held o).1) e)

-- ---- more bytes, more messages

pub takes_on : (held : List ℕ) (ms : List Message) (left later : List ℕ) → Takes held ms left → Takes (held ++ later) ms (left ++ later)
takes_on held [] left later (none _) = none (held ++ later)
takes_on held (m ∷ ms) left later (more _ payload rest _ _ _ begins is t) =
    more (held ++ later) payload (rest ++ later) (left ++ later) m ms (begins.0, ap (λ h. h ++ later) begins.1 ∙ append_assoc (frame_of payload) rest later) is (takes_on rest ms left later t)

pub takes_then : (held : List ℕ) (ms : List Message) (mid : List ℕ) (ns : List Message) (left : List ℕ) → Takes held ms mid → Takes mid ns left → Takes held (ms ++ ns) left
takes_then held [] mid ns left (none _) t = t
takes_then held (m ∷ ms) mid ns left (more _ payload rest _ _ _ begins is s) t = more held payload rest left m (ms ++ ns) begins is (takes_then rest ms mid ns left s t)

-- messages and then more of them: what was heard goes on
pub takes_more : (old entries mid left : List ℕ) (ms ns : List Message) → Takes old ms mid → Takes (mid ++ entries) ns left → Takes (old ++ entries) (ms ++ ns) left
takes_more old entries mid left ms ns s t = takes_then (old ++ entries) ms (mid ++ entries) ns left (takes_on old ms mid entries s) t
