-- What is heard later stands behind the messages that were heard before.
use Rattle.std.proofs.Common.{◌≡◌, ℕ, zero, suc, ◌+◌, ◌≤◌, Bool, true, false, List, [], ◌∷◌, ◌++◌, length, take, drop, Option, Some, None, option_map, refl, ap, ◌∙◌, length-append, arith, nat_le, ◌&&◌, if◌then◌else◌}
use Rattle.std.specs.Prelude.{option_and_then}
use Rattle.std.proofs.lemmas.List.{drop-append-le, length-drop, take-append-le}
use Rattle.byteorder.specs.Numbers.{big_from-append}
use Rattle.mk_base.specs.Lists.{BeginsWith}
use Rattle.mk_base.proofs.Lists.{none_some, some_same}
use Rattle.mk_plan.specs.declared.Message.{Message}
use Rattle.mk_message.specs.Messages.{message_of}
use Rattle.mk_frame.specs.Frames.{limit}
use Rattle.mk_run_laws.specs.Hearing.{announced, cut, first_frame, first_message, messages_heard, value_in}
use Rattle.mk_run_laws.proofs.Taking.{enough, message_shorter, then_cut}

-- a first frame stays the first
frame_on : (held later : List ℕ) (f : List ℕ × List ℕ) → first_frame held ≡ Some f → first_frame (held ++ later) ≡ Some (f.0, f.1 ++ later)
frame_on held later f e = go (nat_le 4 (length held)) (nat_le (announced held) limit) (nat_le (4 + announced held) (length held)) refl refl refl e
  where
    le_back : (a b : ℕ) → nat_le a b ≡ true → a ≤ b
    le_back a b h = grind arith

    le_true : (a b : ℕ) → a ≤ b → nat_le a b ≡ true
    le_true a b h = grind arith

    go : (a b c : Bool) → nat_le 4 (length held) ≡ a → nat_le (announced held) limit ≡ b → nat_le (4 + announced held) (length held) ≡ c → (if a && b && c then Some (take (announced held) (drop 4 held), drop (4 + announced held) held) else None) ≡ Some f
        → first_frame (held ++ later) ≡ Some (f.0, f.1 ++ later)
    go true true true x y z is =
        let four : 4 ≤ length held = le_back 4 (length held) x in
        let whole : 4 + announced held ≤ length held = le_back (4 + announced held) (length held) z in
        let size : length (held ++ later) ≡ length held + length later = length-append held later in
        let reads : announced (held ++ later) ≡ announced held = big_from-append 4 held later four in
        let x' : nat_le 4 (length (held ++ later)) ≡ true = le_true 4 (length (held ++ later)) (omega (arith, four, size)) in
        let y' : nat_le (announced (held ++ later)) limit ≡ true = ap (λ (n : ℕ). nat_le n limit) reads ∙ y in
        let z' : nat_le (4 + announced (held ++ later)) (length (held ++ later)) ≡ true = le_true (4 + announced (held ++ later)) (length (held ++ later)) (omega (arith, whole, size, reads)) in
        let behind : drop 4 (held ++ later) ≡ drop 4 held ++ later = drop-append-le 4 held later four in
        let room : length (drop 4 held) + 4 ≡ length held = omega (arith, length-drop 4 held, four) in
        let one : take (announced (held ++ later)) (drop 4 (held ++ later)) ≡ f.0 = ap (λ (n : ℕ). take n (drop 4 (held ++ later))) reads ∙ ap (take (announced held)) behind ∙ take-append-le (announced held) (drop 4 held) later (omega (arith, room, whole)) ∙ ap (λ (p : List ℕ × List ℕ). p.0) (some_same is) in
        let other : drop (4 + announced (held ++ later)) (held ++ later) ≡ f.1 ++ later = ap (λ (n : ℕ). drop (4 + n) (held ++ later)) reads ∙ drop-append-le (4 + announced held) held later whole ∙ ap (λ (p : List ℕ × List ℕ). p.1 ++ later) (some_same is) in
        rw (x', y', z') (λ i. Some (one i, other i))
    go true true false x y z is = absurd (none_some is)
    go true false c x y z is = absurd (none_some is)
    go false b c x y z is = absurd (none_some is)

-- and so does a first message
message_on : (held later : List ℕ) (f : Message × List ℕ) → first_message held ≡ Some f → first_message (held ++ later) ≡ Some (f.0, f.1 ++ later)
message_on held later f e = go (first_frame held) refl e
  where
    inner : (g : List ℕ × List ℕ) (r : Option Message) → option_map (λ (m : Message). let p : Message × List ℕ = (m, g.1) in p) r ≡ Some f → option_map (λ (m : Message). let p : Message × List ℕ = (m, g.1 ++ later) in p) r ≡ Some (f.0, f.1 ++ later)
    inner g None is = absurd (none_some is)
    inner g (Some m) is = ap (λ (p : Message × List ℕ). let q : Option (Message × List ℕ) = Some (p.0, p.1 ++ later) in q) (some_same is)

    go : (o : Option (List ℕ × List ℕ)) → first_frame held ≡ o → option_and_then (λ (f : List ℕ × List ℕ). option_map (λ (m : Message). let p : Message × List ℕ = (m, f.1) in p) (value_in (message_of f.0))) o ≡ Some f → first_message (held ++ later) ≡ Some (f.0, f.1 ++ later)
    go None is q = absurd (none_some q)
    go (Some g) is q = let first : first_frame (held ++ later) ≡ Some (g.0, g.1 ++ later) = frame_on held later g is in rw first (inner g (value_in (message_of g.0)) q)

cut_on : (n : ℕ) (held later : List ℕ) → length (held ++ later) ≤ n → BeginsWith (cut n (held ++ later)).0 (cut n held).0
cut_on zero held later h = ([], refl)
cut_on (suc n) held later h = go (λ bytes few. cut_on n bytes later few) (first_message held) refl
  where
    go : ((bytes : List ℕ) → length (bytes ++ later) ≤ n → BeginsWith (cut n (bytes ++ later)).0 (cut n bytes).0) → (o : Option (Message × List ℕ)) → first_message held ≡ o → BeginsWith (then_cut n (held ++ later) (first_message (held ++ later))).0 (then_cut n held o).0
    go rest None is = ((then_cut n (held ++ later) (first_message (held ++ later))).0, refl)
    go rest (Some f) is =
        let next : first_message (held ++ later) ≡ Some (f.0, f.1 ++ later) = message_on held later f is in
        let size = length-append held later in
        let left = length-append f.1 later in
        let short = message_shorter held f is in
        let t = rest f.1 (omega (arith, h, size, left, short)) in
        (t.0, ap (λ (o : Option (Message × List ℕ)). (then_cut n (held ++ later) o).0) next ∙ ap (λ (l : List Message). f.0 ∷ l) t.1)

pub heard_later : (held later : List ℕ) → BeginsWith (messages_heard (held ++ later)) (messages_heard held)
heard_later held later =
    let size = length-append held later in
    let t = cut_on (length (held ++ later)) held later (omega arith) in
    (t.0, t.1 ∙ ap (λ (p : List Message × List ℕ). p.0 ++ t.0) (enough (length (held ++ later)) (length held) held (omega (arith, size)) (omega arith)))
