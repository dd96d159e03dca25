-- The comparison, an entry of the journal at a time.
use Rattle.std.proofs.Common.{◌≡◌, ℕ, ◌+◌, ◌-◌, ◌<◌, ◌≤◌, max, List, [], ◌∷◌, ◌++◌, map, length, take, drop, get_or, suc, Option, Some, None, refl, sym, ap, ◌∙◌, subst, ◌⊎◌, inl, inr, arith, append_assoc, length-append}
use Rattle.std.specs.List.{cons_option}
use Rattle.std.proofs.Math.Seq.{drop-cons}
use Rattle.std.proofs.lemmas.List.{take_more, take-append-drop, take_all}
use Rattle.mk_base.proofs.Lists.{append_nil, filter_map_append, none_some}
use Rattle.mk_plan.specs.declared.Entry.{Entry}
use Rattle.mk_record_read.specs.declared.saved.Arrival.{Arrival}
use Rattle.mk_record_read.specs.declared.saved.Asked.{Asked}
use Rattle.mk_record_read.specs.Seen.{came}
use Rattle.mk_record_read.specs.Entries.{RecordEntry, MessageOf, step_of, entries_after, entries_of, entry_of}
use Rattle.mk_record_compare.specs.Differences.{IsFirstOther}
use Rattle.mk_record_compare.specs.inner.Matches.{left, IsMatch}
use Rattle.mk_record_compare.specs.declared.first.Match.TheVariants.{Neither, NextStep, NextMessage, Another, Behind}
use Rattle.mk_record_compare.proofs.Places.{first_other_at, all_the_same, Entries}

-- what one entry of the journal adds
one_none : (e : Entry) → entry_of e ≡ None → entries_of (e ∷ []) ≡ []
one_none e h = ap (λ (o : Option RecordEntry). cons_option o []) h

one_some : (e : Entry) (x : RecordEntry) → entry_of e ≡ Some x → entries_of (e ∷ []) ≡ x ∷ []
one_some e x h = ap (λ (o : Option RecordEntry). cons_option o []) h

one_more : (J : List Entry) (i : ℕ) (e : Entry) → i < length J → e ≡ get_or J i e → entries_of (take (i + 1) J) ≡ entries_of (take i J) ++ entries_of (e ∷ [])
one_more J i e below is = ap entries_of (take_more J i e below ∙ ap (λ z. take i J ++ z ∷ []) (sym is)) ∙ filter_map_append entry_of (take i J) (e ∷ [])

-- the whole of the journal, up to an entry and from it on
split_at : (J : List Entry) (i : ℕ) (e : Entry) (x : RecordEntry) → i < length J → e ≡ get_or J i e → entry_of e ≡ Some x → entries_of J ≡ entries_of (take i J) ++ x ∷ entries_of (drop (suc i) J)
split_at J i e x below is there =
    ap entries_of (sym (take-append-drop i J) ∙ ap (λ l. take i J ++ l) (drop-cons J i e below ∙ ap (λ z. z ∷ drop (suc i) J) (sym is)))
    ∙ filter_map_append entry_of (take i J) (e ∷ drop (suc i) J)
    ∙ ap (λ (o : Option RecordEntry). entries_of (take i J) ++ cons_option o (entries_of (drop (suc i) J))) there

-- what has been compared so far, and what is left
pub record IsCompared (R : Entries) (J : List Entry) (i place n : ℕ) (A : List Arrival) (steps : List Asked) : Type 0 where
  pub same : R ≡ entries_of (take i J) ++ left n A steps
  pub count : place ≡ length (entries_of (take i J))

pub compared_none : (R : Entries) (J : List Entry) (i place n : ℕ) (A : List Arrival) (steps : List Asked) (e : Entry) → IsCompared R J i place n A steps → i < length J → e ≡ get_or J i e → entry_of e ≡ None → IsCompared R J (i + 1) place n A steps
compared_none R J i place n A steps e c below is none =
    let more : entries_of (take (i + 1) J) ≡ entries_of (take i J) = one_more J i e below is ∙ ap (λ l. entries_of (take i J) ++ l) (one_none e none) ∙ append_nil (entries_of (take i J)) in record {
      same = c.same ∙ ap (λ l. l ++ left n A steps) (sym more);
      count = c.count ∙ ap length (sym more);
    }

pub compared_some : (R : Entries) (J : List Entry) (i place n m : ℕ) (A B : List Arrival) (steps rest : List Asked) (e : Entry) (x : RecordEntry) → IsCompared R J i place n A steps → i < length J → e ≡ get_or J i e → entry_of e ≡ Some x
    → left n A steps ≡ x ∷ left m B rest → IsCompared R J (i + 1) (place + 1) m B rest
compared_some R J i place n m A B steps rest e x c below is there head =
    let more : entries_of (take (i + 1) J) ≡ entries_of (take i J) ++ x ∷ [] = one_more J i e below is ∙ ap (λ l. entries_of (take i J) ++ l) (one_some e x there) in record {
      same = c.same ∙ ap (λ l. entries_of (take i J) ++ l) head ∙ sym (append_assoc (entries_of (take i J)) (x ∷ []) (left m B rest)) ∙ ap (λ l. l ++ left m B rest) (sym more);
      count = ap (λ k. k + 1) c.count ∙ sym (ap length more ∙ length-append (entries_of (take i J)) (x ∷ []));
    }

-- the journal's entry is another one
pub compared_other : (R : Entries) (J : List Entry) (i place n : ℕ) (A : List Arrival) (steps : List Asked) (e : Entry) (x y : RecordEntry) (rest : Entries) → IsCompared R J i place n A steps → i < length J → e ≡ get_or J i e
    → entry_of e ≡ Some x → left n A steps ≡ y ∷ rest → (x ≡ y → ⊥) → IsFirstOther R (entries_of J) (Some place)
compared_other R J i place n A steps e x y rest c below is there head other =
    let p = entries_of (take i J) in
    let q = x ∷ entries_of (drop (suc i) J) in
    let found = first_other_at p rest y q (λ h. other (some_is x y (sym h))) in
    subst (λ k. IsFirstOther R (entries_of J) (Some k)) (sym c.count)
    (subst (λ (E : Entries). IsFirstOther R E (Some (length p))) (sym (split_at J i e x below is there))
    (subst (λ (S : Entries). IsFirstOther S (p ++ q) (Some (length p))) (sym (c.same ∙ ap (λ l. p ++ l) head)) found))
  where
    some_is : (a b : RecordEntry) → Some a ≡ Some b → a ≡ b
    some_is a b h = cc

-- nothing of the record is left
pub compared_behind : (R : Entries) (J : List Entry) (i place n : ℕ) (A : List Arrival) (steps : List Asked) (e : Entry) (x : RecordEntry) → IsCompared R J i place n A steps → i < length J → e ≡ get_or J i e
    → entry_of e ≡ Some x → left n A steps ≡ [] → IsFirstOther R (entries_of J) None
compared_behind R J i place n A steps e x c below is there none =
    let p = entries_of (take i J) in
    let q = x ∷ entries_of (drop (suc i) J) in
    subst (λ (E : Entries). IsFirstOther R E None) (sym (split_at J i e x below is there))
    (subst (λ (S : Entries). IsFirstOther S (p ++ q) None) (sym (c.same ∙ ap (λ l. p ++ l) none)) (all_the_same p q))

module _ (R : Entries) (J : List Entry) (i place n : ℕ) (A : List Arrival) (steps : List Asked) (c : IsCompared R J i place n A steps) (end : length J ≤ i) where
  whole : entries_of (take i J) ≡ entries_of J
  whole = ap entries_of (take_all i J end)

  -- the journal is at its end, and nothing of the record is left
  pub compared_all : left n A steps ≡ [] → IsFirstOther R (entries_of J) None
  compared_all none = subst (λ (E : Entries). IsFirstOther R E None) (append_nil (entries_of J))
      (subst (λ (S : Entries). IsFirstOther S (entries_of J ++ []) None) (sym (c.same ∙ ap (λ l. entries_of (take i J) ++ l) none ∙ ap (λ l. l ++ []) whole)) (all_the_same (entries_of J) []))

  -- and something is
  pub compared_short : (y : RecordEntry) (rest : Entries) → left n A steps ≡ y ∷ rest → IsFirstOther R (entries_of J) (Some place)
  compared_short y rest head =
      let found = first_other_at (entries_of J) rest y [] (λ h. none_some (sym h)) in
      subst (λ k. IsFirstOther R (entries_of J) (Some k)) (sym (c.count ∙ ap length whole))
      (subst (λ (E : Entries). IsFirstOther R E (Some (length (entries_of J)))) (append_nil (entries_of J))
      (subst (λ (S : Entries). IsFirstOther S (entries_of J ++ []) (Some (length (entries_of J)))) (sym (c.same ∙ ap (λ l. entries_of (take i J) ++ l) head ∙ ap (λ l. l ++ y ∷ rest) whole)) found))

head_of : (l : Entries) (y : RecordEntry) (ys : Entries) → (x : RecordEntry) × (xs : Entries) × (l ++ y ∷ ys ≡ x ∷ xs)
head_of [] y ys = (y, ys, refl)
head_of (x ∷ l) y ys = (x, l ++ y ∷ ys, refl)

-- something is left where a step or a message is
pub some_left : (n : ℕ) (A : List Arrival) (steps : List Asked) → (0 < length A) ⊎ (0 < length steps) → (y : RecordEntry) × (rest : Entries) × (left n A steps ≡ y ∷ rest)
some_left n A (a ∷ steps) h = head_of (map MessageOf (take (a.before - n) (map came A))) (step_of a) (entries_after (max n a.before) (drop (a.before - n) (map came A)) steps)
some_left n (m ∷ A) [] h = (MessageOf (came m), map MessageOf (map came A), refl)
some_left n [] [] (inl h) = absurd (omega (arith, h))
some_left n [] [] (inr h) = absurd (omega (arith, h))

-- ---- by what the journal's entry is to the entries that are left

module _ (R : Entries) (J : List Entry) (i place n : ℕ) (A : List Arrival) (steps : List Asked) (e : Entry) (c : IsCompared R J i place n A steps) (below : i < length J) (is : e ≡ get_or J i e) where
  pub on_neither : IsMatch n A steps e Neither → IsCompared R J (i + 1) place n A steps
  on_neither m = compared_none R J i place n A steps e c below is m

  pub on_step : (rest : List Asked) → rest ≡ drop 1 steps → IsMatch n A steps e NextStep → IsCompared R J (i + 1) (place + 1) n A rest
  on_step rest rest-is m = compared_some R J i place n n A A steps rest e m.0 c below is m.1 (m.2 ∙ ap (λ s. m.0 ∷ left n A s) (sym rest-is))

  pub on_message : (rest : List Arrival) → rest ≡ drop 1 A → IsMatch n A steps e NextMessage → IsCompared R J (i + 1) (place + 1) (n + 1) rest steps
  on_message rest rest-is m = compared_some R J i place n (n + 1) A rest steps steps e m.0 c below is m.1 (m.2 ∙ ap (λ l. m.0 ∷ left (n + 1) l steps) (sym rest-is))

  pub on_another : IsMatch n A steps e Another → IsFirstOther R (entries_of J) (Some place)
  on_another m = compared_other R J i place n A steps e m.0 m.1 m.2 c below is m.3 m.4 m.5

  pub on_behind : IsMatch n A steps e Behind → IsFirstOther R (entries_of J) None
  on_behind m = compared_behind R J i place n A steps e m.0 c below is m.1 m.2
