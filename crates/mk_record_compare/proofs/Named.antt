-- Which message of a record is the first of those that are left.
use Rattle.std.proofs.Common.{◌≡◌, ℕ, zero, suc, ◌+◌, ◌-◌, ◌<◌, max, List, [], ◌∷◌, ◌++◌, map, filter_map, length, take, drop, get_or, slice_get, Option, Some, None, refl, sym, ap, ◌∙◌, subst, ◌⊎◌, ◌≤◌, arith, append_assoc}
use Rattle.std.proofs.Math.Seq.{drop-cons}
use Rattle.std.proofs.lemmas.List.{take-append-drop}
use Rattle.mk_base.specs.Lists.{BeginsWith}
use Rattle.mk_base.proofs.Lists.{filter_map_append}
use Rattle.mk_plan.specs.declared.Item.TheVariants.{Step, GetData, Answer, Refuse}
use Rattle.mk_plan.specs.declared.Entry.{Entry}
use Rattle.mk_plan.specs.declared.Entry.TheVariants.{Sent, Got}
use Rattle.mk_plan.specs.Journals as journals
use Rattle.mk_plan.specs.Journals.{arrival_of, arrivals}
use Rattle.mk_record_read.specs.declared.saved.Arrival.{Arrival}
use Rattle.mk_record_read.specs.declared.saved.Asked.{Asked}
use Rattle.mk_record_read.specs.Seen.{came}
use Rattle.mk_record_read.specs.Entries.{RecordEntry, StepOf, MessageOf, step_of, entries_after, entries_of}
use Rattle.mk_record_compare.specs.Differences.{IsFirstOther, IsOther}
use Rattle.mk_record_compare.specs.inner.Matches.{left, AreMessages, IsMatch, IsNextNamed}
use Rattle.mk_record_compare.specs.declared.first.Match.{Match}
use Rattle.mk_record_compare.specs.declared.first.Match.TheVariants.{Neither, NextStep, NextMessage, Another, Behind}
use Rattle.mk_record_compare.proofs.Walking.{IsCompared, on_neither, on_step, on_message, on_another, on_behind, compared_all, compared_short, some_left}
use Rattle.mk_record_compare.proofs.Places.{Entries}
use Rattle.mk_record_read.proofs.Known.{kept_as}

abbrev Came : Type 0
Came = List journals.Arrival

-- the message that an entry of a record is
abbrev message_in : RecordEntry → Option journals.Arrival
message_in (StepOf i x advance) = None
message_in (MessageOf a) = Some a

abbrev messages_in : Entries → Came
messages_in R = filter_map message_in R

only_messages : (A : Came) → messages_in (map MessageOf A) ≡ A
only_messages [] = refl
only_messages (a ∷ A) = ap (λ (l : Came). a ∷ l) (only_messages A)

-- a record's entries have its messages
messages_after : (n : ℕ) (A : Came) (steps : List Asked) → messages_in (entries_after n A steps) ≡ A
messages_after n A [] = only_messages A
messages_after n A (a ∷ steps) =
    let k = a.before - n in
    filter_map_append message_in (map MessageOf (take k A)) (step_of a ∷ entries_after (max n a.before) (drop k A) steps)
    ∙ ap (λ (l : Came). l ++ messages_in (entries_after (max n a.before) (drop k A) steps)) (only_messages (take k A))
    ∙ ap (λ (l : Came). take k A ++ l) (messages_after (max n a.before) (drop k A) steps)
    ∙ take-append-drop k A

-- and a journal's Steps and messages have the journal's
messages_of : (J : List Entry) → messages_in (entries_of J) ≡ arrivals J
messages_of [] = refl
messages_of (Sent s (Step x ins advance) ∷ J) = messages_of J
messages_of (Sent s (GetData wanted) ∷ J) = messages_of J
messages_of (Sent s (Answer id content) ∷ J) = messages_of J
messages_of (Sent s (Refuse id reason) ∷ J) = messages_of J
messages_of (Got s m ∷ J) = ap (λ (l : Came). record { sim = s.0; message = m } ∷ l) (messages_of J)

first_is : {X : Type 0} (a b : X) (x y : List X) → a ∷ x ≡ b ∷ y → a ≡ b
first_is a b x y e = cc

others_are : {X : Type 0} (a b : X) (x y : List X) → a ∷ x ≡ b ∷ y → x ≡ y
others_are a b x y e = cc

same_next : (p : Came) (a b : journals.Arrival) (x y : Came) → p ++ a ∷ x ≡ p ++ b ∷ y → a ≡ b
same_next [] a b x y e = first_is a b x y e
same_next (z ∷ p) a b x y e = same_next p a b x y (others_are z z (p ++ a ∷ x) (p ++ b ∷ y) e)

at_place : (A : List Arrival) (n : ℕ) (a : Arrival) (more : List Arrival) → drop n A ≡ a ∷ more → slice_get A n ≡ Some a
at_place [] zero a more e = absurd (let q = ap length e in omega (arith, q))
at_place [] (suc n) a more e = absurd (let q = ap length e in omega (arith, q))
at_place (b ∷ A) zero a more e = ap Some (first_is b a A more e)
at_place (b ∷ A) (suc n) a more e = at_place A n a more e

module _ (A : List Arrival) (asks : List Asked) (J : List Entry) (i place n : ℕ) (B : List Arrival) (steps : List Asked) (c : IsCompared (entries_after 0 (map came A) asks) J i place n B steps) where
  -- the messages that were compared, and those that are left
  parts : map came A ≡ arrivals (take i J) ++ map came B
  parts = sym (messages_after 0 (map came A) asks) ∙ ap messages_in c.same ∙ filter_map_append message_in (entries_of (take i J)) (left n B steps)
      ∙ ap (λ (l : Came). l ++ messages_in (left n B steps)) (messages_of (take i J)) ∙ ap (λ (l : Came). arrivals (take i J) ++ l) (messages_after n (map came B) steps)

  -- the first that is left is the journal's, where it has a message here
  pub next_named : (messages : Option (List Arrival)) (count : ℕ) (e : Entry) → AreMessages messages count J A → B ≡ drop n A → i < length J → e ≡ get_or J i e → IsNextNamed messages n e B
  next_named (Some messages) count e are rest below is = λ s m a more got first. ap (λ (l : List Arrival). slice_get l n) (sym are.0) ∙ at_place A n a more (sym rest ∙ first)
  next_named None count e are rest below is = λ s m a more got first.
      let p = arrivals (take i J) in
      let here : journals.Arrival = record { sim = s.0; message = m } in
      let later = arrivals (drop (suc i) J) in
      let whole : arrivals J ≡ p ++ here ∷ later =
      ap arrivals (sym (take-append-drop i J) ∙ ap (λ l. take i J ++ l) (drop-cons J i e below ∙ ap (λ z. z ∷ drop (suc i) J) (sym is ∙ got)))
      ∙ filter_map_append arrival_of (take i J) (Got s m ∷ drop (suc i) J) in
      same_next p (came a) here (map came more) (later ++ are.0.0)
      (sym (parts ∙ ap (λ (l : List Arrival). p ++ map came l) first) ∙ are.0.1 ∙ ap (λ (l : Came). l ++ are.0.0) whole ∙ append_assoc p (here ∷ later) are.0.0)

none_left : (n : ℕ) (A : List Arrival) (steps : List Asked) → length A ≡ 0 → length steps ≡ 0 → left n A steps ≡ []
none_left n [] [] a s = refl
none_left n (b ∷ A) steps a s = absurd (omega (arith, a))
none_left n [] (b ∷ steps) a s = absurd (omega (arith, s))

-- ---- for all messages that the record may have

-- what has been compared so far, and how many messages are left
abbrev pub IsWalked : Option (List Arrival) → ℕ → List Entry → List Asked → ℕ → ℕ → ℕ → ℕ → List Asked → Type 0
IsWalked messages count J asks i place n rest steps = (A : List Arrival) → AreMessages messages count J A
    → IsCompared (entries_after 0 (map came A) asks) J i place n (drop n A) steps × (length (drop n A) ≡ rest)

drop_next : {X : Type 0} (n : ℕ) (xs : List X) → drop (suc n) xs ≡ drop 1 (drop n xs)
drop_next zero [] = refl
drop_next zero (x ∷ xs) = refl
drop_next (suc n) [] = refl
drop_next (suc n) (x ∷ xs) = drop_next n xs

drop_one : {X : Type 0} (n : ℕ) (xs : List X) → drop (n + 1) xs ≡ drop 1 (drop n xs)
drop_one n xs = let next : n + 1 ≡ suc n = omega arith in ap (λ k. drop k xs) next ∙ drop_next n xs

one_less : {X : Type 0} (xs : List X) (k : ℕ) → length xs ≡ k → length (drop 1 xs) ≡ k - 1
one_less [] k e = let none : 0 ≡ k - 1 = omega (arith, e) in none
one_less (x ∷ xs) k e = let fewer : length xs ≡ k - 1 = omega (arith, e) in fewer

take_none : {X : Type 0} (xs : List X) → take 0 xs ≡ []
take_none [] = refl
take_none (x ∷ xs) = refl

-- the same of equal values
pub walked_now : (messages : Option (List Arrival)) (count : ℕ) (J : List Entry) (asks : List Asked) (i place later n m rest less : ℕ) (steps fewer : List Asked)
    → later ≡ place → m ≡ n → less ≡ rest → fewer ≡ steps → IsWalked messages count J asks i place n rest steps → IsWalked messages count J asks i later m less fewer
walked_now messages count J asks i place later n m rest less steps fewer p q r s w =
    subst (λ k. IsWalked messages count J asks i k m less fewer) (sym p)
    (subst (λ k. IsWalked messages count J asks i place k less fewer) (sym q)
    (subst (λ k. IsWalked messages count J asks i place n k fewer) (sym r)
    (subst (λ (l : List Asked). IsWalked messages count J asks i place n rest l) (sym s) w)))

module _ (messages : Option (List Arrival)) (count : ℕ) (J : List Entry) (asks : List Asked) (i place n rest : ℕ) (steps : List Asked) (e : Entry)
    (w : IsWalked messages count J asks i place n rest steps) (below : i < length J) (is : e ≡ get_or J i e) where
  -- what the entry is to the entries that are left, whichever these are
  abbrev Finds : Match → Type 0
  Finds found = (A : List Arrival) → length A ≡ rest → IsNextNamed messages n e A → IsMatch n A steps e found

  found_for : (found : Match) → Finds found → (A : List Arrival) → AreMessages messages count J A → IsMatch n (drop n A) steps e found
  found_for found m A are = m (drop n A) (w A are).1 (next_named A asks J i place n (drop n A) steps (w A are).0 messages count e are refl below is)

  pub walked_neither : Finds Neither → IsWalked messages count J asks (i + 1) place n rest steps
  walked_neither m A are = (on_neither (entries_after 0 (map came A) asks) J i place n (drop n A) steps e (w A are).0 below is (found_for Neither m A are), (w A are).1)

  pub walked_step : Finds NextStep → IsWalked messages count J asks (i + 1) (place + 1) n rest (drop 1 steps)
  walked_step m A are = (on_step (entries_after 0 (map came A) asks) J i place n (drop n A) steps e (w A are).0 below is (drop 1 steps) refl (found_for NextStep m A are), (w A are).1)

  pub walked_message : Finds NextMessage → IsWalked messages count J asks (i + 1) (place + 1) (n + 1) (rest - 1) steps
  walked_message m A are = (
    on_message (entries_after 0 (map came A) asks) J i place n (drop n A) steps e (w A are).0 below is (drop (n + 1) A) (drop_one n A) (found_for NextMessage m A are),
    ap length (drop_one n A) ∙ one_less (drop n A) rest (w A are).1,
  )

  pub walked_another : Finds Another → (A : List Arrival) → AreMessages messages count J A → IsFirstOther (entries_after 0 (map came A) asks) (entries_of J) (Some place)
  walked_another m A are = on_another (entries_after 0 (map came A) asks) J i place n (drop n A) steps e (w A are).0 below is (found_for Another m A are)

  pub walked_behind : Finds Behind → (A : List Arrival) → AreMessages messages count J A → IsFirstOther (entries_after 0 (map came A) asks) (entries_of J) None
  walked_behind m A are = on_behind (entries_after 0 (map came A) asks) J i place n (drop n A) steps e (w A are).0 below is (found_for Behind m A are)

-- the journal is at its end
module _ (messages : Option (List Arrival)) (count : ℕ) (J : List Entry) (asks : List Asked) (i place n rest : ℕ) (steps : List Asked)
    (w : IsWalked messages count J asks i place n rest steps) (end : length J ≤ i) (A : List Arrival) (are : AreMessages messages count J A) where
  pub walked_all : rest ≡ 0 → length steps ≡ 0 → IsFirstOther (entries_after 0 (map came A) asks) (entries_of J) None
  walked_all no_message no_step = compared_all (entries_after 0 (map came A) asks) J i place n (drop n A) steps (w A are).0 end (none_left n (drop n A) steps ((w A are).1 ∙ no_message) no_step)

  pub walked_short : (0 < rest) ⊎ (0 < length steps) → IsFirstOther (entries_after 0 (map came A) asks) (entries_of J) (Some place)
  walked_short more =
      let there : (0 < length (drop n A)) ⊎ (0 < length steps) = subst (λ k. (0 < k) ⊎ (0 < length steps)) (sym (w A are).1) more in
      let some = some_left n (drop n A) steps there in
      compared_short (entries_after 0 (map came A) asks) J i place n (drop n A) steps (w A are).0 end some.0 some.1 some.2

-- ---- the messages, as the program keeps them

pub all_kept : (A : Came) → (B : List Arrival) × (map came B ≡ A) × (length B ≡ length A)
all_kept [] = ([], refl, refl)
all_kept (a ∷ A) = let t = all_kept A in (kept_as a ∷ t.0, ap (λ (l : Came). a ∷ l) t.1, ap suc t.2)

-- ---- the same of what the calls are given

pub begins_too : (A C : Came) (J K : List Entry) → C ≡ A → K ≡ J → BeginsWith A (arrivals J) → BeginsWith C (arrivals K)
begins_too A C J K same is begins = subst (λ (l : Came). BeginsWith l (arrivals K)) (sym same) (subst (λ (L : List Entry). BeginsWith A (arrivals L)) (sym is) begins)

pub other_too : (A C : Came) (steps : Option (List Asked)) (asks listed : List Asked) (J K : List Entry) (n : Option ℕ) → C ≡ A → steps ≡ Some asks → listed ≡ asks → K ≡ J
    → IsFirstOther (entries_after 0 C listed) (entries_of K) n → IsOther A steps J n
other_too A C steps asks listed J K n same there steps_are is found =
    subst (λ (s : Option (List Asked)). IsOther A s J n) (sym there)
    (subst (λ (l : Came). IsFirstOther (entries_after 0 l asks) (entries_of J) n) same
    (subst (λ (l : List Asked). IsFirstOther (entries_after 0 C l) (entries_of J) n) steps_are
    (subst (λ (L : List Entry). IsFirstOther (entries_after 0 C listed) (entries_of L) n) is found)))
