-- For proofs alone. The record of a replay whose messages all came, and what is said where they didn't.
use Rattle.std.proofs.Common.{◌≡◌, ℕ, suc, ◌+◌, ◌<◌, ◌≤◌, ◌==◌, get_or, take, if◌then◌else◌, Bool, true, false, List, [], ◌∷◌, ◌++◌, length, map, Option, Some, None, All, refl, sym, ap, ◌∙◌, subst, arith, length-append, inl, inr}
use Rattle.std.specs.List.{list_all}
use Rattle.std.proofs.lemmas.Bool.{and_from, eqb-true, eq-eqb, true≢false}
use Rattle.std.proofs.lemmas.List.{take_more}
use Rattle.std.proofs.lemmas.List.Elements.{All-head, All-tail}
use Rattle.mk_base.specs.Lists.{BeginsWith}
use Rattle.mk_base.proofs.Lists.{append_nil, filter_map_append}
use Rattle.mk_plan.specs.declared.Plan.{Plan}
use Rattle.mk_plan.specs.declared.Entry.{Entry}
use Rattle.mk_plan.specs.declared.Entry.TheVariants.{Sent, Got}
use Rattle.mk_plan.specs.Plans.{IsValidPlan}
use Rattle.mk_plan.specs.Journals.{Arrival, arrivals, arrival_of}
use Rattle.mk_record.specs.Reading.{reading, Said}
use Rattle.mk_record.specs.Steps.{IsKnown}
use Rattle.mk_record.specs.Texts.{record_text}
use Rattle.mk_record.specs.Seen.{came}
use Rattle.mk_record.specs.Arrival as saved
use Rattle.mk_record.specs.Asked.{Asked}
use Rattle.mk_record.specs.Writable.{is_writable}
use Rattle.mk_record.specs.Again.{steps_of}
use Rattle.mk_record_laws.proofs.Whole.{read_again}
use Rattle.mk_record_laws.proofs.Recorded.{recordable}
use Rattle.mk_sched.specs.declared.faults.CoreFault.{CoreFault}
use Rattle.mk_record.specs.Replays.{EndsBy, SomeUngiven, end_with}
use Rattle.mk_record.specs.Orders.{IsReplayBy}
use Rattle.mk_record.specs.ReplayEnd.{ReplayEnd}
use Rattle.mk_record.specs.ReplayEnd.TheVariants.{Done, Core, Short, Other}
use Rattle.mosaikrun_records.specs.Saved.{IsSaidOf, IsUnread}
use Rattle.mosaikrun_sayings.specs.Stops.{stop_of}
use Rattle.mosaikrun_endings.specs.declared.ending.Ending.{Ending}
use Rattle.mosaikrun_endings.specs.declared.ending.Ending.TheVariants.{Differs}
use Rattle.mosaikrun_records.specs.Migrations.{HasAllMessages, IsLost, IsRecordOf, Unmigrated}
use Rattle.mosaikrun_records.specs.inner.Migrations.{is_message}

-- ---- the messages of a journal

-- the messages that came are such as may be written
pub all_writable : (P : Plan) (J : List Entry) (A : List Arrival) → All (IsKnown P) A → BeginsWith A (arrivals J) → list_all is_writable J ≡ true
all_writable P [] A known begins = refl
all_writable P (Sent s item ∷ J) A known begins = all_writable P J A known begins
all_writable P (Got s m ∷ J) A known begins =
    let a : Arrival = record { sim = s.0; message = m } in
    let all = subst (All (IsKnown P)) begins.1 known in
    and_from _ _ (All-head (IsKnown P) a (arrivals J ++ begins.0) all).in_range (all_writable P J (arrivals J ++ begins.0) (All-tail (IsKnown P) a (arrivals J ++ begins.0) all) (begins.0, refl))

pub all_given : (J : List Entry) (A : List Arrival) → BeginsWith A (arrivals J) → length (arrivals J) ≡ length A → arrivals J ≡ A
all_given J A ([], is) same = sym (is ∙ append_nil (arrivals J))
all_given J A (a ∷ more, is) same = let len = ap length is in let sum = length-append (arrivals J) (a ∷ more) in absurd (omega (arith, same, len, sum))

pub some_left : (J : List Entry) (A : List Arrival) → BeginsWith A (arrivals J) → (length (arrivals J) ≡ length A → ⊥) → SomeUngiven A J
some_left J A ([], is) apart = absurd (apart (ap length (sym (is ∙ append_nil (arrivals J)))))
some_left J A (a ∷ more, is) apart = (a, more, is)

-- ---- how many messages came

message_one : (e : Entry) → length (arrivals (e ∷ [])) ≡ (if is_message e then 1 else 0)
message_one (Sent s item) = refl
message_one (Got s m) = refl

pub one_at_most : (e : Entry) (n : ℕ) → n ≡ (if is_message e then 1 else 0) → n ≤ 1
one_at_most e n is = subst (λ k. k ≤ 1) (sym is) (elim (is_message e) as (λ b. (if b then 1 else 0) ≤ 1) [ true ↦ omega arith | false ↦ omega arith ])

-- one entry more
pub count_push : (J : List Entry) (k : ℕ) (e : Entry) (count n : ℕ) → k < length J → e ≡ get_or J k e → count ≡ length (arrivals (take k J)) → n ≡ (if is_message e then 1 else 0) → count + n ≡ length (arrivals (take (k + 1) J))
count_push J k e count n low is before one =
    let longer : take (k + 1) J ≡ take k J ++ e ∷ [] = take_more J k e low ∙ ap (λ (d : Entry). take k J ++ d ∷ []) (sym is) in
    ap (λ m. m + n) before ∙ ap (λ m. length (arrivals (take k J)) + m) (one ∙ sym (message_one e))
    ∙ sym (ap (λ (l : List Entry). length (arrivals l)) longer ∙ ap length (filter_map_append arrival_of (take k J) (e ∷ [])) ∙ length-append (arrivals (take k J)) (arrivals (e ∷ [])))

as_many : (xs : List saved.Arrival) → length (map came xs) ≡ length xs
as_many [] = refl
as_many (x ∷ xs) = ap suc (as_many xs)

pub all_came : (J : List Entry) (xs : List saved.Arrival) (count : ℕ) (b : Bool) → b ≡ (length (arrivals J) == count) → count ≡ length xs → b ≡ true → length (arrivals J) ≡ length (map came xs)
all_came J xs count b is len holds = eqb-true (length (arrivals J)) count (sym is ∙ holds) ∙ len ∙ sym (as_many xs)

pub some_missing : (J : List Entry) (xs : List saved.Arrival) (count : ℕ) (b : Bool) → b ≡ (length (arrivals J) == count) → count ≡ length xs → b ≡ false → length (arrivals J) ≡ length (map came xs) → ⊥
some_missing J xs count b is len fails e = true≢false (sym (eq-eqb (length (arrivals J)) count (e ∙ as_many xs ∙ sym len)) ∙ sym is ∙ fails)

-- ---- by how it ends

module _ (P : Plan) (A : List Arrival) (steps : Option (List Asked)) (J : List Entry) where
  given_done : (e : ReplayEnd) (o : Option ℕ) → EndsBy P A J e → Done ≡ end_with e o → arrivals J ≡ A
  given_done Done None ends is = ends.given
  given_done Done (Some n) ends is = cc
  given_done (Core f) o ends is = cc
  given_done (Short k) None ends is = cc
  given_done (Short k) (Some n) ends is = cc
  given_done (Other k) o ends is = absurd ends

  given_short : (n : ℕ) (e : ReplayEnd) (o : Option ℕ) → EndsBy P A J e → Short n ≡ end_with e o → arrivals J ≡ A
  given_short n Done None ends is = cc
  given_short n Done (Some m) ends is = cc
  given_short n (Core f) o ends is = cc
  given_short n (Short k) None ends is = ends.given
  given_short n (Short k) (Some m) ends is = cc
  given_short n (Other k) o ends is = absurd ends

  module _ (bytes : List ℕ) (Q : Plan) (end : ReplayEnd) (read : reading bytes ≡ Said P A steps) (valid : IsValidPlan P) (same : Q ≡ P) (replayed : IsReplayBy P A steps None J end) where
    -- the record of a replay to which all messages came
    record_made : (text : List ℕ) → arrivals J ≡ A → HasAllMessages A J end → text ≡ record_text Q J → IsRecordOf bytes text
    record_made text given kept written =
        let is : text ≡ record_text P J = written ∙ ap (λ (X : Plan). record_text X J) same in
        record {
          plan = P;
          arrivals = A;
          journal = J;
          end = end;
          steps = steps;
          read = read;
          valid = valid;
          replayed = replayed;
          kept = kept;
          written = is;
          again = ap reading is ∙ read_again P J (recordable bytes P A steps J read valid replayed.0.eager given replayed.0.within) ∙ ap (λ (B : List Arrival). Said P B (Some (steps_of J))) given;
        }

    pub record_done : (text : List ℕ) → end ≡ Done → text ≡ record_text Q J → IsRecordOf bytes text
    record_done text is written =
        let given : arrivals J ≡ A = given_done replayed.1.messages_end replayed.1.other replayed.1.ends (sym is ∙ replayed.1.is) in
        record_made text given (subst (HasAllMessages A J) (sym is) given) written

    pub record_short : (text : List ℕ) (n : ℕ) → end ≡ Short n → text ≡ record_text Q J → IsRecordOf bytes text
    record_short text n is written =
        let given : arrivals J ≡ A = given_short n replayed.1.messages_end replayed.1.other replayed.1.ends (sym is ∙ replayed.1.is) in
        record_made text given (subst (HasAllMessages A J) (sym is) given) written

    pub record_fault : (text : List ℕ) (f : CoreFault) → end ≡ Core f → length (arrivals J) ≡ length A → text ≡ record_text Q J → IsRecordOf bytes text
    record_fault text f is all written =
        let given : arrivals J ≡ A = all_given J A replayed.0.given all in
        record_made text given (subst (HasAllMessages A J) (sym is) given) written

    no_record : (e : Ending) → IsLost A J end → IsSaidOf P J end e → Unmigrated bytes e
    no_record e lost said = inr (record { stopped = record { plan = P; arrivals = A; journal = J; end = end; steps = steps; read = read; valid = valid; replayed = replayed; said = said }; lost = lost })

    pub differs : (n : ℕ) → end ≡ Other n → Unmigrated bytes (Differs n)
    differs n is = no_record (Differs n) (subst (IsLost A J) (sym is) tt) (subst (λ (x : ReplayEnd). IsSaidOf P J x (Differs n)) (sym is) refl)

    pub stopped_early : (e : Ending) (f : CoreFault) → end ≡ Core f → (length (arrivals J) ≡ length A → ⊥) → e ≡ stop_of Q J f → Unmigrated bytes e
    stopped_early e f is apart said =
        no_record e (subst (IsLost A J) (sym is) (some_left J A replayed.0.given apart))
        (subst (λ (x : ReplayEnd). IsSaidOf P J x e) (sym is) (said ∙ ap (λ (X : Plan). stop_of X J f) same))

-- what is no record has no migration
pub unread_unmigrated : (bytes : List ℕ) (e : Ending) → IsUnread bytes e → Unmigrated bytes e
unread_unmigrated bytes e unread = inl unread
