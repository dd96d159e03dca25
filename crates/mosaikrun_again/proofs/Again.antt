-- The messages and the steps of a journal, put together again, are its entries.
use Rattle.std.proofs.Common.{◌≡◌, ℕ, suc, ◌+◌, ◌-◌, ◌≤◌, max, List, [], ◌∷◌, ◌++◌, map, take, drop, refl, ap, ◌∙◌, arith}
use Rattle.mk_base.specs.Lists.{Each}
use Rattle.mk_plan.specs.declared.Entry.{Entry}
use Rattle.mk_plan.specs.declared.Entry.TheVariants.{Sent, Got}
use Rattle.mk_plan.specs.declared.Item.TheVariants.{Step, GetData, Answer, Refuse}
use Rattle.mk_plan.specs.Journals.{Arrival, arrivals}
use Rattle.mk_record_read.specs.declared.saved.Asked.{Asked}
use Rattle.mk_record_read.specs.Entries.{RecordEntry, StepOf, MessageOf, entries_after, entries_in, entries_of, step_of}
use Rattle.mk_record_laws.specs.Again.{steps_after, steps_of}
use Rattle.mk_record_laws.proofs.Entries.{said}

-- each step stands behind at least so many messages
after_all : (n m : ℕ) (E : List RecordEntry) → m ≤ n → Each (λ (a : Asked). m ≤ a.before) (steps_after n E)
after_all n m [] low = tt
after_all n m (StepOf sim at advance ∷ E) low = (low, after_all n m E low)
after_all n m (MessageOf a ∷ E) low = after_all (n + 1) m E (omega (arith, low))

-- one message before all steps
one_message : (n : ℕ) (a : Arrival) (A : List Arrival) (steps : List Asked) → Each (λ (s : Asked). n + 1 ≤ s.before) steps → entries_after n (a ∷ A) steps ≡ MessageOf a ∷ entries_after (n + 1) A steps
one_message n a A [] low = refl
one_message n a A (s ∷ steps) low =
    let one : s.before - n ≡ suc (s.before - (n + 1)) = omega (arith, low.0) in
    let same : max n s.before ≡ max (n + 1) s.before = omega (arith, low.0) in
    ap (λ (k : ℕ). map MessageOf (take k (a ∷ A)) ++ step_of s ∷ entries_after (max n s.before) (drop k (a ∷ A)) steps) one
    ∙ ap (λ (k : ℕ). MessageOf a ∷ (map MessageOf (take (s.before - (n + 1)) A) ++ step_of s ∷ entries_after k (drop (s.before - (n + 1)) A) steps)) same

-- a step before all messages
one_step : (n : ℕ) (A : List Arrival) (s : Asked) (steps : List Asked) → s.before ≡ n → entries_after n A (s ∷ steps) ≡ step_of s ∷ entries_after n A steps
one_step n A s steps is =
    let none : s.before - n ≡ 0 = omega (arith, is) in
    let same : max n s.before ≡ n = omega (arith, is) in
    ap (λ (k : ℕ). map MessageOf (take k A) ++ step_of s ∷ entries_after (max n s.before) (drop k A) steps) none
    ∙ ap (λ (k : ℕ). step_of s ∷ entries_after k A steps) same

together : (n : ℕ) (E : List RecordEntry) → entries_after n (said E) (steps_after n E) ≡ E
together n [] = refl
together n (StepOf sim at advance ∷ E) =
    one_step n (said E) (record { before = n; sim = record { 0 = sim }; at = at; max_advance = advance }) (steps_after n E) refl
    ∙ ap (λ (F : List RecordEntry). StepOf sim at advance ∷ F) (together n E)
together n (MessageOf a ∷ E) =
    one_message n a (said E) (steps_after (n + 1) E) (after_all (n + 1) (n + 1) E (omega arith))
    ∙ ap (λ (F : List RecordEntry). MessageOf a ∷ F) (together (n + 1) E)

messages_are : (J : List Entry) → arrivals J ≡ said (entries_of J)
messages_are [] = refl
messages_are (Got s m ∷ J) = ap (λ (A : List Arrival). record { sim = s.0; message = m } ∷ A) (messages_are J)
messages_are (Sent s (Step at ins advance) ∷ J) = messages_are J
messages_are (Sent s (GetData wants) ∷ J) = messages_are J
messages_are (Sent s (Answer id content) ∷ J) = messages_are J
messages_are (Sent s (Refuse id reason) ∷ J) = messages_are J

pub entries_again : (J : List Entry) → entries_in (arrivals J) (steps_of J) ≡ entries_of J
entries_again J = ap (λ (A : List Arrival). entries_after 0 A (steps_of J)) (messages_are J) ∙ together 0 (entries_of J)
