-- The entries of a record that are left, and the first of them.
use Rattle.std.proofs.Common.{◌≡◌, ℕ, zero, suc, ◌+◌, ◌-◌, ◌<◌, ◌≤◌, max, List, [], ◌∷◌, ◌++◌, length, map, take, drop, slice_index_or, refl, ap, ◌∙◌, sym, arith}
use Rattle.mk_plan.specs.Journals.{Arrival}
use Rattle.mk_record_read.specs.declared.saved.Arrival as saved
use Rattle.mk_record_read.specs.Seen.{came}
use Rattle.mk_record_compare.specs.inner.Matches.{left, IsMessageNext}
use Rattle.mk_record_read.specs.declared.saved.Asked.{Asked}
use Rattle.mk_record_read.specs.Entries.{MessageOf, step_of, entries_after}

nothing_taken : (k : ℕ) → take k (let A : List Arrival = [] in A) ≡ []
nothing_taken zero = refl
nothing_taken (suc k) = refl

nothing_left : (k : ℕ) → drop k (let A : List Arrival = [] in A) ≡ []
nothing_left zero = refl
nothing_left (suc k) = refl

-- where no message is left, the steps are
pub left_steps : (n : ℕ) (steps : List Asked) → entries_after n [] steps ≡ map step_of steps
left_steps n [] = refl
left_steps n (a ∷ steps) =
    ap (λ (l : List Arrival). map MessageOf l ++ step_of a ∷ entries_after (max n a.before) (drop (a.before - n) []) steps) (nothing_taken (a.before - n))
    ∙ ap (λ (l : List Arrival). step_of a ∷ entries_after (max n a.before) l steps) (nothing_left (a.before - n))
    ∙ ap (λ l. step_of a ∷ l) (left_steps (max n a.before) steps)

pub left_alone : (n : ℕ) (a : Asked) (steps : List Asked) → entries_after n [] (a ∷ steps) ≡ step_of a ∷ entries_after n [] steps
left_alone n a steps = left_steps n (a ∷ steps) ∙ ap (λ l. step_of a ∷ l) (sym (left_steps n steps))

-- a message is the next entry where the next step waits for it
pub left_message : (n : ℕ) (m : Arrival) (A : List Arrival) (a : Asked) (steps : List Asked) → n < a.before → entries_after n (m ∷ A) (a ∷ steps) ≡ MessageOf m ∷ entries_after (n + 1) A (a ∷ steps)
left_message n m A a steps h =
    let one : a.before - n ≡ suc (a.before - (n + 1)) = omega (arith, h) in
    let same : max n a.before ≡ max (n + 1) a.before = grind (arith, h) in
    ap (λ k. map MessageOf (take k (m ∷ A)) ++ step_of a ∷ entries_after (max n a.before) (drop k (m ∷ A)) steps) one
    ∙ ap (λ k. MessageOf m ∷ (map MessageOf (take (a.before - (n + 1)) A) ++ step_of a ∷ entries_after k (drop (a.before - (n + 1)) A) steps)) same

-- the step is the next entry, and the other steps are left
abbrev pub IsStepNext : ℕ → List saved.Arrival → List Asked → Asked → Type 0
IsStepNext n A steps a = (left n A steps ≡ step_of a ∷ left n A (drop 1 steps)) × (1 ≤ length steps)

pub step_alone : (n : ℕ) (A : List saved.Arrival) (steps : List Asked) (d : Asked) → 1 ≤ length steps → length A ≡ 0 → IsStepNext n A steps (slice_index_or steps 0 d)
step_alone n A [] d some none = absurd (omega (arith, some))
step_alone n [] (a ∷ steps) d some none = (left_alone n a steps, some)
step_alone n (m ∷ A) (a ∷ steps) d some none = absurd (omega (arith, none))

pub message_next : (n : ℕ) (A : List saved.Arrival) (steps : List Asked) (d : Asked) → 1 ≤ length steps → n < (slice_index_or steps 0 d).before → 0 < length A → IsMessageNext n A steps
message_next n A [] d some later more = absurd (omega (arith, some))
message_next n A (a ∷ steps) d some later more = record {
  none = λ empty. absurd (let e = ap length empty in omega (arith, e, more));
  some = λ m rest is. ap (λ l. left n l (a ∷ steps)) is ∙ left_message n (came m) (map came rest) a steps later;
}
