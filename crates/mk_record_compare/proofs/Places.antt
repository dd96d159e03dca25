-- The places of two lists of entries.
use Rattle.std.proofs.Common.{◌≡◌, ℕ, zero, suc, ◌+◌, ◌<◌, List, [], ◌∷◌, ◌++◌, length, take, slice_get, Option, Some, None, refl, sym, ap, ◌∙◌, ◌⊎◌, inl, inr, true, false, nat_lt, arith, length-append}
use Rattle.mk_base.proofs.Lists.{append_nil}
use Rattle.mk_plan.specs.declared.Entry.{Entry}
use Rattle.mk_plan.specs.Journals.{Arrival}
use Rattle.mk_record_read.specs.declared.saved.Asked.{Asked}
use Rattle.mk_record_read.specs.Entries.{RecordEntry, entries_of}
use Rattle.mk_record_compare.specs.Differences.{IsFirstOther, IsFirstOtherOf, IsOther, entries_compared}

abbrev pub Entries : Type 0
Entries = List RecordEntry

taken_front : (p q : Entries) → take (length p) (p ++ q) ≡ p
taken_front [] q = refl
taken_front (x ∷ p) q = ap (λ l. x ∷ l) (taken_front p q)

got_behind : (p : Entries) (q : Entries) → slice_get (p ++ q) (length p) ≡ slice_get q 0
got_behind [] q = refl
got_behind (x ∷ p) q = got_behind p q

-- the lists are equal up to a place, where they have different entries or only the record has one
pub first_other_at : (p : Entries) (r : Entries) (y : RecordEntry) (q : Entries) → (Some y ≡ slice_get q 0 → ⊥) → IsFirstOther (p ++ y ∷ r) (p ++ q) (Some (length p))
first_other_at p r y q other = (
  (let long : length (p ++ y ∷ r) ≡ length p + length (y ∷ r) = length-append p (y ∷ r) in omega (arith, long)),
  taken_front p (y ∷ r) ∙ sym (taken_front p q),
  λ e. other (sym (got_behind p (y ∷ r)) ∙ e ∙ got_behind p q),
)

-- the record has no more entries
pub all_the_same : (p q : Entries) → IsFirstOther (p ++ []) (p ++ q) None
all_the_same p q = (q, ap (λ (l : Entries). l ++ q) (sym (append_nil p)))

got_front : (p q : Entries) (n : ℕ) → n < length p → slice_get (p ++ q) n ≡ slice_get p n
got_front [] q n h = absurd (omega (arith, h))
got_front (x ∷ p) q zero h = refl
got_front (x ∷ p) q (suc n) h = got_front p q n (omega (arith, h))

-- lists that are equal up to n are equal at a place before
taken_got : (r e : Entries) (m n : ℕ) → m < n → take n r ≡ take n e → slice_get r m ≡ slice_get e m
taken_got r e m n h same = sym (get_taken r m n h) ∙ ap (λ (l : Entries). slice_get l m) same ∙ get_taken e m n h
  where
    get_taken : (xs : Entries) (m n : ℕ) → m < n → slice_get (take n xs) m ≡ slice_get xs m
    get_taken xs m zero h = absurd (omega (arith, h))
    get_taken [] m (suc n) h = refl
    get_taken (x ∷ xs) zero (suc n) h = refl
    get_taken (x ∷ xs) (suc m) (suc n) h = get_taken xs m n (omega (arith, h))

-- there is one first other
one_first : (r e : Entries) (m n : Option ℕ) → IsFirstOther r e m → IsFirstOther r e n → m ≡ n
one_first r e None None a b = refl
one_first r e None (Some n) a b = absurd (b.2 (sym (ap (λ (l : Entries). slice_get l n) a.1 ∙ got_front r a.0 n b.0)))
one_first r e (Some m) None a b = absurd (a.2 (sym (ap (λ (l : Entries). slice_get l m) b.1 ∙ got_front r b.0 m a.0)))
one_first r e (Some m) (Some n) a b = ap Some (elim (sides m n) [
  | inl less ↦ absurd (a.2 (taken_got r e m n less b.1))
  | inr (inl more) ↦ absurd (b.2 (taken_got r e n m more a.1))
  | inr (inr same) ↦ same
])
  where
    sides : (m n : ℕ) → (m < n) ⊎ ((n < m) ⊎ (m ≡ n))
    sides m n = elim (nat_lt m n) as (λ x. nat_lt m n ≡ x → (m < n) ⊎ ((n < m) ⊎ (m ≡ n))) [
      | true ↦ λ is. inl (grind (arith, is))
      | false ↦ λ is. elim (nat_lt n m) as (λ y. nat_lt n m ≡ y → (m < n) ⊎ ((n < m) ⊎ (m ≡ n))) [
        | true ↦ λ then. inr (inl (grind (arith, then)))
        | false ↦ λ then. inr (inr (grind (arith, is, then)))
      ] refl
    ] refl

one_of : (e : Entries) (r : Option Entries) (m n : Option ℕ) → IsFirstOtherOf e r m → IsFirstOtherOf e r n → m ≡ n
one_of e None m n a b = a ∙ sym b
one_of e (Some r) m n a b = one_first r e m n a b

pub one_other : (A : List Arrival) (steps : Option (List Asked)) (J : List Entry) (m n : Option ℕ) → IsOther A steps J m → IsOther A steps J n → m ≡ n
one_other A steps J m n a b = one_of (entries_of J) (entries_compared A steps) m n a b
