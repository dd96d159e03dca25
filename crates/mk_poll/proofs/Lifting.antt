-- Links without one, in whose place the last of them stands.
use Rattle.std.proofs.Common.{◌≡◌, ℕ, zero, suc, ◌+◌, ◌<◌, ◌≤◌, inl, inr, Bool, true, false, not, cond, List, [], ◌∷◌, ◌++◌, length, Some, slice_get, slice_set, refl, sym, ap, ◌∙◌, arith, subst}
use Rattle.mk_base.specs.declared.LinkNo.{LinkNo}
use Rattle.mk_base.specs.Lists.{IsIn}
use Rattle.mk_base.proofs.Lists.{at_in, none_some, some_same}
use Rattle.mk_base.specs.Links.{same_link, without}
use Rattle.mk_poll.specs.Links.{times_in, second, last_first, lifted}
use Rattle.mk_base.proofs.Counts.{same_self}
use Rattle.mk_poll.proofs.Apart.{once, times-cons, times-in, never_twice}

-- ---- the last one first

times_second : (l x : LinkNo) (xs : List LinkNo) → times_in l (second x xs) ≡ once (same_link x l) + times_in l xs
times_second l x [] = times-cons l x []
times_second l x (y ∷ ys) = omega (arith, times-cons l y (x ∷ ys), times-cons l x ys, times-cons l y ys)

times_last_first : (l : LinkNo) (xs : List LinkNo) → times_in l (last_first xs) ≡ times_in l xs
times_last_first l [] = refl
times_last_first l (x ∷ xs) = omega (arith, times_second l x (last_first xs), times_last_first l xs, times-cons l x xs)

length_second : (x : LinkNo) (xs : List LinkNo) → length (second x xs) ≡ 1 + length xs
length_second x [] = refl
length_second x (y ∷ ys) = omega arith

length_last_first : (xs : List LinkNo) → length (last_first xs) ≡ length xs
length_last_first [] = refl
length_last_first (x ∷ xs) = omega (arith, length_second x (last_first xs), length_last_first xs)

in_second : (l x : LinkNo) (xs : List LinkNo) → IsIn l (x ∷ xs) → IsIn l (second x xs)
in_second l x [] there = there
in_second l x (y ∷ ys) (inl is) = inr (inl is)
in_second l x (y ∷ ys) (inr (inl is)) = inl is
in_second l x (y ∷ ys) (inr (inr there)) = inr (inr there)

in_last_first : (l : LinkNo) (xs : List LinkNo) → IsIn l xs → IsIn l (last_first xs)
in_last_first l [] none = none
in_last_first l (x ∷ xs) (inl is) = in_second l x (last_first xs) (inl is)
in_last_first l (x ∷ xs) (inr there) = in_second l x (last_first xs) (inr (in_last_first l xs there))

last_first_push : (xs : List LinkNo) (l : LinkNo) → last_first (xs ++ l ∷ []) ≡ l ∷ xs
last_first_push [] l = refl
last_first_push (x ∷ xs) l = ap (second x) (last_first_push xs l)

-- ---- a link is lifted

-- what is left, by whether the first link is the one
abbrev left_by : LinkNo → LinkNo → List LinkNo → Bool → List LinkNo
left_by l x xs b = cond b (last_first xs) (x ∷ lifted l xs)

-- all others that are there stay
pub in_lifted : (k l : LinkNo) (xs : List LinkNo) → IsIn k xs → same_link k l ≡ false → IsIn k (lifted l xs)
in_lifted k l [] none other = absurd none
in_lifted k l (x ∷ xs) (inl is) other =
    let stays : same_link x l ≡ false = ap (λ (y : LinkNo). same_link y l) (sym is) ∙ other in
    subst (λ (b : Bool). IsIn k (cond b (last_first xs) (x ∷ lifted l xs))) (sym stays) (inl is)
in_lifted k l (x ∷ xs) (inr there) other = elim (same_link x l) as (λ b. IsIn k (cond b (last_first xs) (x ∷ lifted l xs))) [
  | true ↦ in_last_first k xs there
  | false ↦ inr (in_lifted k l xs there other)
]

-- each stands no more often than before
pub times_lifted : (k l : LinkNo) (xs : List LinkNo) → times_in k (lifted l xs) ≤ times_in k xs
times_lifted k l [] = omega arith
times_lifted k l (x ∷ xs) = elim (same_link x l) as (λ b. times_in k (cond b (last_first xs) (x ∷ lifted l xs)) ≤ times_in k (x ∷ xs)) [
  | true ↦ omega (arith, times_last_first k xs, times-cons k x xs)
  | false ↦ omega (arith, times-cons k x (lifted l xs), times_lifted k l xs, times-cons k x xs)
]

-- it stood once, and is gone
pub gone_lifted : (l : LinkNo) (xs : List LinkNo) → times_in l xs ≤ 1 → times_in l (lifted l xs) ≡ 0
gone_lifted l [] most = refl
gone_lifted l (x ∷ xs) most = elim (same_link x l) as (λ b. same_link x l ≡ b → times_in l (cond b (last_first xs) (x ∷ lifted l xs)) ≡ 0) [
  | true ↦ λ e. omega (arith, times_last_first l xs, times-cons l x xs, most, ap once e)
  | false ↦ λ e. omega (arith, times-cons l x (lifted l xs), gone_lifted l xs (omega (arith, times-cons l x xs, most)), ap once e)
] refl

pub lifted_lt : (l : LinkNo) (xs : List LinkNo) → IsIn l xs → length (lifted l xs) < length xs
lifted_lt l [] none = absurd none
lifted_lt l (x ∷ xs) (inl here) =
    let same : same_link x l ≡ true = ap (λ (y : LinkNo). same_link x y) here ∙ same_self x.0 in
    omega (arith, ap (λ (b : Bool). length (left_by l x xs b)) same, length_last_first xs)
lifted_lt l (x ∷ xs) (inr there) = elim (same_link x l) as (λ b. length (cond b (last_first xs) (x ∷ lifted l xs)) < length (x ∷ xs)) [
  | true ↦ omega (arith, length_last_first xs)
  | false ↦ omega (arith, lifted_lt l xs there)
]

never : (b : Bool) (n : ℕ) → once b + n ≡ 0 → (b ≡ false) × (n ≡ 0)
never true n e = absurd (omega arith)
never false n e = (refl, omega (arith, e))

-- where it wasn't, all stay as they were
pub lifted_none : (l : LinkNo) (xs : List LinkNo) → times_in l xs ≡ 0 → xs ≡ lifted l xs
lifted_none l [] none = refl
lifted_none l (x ∷ xs) none =
    let n = never (same_link x l) (times_in l xs) (sym (times-cons l x xs) ∙ none) in
    ap (λ (ys : List LinkNo). x ∷ ys) (lifted_none l xs n.1) ∙ sym (ap (left_by l x xs) n.0)

pub without_none : (l : LinkNo) (xs : List LinkNo) → times_in l xs ≡ 0 → xs ≡ without l xs
without_none l [] none = refl
without_none l (x ∷ xs) none =
    let n = never (same_link x l) (times_in l xs) (sym (times-cons l x xs) ∙ none) in
    ap (λ (ys : List LinkNo). x ∷ ys) (without_none l xs n.1) ∙ sym (ap (λ (b : Bool). cond (not b) (x ∷ without l xs) (without l xs)) n.0)

pub times_at : (l : LinkNo) (xs : List LinkNo) (i : ℕ) → slice_get xs i ≡ Some l → 1 ≤ times_in l xs
times_at l xs i there = times-in l xs (at_in l xs i there)

-- the last one is written over it
pub lifted_is : (l last : LinkNo) (ys : List LinkNo) (i : ℕ) → slice_get (ys ++ last ∷ []) i ≡ Some l → times_in l (ys ++ last ∷ []) ≤ 1 → slice_set ys i last ≡ lifted l (ys ++ last ∷ [])
lifted_is l last [] zero there most =
    let same : same_link last l ≡ true = ap (λ (y : LinkNo). same_link y l) (some_same there) ∙ same_self l.0 in
    sym (ap (left_by l last []) same)
lifted_is l last [] (suc i) there most = absurd (none_some there)
lifted_is l last (y ∷ ys) zero there most =
    let same : same_link y l ≡ true = ap (λ (x : LinkNo). same_link x l) (some_same there) ∙ same_self l.0 in
    sym (ap (left_by l y (ys ++ last ∷ [])) same ∙ last_first_push ys last)
lifted_is l last (y ∷ ys) (suc i) there most =
    let first : once (same_link y l) ≡ 0 = omega (arith, most, times-cons l y (ys ++ last ∷ []), times_at l (ys ++ last ∷ []) i there) in
    let more : times_in l (ys ++ last ∷ []) ≤ 1 = omega (arith, most, times-cons l y (ys ++ last ∷ [])) in
    ap (λ (zs : List LinkNo). y ∷ zs) (lifted_is l last ys i there more) ∙ sym (ap (left_by l y (ys ++ last ∷ [])) (never_twice _ first))

set_past : (ys : List LinkNo) (i : ℕ) (x : LinkNo) → length ys ≤ i → ys ≡ slice_set ys i x
set_past [] i x past = refl
set_past (y ∷ ys) zero x past = absurd (omega arith)
set_past (y ∷ ys) (suc i) x past = ap (λ (zs : List LinkNo). y ∷ zs) (set_past ys i x (omega (arith, past)))

-- it was the last one
pub lifted_last : (l last : LinkNo) (ys : List LinkNo) (i : ℕ) → slice_get (ys ++ last ∷ []) i ≡ Some l → times_in l (ys ++ last ∷ []) ≤ 1 → length ys ≤ i → ys ≡ lifted l (ys ++ last ∷ [])
lifted_last l last ys i there most past = set_past ys i last past ∙ lifted_is l last ys i there most
