-- Links stand once each.
use Rattle.std.proofs.Common.{◌≡◌, ℕ, ◌+◌, ◌≤◌, inl, inr, Bool, true, false, not, cond, List, [], ◌∷◌, ◌++◌, refl, sym, ap, ◌∙◌, arith, subst, true≢false}
use Rattle.std.proofs.lemmas.Bool.{eqb-true}
use Rattle.std.specs.List.{list_any}
use Rattle.mk_base.specs.declared.LinkNo.{LinkNo}
use Rattle.mk_base.specs.Lists.{IsIn}
use Rattle.mk_base.specs.Links.{same_link, without}
use Rattle.mk_poll.specs.Turning.{Turning}
use Rattle.mk_poll.specs.Links.{times_in, IsAdded, IsApart, added, made_parked}
use Rattle.mk_poll.proofs.OnLinks.{found}
use Rattle.mk_base.proofs.Counts.{same_self}

-- 1 where it holds
abbrev pub once : Bool → ℕ
once true = 1
once false = 0

-- one more link in front
pub times-cons : (l x : LinkNo) (xs : List LinkNo) → times_in l (x ∷ xs) ≡ once (same_link x l) + times_in l xs
times-cons l x xs = go (same_link x l)
  where
    go : (b : Bool) → cond b (1 + times_in l xs) (times_in l xs) ≡ once b + times_in l xs
    go true = refl
    go false = omega arith

-- one more link behind
pub times-push : (l x : LinkNo) (xs : List LinkNo) → times_in l (xs ++ x ∷ []) ≡ once (same_link x l) + times_in l xs
times-push l x [] = times-cons l x []
times-push l x (y ∷ ys) = omega (arith, times-cons l y (ys ++ x ∷ []), times-push l x ys, times-cons l y ys)

kept_times : (l x : LinkNo) (b : Bool) (xs : List LinkNo) → times_in l (cond (not b) (x ∷ xs) xs) ≤ once (same_link x l) + times_in l xs
kept_times l x true xs = omega arith
kept_times l x false xs = omega (arith, times-cons l x xs)

-- a link stands no more often without another one
pub times-without : (l k : LinkNo) (xs : List LinkNo) → times_in l (without k xs) ≤ times_in l xs
times-without l k [] = omega arith
times-without l k (x ∷ xs) = omega (arith, kept_times l x (same_link x k) (without k xs), times-without l k xs, times-cons l x xs)

-- and never without itself
pub times-gone : (l : LinkNo) (xs : List LinkNo) → times_in l (without l xs) ≡ 0
times-gone l [] = refl
times-gone l (x ∷ xs) = elim (same_link x l) as (λ b. same_link x l ≡ b → times_in l (cond (not b) (x ∷ without l xs) (without l xs)) ≡ 0) [
  | true ↦ λ e. times-gone l xs
  | false ↦ λ e. omega (arith, times-cons l x (without l xs), ap once e, times-gone l xs)
] refl

-- a link that is there stands at least once
pub times-in : (l : LinkNo) (xs : List LinkNo) → IsIn l xs → 1 ≤ times_in l xs
times-in l [] none = absurd none
times-in l (x ∷ xs) (inl here) =
    let same : once (same_link x l) ≡ 1 = ap (λ (k : LinkNo). once (same_link x k)) here ∙ ap once (same_self x.0) in
    omega (arith, times-cons l x xs, same)
times-in l (x ∷ xs) (inr there) = omega (arith, times-cons l x xs, times-in l xs there)

pub same_true : (x l : LinkNo) → same_link x l ≡ true → x ≡ l
same_true x l e = ap (λ (n : ℕ). let link : LinkNo = record { 0 = n } in link) (eqb-true x.0 l.0 e)

-- a link that isn't there never stands
pub times-none : (l : LinkNo) (xs : List LinkNo) → (IsIn l xs → ⊥) → times_in l xs ≡ 0
times-none l [] away = refl
times-none l (x ∷ xs) away = elim (same_link x l) as (λ b. same_link x l ≡ b → times_in l (x ∷ xs) ≡ 0) [
  | true ↦ λ e. absurd (away (inl (sym (same_true x l e))))
  | false ↦ λ e. omega (arith, times-cons l x xs, ap once e, times-none l xs (λ h. away (inr h)))
] refl

pub unlisted : (l : LinkNo) (xs : List LinkNo) → list_any (λ other. same_link other l) xs ≡ false → IsIn l xs → ⊥
unlisted l xs none there = true≢false (sym (found l xs there) ∙ none)

-- a new link is added
pub apart_added : (k : LinkNo) (t : Turning) → (IsAdded k t → ⊥) → IsApart t → IsApart (added k t)
apart_added k t new apart l = elim (same_link k l) as (λ b. same_link k l ≡ b → times_in l (t.ready ++ k ∷ []) + (times_in l t.taken + times_in l t.parked) ≤ 1) [
  | true ↦ λ e. subst (λ (x : LinkNo). times_in x (t.ready ++ k ∷ []) + (times_in x t.taken + times_in x t.parked) ≤ 1) (same_true k l e) here
  | false ↦ λ e. omega (arith, times-push l k t.ready, ap once e, apart l)
] refl
  where
    here : times_in k (t.ready ++ k ∷ []) + (times_in k t.taken + times_in k t.parked) ≤ 1
    here = omega (arith, times-push k k t.ready, ap once (same_self k.0), times-none k t.ready (λ h. new (inl h)), times-none k t.taken (λ h. new (inr (inl h))), times-none k t.parked (λ h. new (inr (inr h))))

-- the first ready link is taken
pub apart_took : (k : LinkNo) (rest : List LinkNo) (t : Turning) → t.ready ≡ k ∷ rest → IsApart t
    → IsApart (record { ready = rest; taken = t.taken ++ k ∷ []; parked = t.parked })
apart_took k rest t is apart l = omega (arith, ap (times_in l) is, times-cons l k rest, times-push l k t.taken, apart l)

-- a taken link is parked
pub apart_parked : (k : LinkNo) (t : Turning) → IsIn k t.taken → IsApart t → IsApart (made_parked k t)
apart_parked k t there apart l = elim (same_link k l) as (λ b. same_link k l ≡ b → times_in l t.ready + (times_in l (without k t.taken) + times_in l (t.parked ++ k ∷ [])) ≤ 1) [
  | true ↦ λ e. subst (λ (x : LinkNo). times_in x t.ready + (times_in x (without k t.taken) + times_in x (t.parked ++ k ∷ [])) ≤ 1) (same_true k l e) here
  | false ↦ λ e. omega (arith, times-push l k t.parked, ap once e, times-without l k t.taken, apart l)
] refl
  where
    here : times_in k t.ready + (times_in k (without k t.taken) + times_in k (t.parked ++ k ∷ [])) ≤ 1
    here = omega (arith, times-push k k t.parked, ap once (same_self k.0), times-in k t.taken there, times-gone k t.taken, apart k)

pub never_twice : (b : Bool) → once b ≡ 0 → b ≡ false
never_twice true e = absurd (omega arith)
never_twice false e = refl

-- the last link, taken off, where it stands nowhere else
pub last_left : (l : LinkNo) (ys : List LinkNo) → times_in l (ys ++ l ∷ []) ≤ 1 → ys ≡ without l (ys ++ l ∷ [])
last_left l [] most = sym (ap (λ (b : Bool). cond (not b) (l ∷ []) []) (same_self l.0))
last_left l (y ∷ ys) most =
    let first : once (same_link y l) ≡ 0 = omega (arith, most, times-cons l y (ys ++ l ∷ []), times-push l l ys, ap once (same_self l.0)) in
    let more : times_in l (ys ++ l ∷ []) ≤ 1 = omega (arith, most, times-cons l y (ys ++ l ∷ [])) in
    ap (λ zs. y ∷ zs) (last_left l ys more) ∙ sym (ap (λ (b : Bool). cond (not b) (y ∷ without l (ys ++ l ∷ [])) (without l (ys ++ l ∷ []))) (never_twice _ first))

-- equal places
pub apart_is : (t : Turning) (ready taken parked : List LinkNo) → IsApart t → ready ≡ t.ready → taken ≡ t.taken → parked ≡ t.parked
    → IsApart (record { ready = ready; taken = taken; parked = parked })
apart_is t ready taken parked apart one two three l = omega (arith, apart l, ap (times_in l) one, ap (times_in l) two, ap (times_in l) three)
