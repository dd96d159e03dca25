-- A link that is parked or taken becomes ready, and one that is ready stays so.
use Rattle.std.proofs.Common.{◌≡◌, ◌+◌, ◌≤◌, ℕ, Bool, true, false, cond, inl, inr, List, [], ◌∷◌, ◌++◌, Some, slice_get, refl, sym, ap, ◌∙◌, arith, subst, if◌then◌else◌}
use Rattle.std.specs.List.{list_any}
use Rattle.mk_base.specs.declared.LinkNo.{LinkNo}
use Rattle.mk_base.specs.Links.{same_link, without}
use Rattle.mk_poll.specs.Turning.{Turning}
use Rattle.mk_base.specs.Lists.{IsIn}
use Rattle.mk_base.proofs.Lists.{some_passes}
use Rattle.mk_poll.specs.Links.{times_in, IsAdded, IsApart, lifted, made_ready}
use Rattle.mk_base.proofs.Counts.{same_self}
use Rattle.mk_poll.proofs.OnLinks.{found}
use Rattle.mk_poll.proofs.Apart.{once, same_true, times-gone, times-in, times-none, times-push, times-without, unlisted}
use Rattle.mk_poll.proofs.Lifting.{gone_lifted, lifted_none, times_at, times_lifted, without_none}

-- a link that wasn't ready becomes so
pub apart_ready : (k : LinkNo) (t : Turning) → list_any (λ other. same_link other k) t.ready ≡ false → IsApart t
    → IsApart (record { ready = t.ready ++ k ∷ []; taken = without k t.taken; parked = lifted k t.parked })
apart_ready k t none apart l = elim (same_link k l) as (λ b. same_link k l ≡ b → times_in l (t.ready ++ k ∷ []) + (times_in l (without k t.taken) + times_in l (lifted k t.parked)) ≤ 1) [
  | true ↦ λ e. subst (λ (x : LinkNo). times_in x (t.ready ++ k ∷ []) + (times_in x (without k t.taken) + times_in x (lifted k t.parked)) ≤ 1) (same_true k l e) here
  | false ↦ λ e. omega (arith, times-push l k t.ready, ap once e, times-without l k t.taken, times_lifted l k t.parked, apart l)
] refl
  where
    here : times_in k (t.ready ++ k ∷ []) + (times_in k (without k t.taken) + times_in k (lifted k t.parked)) ≤ 1
    here = omega (arith, times-push k k t.ready, ap once (same_self k.0), times-none k t.ready (unlisted k t.ready none), times-gone k t.taken, gone_lifted k t.parked (omega (arith, apart k)))

-- the same, where a ready link stays
pub apart_made_ready : (k : LinkNo) (t : Turning) → IsApart t → IsApart (made_ready k t)
apart_made_ready k t apart = elim (list_any (λ (other : LinkNo). same_link other k) t.ready) as (λ b. list_any (λ (other : LinkNo). same_link other k) t.ready ≡ b → IsApart (if b then t else (record { ready = t.ready ++ k ∷ []; taken = without k t.taken; parked = lifted k t.parked }))) [
  | true ↦ λ e. apart
  | false ↦ λ e. apart_ready k t e apart
] refl

-- a link that is found is there
pub listed : (l : LinkNo) (xs : List LinkNo) → list_any (λ other. same_link other l) xs ≡ true → IsIn l xs
listed l xs e =
    let p = some_passes (λ (other : LinkNo). same_link other l) xs e in
    subst (λ (k : LinkNo). IsIn k xs) (same_true p.0 l p.2) p.1

not_listed : (l : LinkNo) (xs : List LinkNo) → times_in l xs ≡ 0 → list_any (λ other. same_link other l) xs ≡ false
not_listed l xs none = go (list_any (λ (other : LinkNo). same_link other l) xs) refl
  where
    go : (b : Bool) → list_any (λ other. same_link other l) xs ≡ b → b ≡ false
    go false e = refl
    go true e = absurd (omega (arith, none, times-in l xs (listed l xs e)))

-- what becomes of a link that isn't ready
moved : (k : LinkNo) (t u : Turning) → times_in k t.ready ≡ 0 → u ≡ record { ready = t.ready ++ k ∷ []; taken = without k t.taken; parked = lifted k t.parked } → u ≡ made_ready k t
moved k t u none is = is ∙ sym (ap (λ (b : Bool). cond b t (record { ready = t.ready ++ k ∷ []; taken = without k t.taken; parked = lifted k t.parked })) (not_listed k t.ready none))

-- a parked link becomes ready
pub from_parked : (k : LinkNo) (t : Turning) (place : ℕ) (ready parked : List LinkNo) → slice_get t.parked place ≡ Some k → IsApart t → ready ≡ t.ready ++ k ∷ [] → parked ≡ lifted k t.parked
    → record { ready = ready; taken = t.taken; parked = parked } ≡ made_ready k t
from_parked k t place ready parked there apart one three =
    let two : t.taken ≡ without k t.taken = without_none k t.taken (omega (arith, apart k, times_at k t.parked place there)) in
    moved k t (record { ready = ready; taken = t.taken; parked = parked }) (omega (arith, apart k, times_at k t.parked place there)) cc

-- a taken link becomes ready
pub from_taken : (k : LinkNo) (t : Turning) (ready taken : List LinkNo) → list_any (λ other. same_link other k) t.taken ≡ true → IsApart t → ready ≡ t.ready ++ k ∷ [] → taken ≡ without k t.taken
    → record { ready = ready; taken = taken; parked = t.parked } ≡ made_ready k t
from_taken k t ready taken held apart one two =
    let there : 1 ≤ times_in k t.taken = times-in k t.taken (listed k t.taken held) in
    let three : t.parked ≡ lifted k t.parked = lifted_none k t.parked (omega (arith, apart k, there)) in
    moved k t (record { ready = ready; taken = taken; parked = t.parked }) (omega (arith, apart k, there)) cc

-- a ready link stays
pub stays : (k : LinkNo) (t : Turning) → IsAdded k t → times_in k t.parked ≡ 0 → list_any (λ other. same_link other k) t.taken ≡ false → t ≡ made_ready k t
stays k t (inl ready) none held = sym (ap (λ (b : Bool). cond b t (record { ready = t.ready ++ k ∷ []; taken = without k t.taken; parked = lifted k t.parked })) (found k t.ready ready))
stays k t (inr (inl taken)) none held = absurd (unlisted k t.taken held taken)
stays k t (inr (inr parked)) none held = absurd (omega (arith, none, times-in k t.parked parked))
