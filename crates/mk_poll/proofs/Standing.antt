-- The spots of links that change their places.
use Rattle.std.proofs.Common.{◌≡◌, ◌<◌, ◌≤◌, ℕ, true, false, List, [], ◌∷◌, ◌++◌, length, Option, None, refl, sym, ap, ◌∙◌, arith, subst}
use Rattle.mk_base.specs.declared.LinkNo.{LinkNo}
use Rattle.mk_base.specs.Lists.{IsIn}
use Rattle.mk_base.specs.Links.{same_link, without}
use Rattle.mk_base.proofs.Lists.{in_at, none_some}
use Rattle.mk_poll.specs.Turning.{Turning}
use Rattle.mk_poll.specs.Links.{times_in, added, lifted, made_parked}
use Rattle.mk_poll.specs.inner.Links.{AreAt, AreMore, HaveSpots, spot_at, times_of}
use Rattle.mk_poll.proofs.Apart.{once, same_true, times-cons, times-in, times-none, times-push, times-without}
use Rattle.mk_poll.proofs.Lifting.{times_lifted}
use Rattle.mk_poll.proofs.Spotting.{more_at}

-- equal places
pub spots_are : (spots : List (Option ℕ)) (t : Turning) (ready taken parked : List LinkNo) → HaveSpots spots t → ready ≡ t.ready → taken ≡ t.taken → parked ≡ t.parked
    → HaveSpots spots (record { ready = ready; taken = taken; parked = parked })
spots_are spots t ready taken parked have one two three = record {
  below = λ l e. have.below l (omega (arith, e, ap (times_in l) one, ap (times_in l) two, ap (times_in l) three));
  at = subst (AreAt (spot_at spots)) (sym three) have.at;
}

-- a link without a spot isn't parked
pub not_parked : (spots : List (Option ℕ)) (k : LinkNo) (t : Turning) → HaveSpots spots t → spot_at spots k ≡ None → times_in k t.parked ≡ 0
not_parked spots k t have none = times-none k t.parked (λ h. let i = in_at k t.parked h in none_some (sym none ∙ have.at.here i.0 k i.1))

-- a link is added
pub spots_added : (old new : List (Option ℕ)) (k : LinkNo) (t : Turning) → AreMore old new → k.0 < length new → HaveSpots old t → HaveSpots new (added k t)
spots_added old new k t more below have = record {
  below = λ l e. elim (same_link k l) as (λ b. same_link k l ≡ b → l.0 < length new) [
    | true ↦ λ is. subst (λ (x : LinkNo). x.0 < length new) (same_true k l is) below
    | false ↦ λ is. omega (arith, more.count, have.below l (omega (arith, e, times-push l k t.ready, ap once is)))
  ] refl;
  at = more_at old new t.parked more have.at;
}

-- one of the links moves
moved : (k : LinkNo) (old new : List (Option ℕ)) (t u : Turning) → length new ≡ length old → HaveSpots old t → 1 ≤ times_of k t → ((l : LinkNo) → same_link k l ≡ false → times_of l u ≤ times_of l t) → AreAt (spot_at new) u.parked → HaveSpots new u
moved k old new t u count have there no_more at = record {
  below = λ l e. elim (same_link k l) as (λ b. same_link k l ≡ b → l.0 < length new) [
    | true ↦ λ is. subst (λ (x : LinkNo). x.0 < length new) (same_true k l is) (omega (arith, count, have.below k there))
    | false ↦ λ is. omega (arith, count, have.below l (omega (arith, e, no_more l is)))
  ] refl;
  at = at;
}

-- the first ready link is taken
pub spots_took : (spots : List (Option ℕ)) (k : LinkNo) (rest : List LinkNo) (t : Turning) → t.ready ≡ k ∷ rest → HaveSpots spots t
    → HaveSpots spots (record { ready = rest; taken = t.taken ++ k ∷ []; parked = t.parked })
spots_took spots k rest t is have = record {
  below = λ l e. have.below l (omega (arith, e, ap (times_in l) is, times-cons l k rest, times-push l k t.taken));
  at = have.at;
}

-- a taken link is parked
pub spots_parked : (old new : List (Option ℕ)) (k : LinkNo) (t : Turning) → IsIn k t.taken → length new ≡ length old → HaveSpots old t → AreAt (spot_at new) (t.parked ++ k ∷ []) → HaveSpots new (made_parked k t)
spots_parked old new k t there count have at = moved k old new t (made_parked k t) count have (omega (arith, times-in k t.taken there)) (λ l is. omega (arith, times-push l k t.parked, ap once is, times-without l k t.taken)) at

-- a parked link becomes ready
pub spots_lifted : (old new : List (Option ℕ)) (k : LinkNo) (t : Turning) → 1 ≤ times_in k t.parked → length new ≡ length old → HaveSpots old t → AreAt (spot_at new) (lifted k t.parked)
    → HaveSpots new (record { ready = t.ready ++ k ∷ []; taken = t.taken; parked = lifted k t.parked })
spots_lifted old new k t there count have at = moved k old new t (record { ready = t.ready ++ k ∷ []; taken = t.taken; parked = lifted k t.parked }) count have (omega (arith, there)) (λ l is. omega (arith, times-push l k t.ready, ap once is, times_lifted l k t.parked)) at

-- a taken link becomes ready
pub spots_left : (spots : List (Option ℕ)) (k : LinkNo) (t : Turning) → IsIn k t.taken → HaveSpots spots t
    → HaveSpots spots (record { ready = t.ready ++ k ∷ []; taken = without k t.taken; parked = t.parked })
spots_left spots k t there have = moved k spots spots t (record { ready = t.ready ++ k ∷ []; taken = without k t.taken; parked = t.parked }) refl have (omega (arith, times-in k t.taken there)) (λ l is. omega (arith, times-push l k t.ready, ap once is, times-without l k t.taken)) have.at
