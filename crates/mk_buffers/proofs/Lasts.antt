-- The last of several values: with one more, and without one that the next stands for.
use Rattle.std.proofs.Common.{◌≡◌, ℕ, ◌+◌, ◌<◌, Bool, true, false, ◌&&◌, cond, List, [], ◌∷◌, ◌++◌, length, filter, get_or, take, Option, Some, None, refl, sym, ap, subst, ◌∙◌, arith}
use Rattle.std.specs.List.{remove}
use Rattle.std.proofs.lemmas.List.{take_all, take_more}
use Rattle.mk_base.specs.declared.tier.Tier.{Tier}
use Rattle.mk_base.specs.Tiers.{up_to, IsUpTo}
use Rattle.mk_base.proofs.TierOrder.{up_to_trans}
use Rattle.mk_base.proofs.Lists.{filter_append}
use Rattle.mk_plan.specs.Deliveries.{Timed}
use Rattle.mk_plan.specs.Inputs.{is_since}
use Rattle.mk_buffers_log.specs.Logs.{within}
use Rattle.mk_buffers.specs.Slots.{or_before, last_of, last_within, SameLast}
use Rattle.mk_buffers.specs.inner.Slots.{TakesLast}
use Rattle.mk_buffers_log.proofs.Ascending.{since_later}
use Rattle.mk_base.proofs.Bools.{and_holds, both_hold}

-- the first of two that is there
abbrev pub or_last : Option Timed → Option Timed → Option Timed
or_last None o = o
or_last (Some u) o = Some u

pub last_append : (xs ys : List Timed) → last_of (xs ++ ys) ≡ or_last (last_of ys) (last_of xs)
last_append [] ys = go (last_of ys)
  where
    go : (o : Option Timed) → o ≡ or_last o None
    go None = refl
    go (Some u) = refl
last_append (x ∷ xs) ys = ap (λ (o : Option Timed). or_before o x) (last_append xs ys) ∙ go (last_of ys)
  where
    go : (o : Option Timed) → or_before (or_last o (last_of xs)) x ≡ or_last o (or_before (last_of xs) x)
    go None = refl
    go (Some u) = refl

pub last_filtered : (test : Timed → Bool) (xs ys : List Timed) → last_of (filter test (xs ++ ys)) ≡ or_last (last_of (filter test ys)) (last_of (filter test xs))
last_filtered test xs ys = ap last_of (filter_append test xs ys) ∙ last_append (filter test xs) (filter test ys)

pub same_self : (m : Tier) (ts : List Timed) → SameLast m ts ts
same_self m ts p x h = refl

pub same_push : (m : Tier) (ks hs : List Timed) (t : Timed) → SameLast m ks hs → SameLast m (ks ++ t ∷ []) (hs ++ t ∷ [])
same_push m ks hs t f p x h = last_filtered (within false p x) ks (t ∷ []) ∙ ap (or_last (last_within p x (t ∷ []))) (f p x h) ∙ sym (last_filtered (within false p x) hs (t ∷ []))

-- one more value, and then fewer
pub taken_in : (m : Tier) (old middle new : List Timed) (t : Timed) → middle ≡ old ++ t ∷ [] → SameLast m new middle → TakesLast m t old new
taken_in m old middle new t is less hs f p x h = less p x h ∙ ap (last_within p x) is ∙ same_push m old hs t f p x h

pub same_later : (m n : Tier) (ks hs : List Timed) → IsUpTo m n → SameLast m ks hs → SameLast n ks hs
same_later m n ks hs up f p x h = f p x (up_to_trans m n x up h)

-- a value may go if the next one stands for it
without_first : (m : Tier) (a b : Timed) (ts : List Timed) → IsUpTo b.at m → IsUpTo a.at b.at → SameLast m (b ∷ ts) (a ∷ b ∷ ts)
without_first m a b ts low less p x h = by (within false p x a) refl
  where
    over : (o : Option Timed) → or_before o b ≡ or_before (or_before o b) a
    over None = refl
    over (Some u) = refl

    here : within false p x a ≡ true → within false p x b ≡ true
    here e = let t = both_hold (up_to a.at x) (is_since p a.at) e in and_holds (up_to b.at x) (is_since p b.at) (up_to_trans b.at m x low h) (since_later p a.at b.at less t.1)

    by : (c : Bool) → within false p x a ≡ c → last_of (filter (within false p x) (b ∷ ts)) ≡ last_of (cond c (a ∷ filter (within false p x) (b ∷ ts)) (filter (within false p x) (b ∷ ts)))
    by false e = refl
    by true e = ap (λ (d : Bool). last_of (cond d (b ∷ filter (within false p x) ts) (filter (within false p x) ts))) (here e) ∙ over (last_of (filter (within false p x) ts))
        ∙ ap (λ (d : Bool). or_before (last_of (cond d (b ∷ filter (within false p x) ts) (filter (within false p x) ts))) a) (sym (here e))

pub forget_first : (m : Tier) (ts all new : List Timed) (a b : Timed) → 1 < length ts → a ≡ get_or ts 0 a → b ≡ get_or ts 1 b → up_to b.at m && up_to a.at b.at ≡ true → new ≡ remove ts 0 → SameLast m ts all → SameLast m new all
forget_first m [] all new a b there is next h gone f = absurd (omega arith)
forget_first m (c ∷ []) all new a b there is next h gone f = absurd (omega arith)
forget_first m (c ∷ d ∷ ts) all new a b there is next h gone f =
    let t = both_hold (up_to b.at m) (up_to a.at b.at) h in
    let g : SameLast m (d ∷ ts) (c ∷ d ∷ ts) = without_first m c d ts (subst (λ (w : Timed). IsUpTo w.at m) next t.0) (subst (λ (w : Timed). IsUpTo c.at w.at) next (subst (λ (w : Timed). IsUpTo w.at b.at) is t.1)) in
    λ p x k. ap (last_within p x) gone ∙ g p x k ∙ f p x k

-- a search from the end
pub found_back : (test : Timed → Bool) (ts : List Timed) (n : ℕ) (t : Timed) → n < length ts → t ≡ get_or ts n t → test t ≡ true → last_of (filter test (take (n + 1) ts)) ≡ Some t
found_back test ts n t there is h = ap (λ (l : List Timed). last_of (filter test l)) (take_more ts n t there ∙ ap (λ (w : Timed). take n ts ++ w ∷ []) (sym is))
    ∙ last_filtered test (take n ts) (t ∷ []) ∙ ap (λ (c : Bool). or_last (last_of (cond c (t ∷ []) [])) (last_of (filter test (take n ts)))) h

pub all_back : (test : Timed → Bool) (ts : List Timed) (n : ℕ) → n ≡ length ts → last_of (filter test ts) ≡ last_of (filter test (take n ts))
all_back test ts n is = ap (λ (l : List Timed). last_of (filter test l)) (sym (take_all n ts (omega arith)))
