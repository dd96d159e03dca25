-- The latest of several: what may be left out, and what may be moved.
use Rattle.std.proofs.Common.{◌≡◌, Bool, true, false, cond, List, [], ◌∷◌, ◌++◌, filter, fold, Option, Some, None, refl, sym, ap, ◌∙◌, subst, ◌⊎◌, inl, inr, true≢false, if◌then◌else◌}
use Rattle.std.proofs.lemmas.List.Sums.{fold-append}
use Rattle.mk_base.specs.declared.tier.Tier.{Tier}
use Rattle.mk_base.specs.Lists.{IsIn}
use Rattle.mk_base.specs.Tiers.{up_to, IsUpTo}
use Rattle.mk_base.proofs.TierOrder.{up_to_self, up_to_total, up_to_trans}
use Rattle.mk_plan.specs.Deliveries.{Timed}
use Rattle.mk_plan.specs.Inputs.{later, latest}
use Rattle.mk_plan.proofs.Latest.{overtaken}
use Rattle.mk_base.proofs.Lists.{some_same, none_some, filter_in, in_filter, filter_append}

-- one that a later one of the list overtakes may be left out, where that passes the test if it does
pub without : (test : Timed → Bool) (front back : List Timed) (d e : Timed) → IsIn e back → IsUpTo d.at e.at → (test d ≡ true → test e ≡ true) → latest (filter test (front ++ d ∷ back)) ≡ latest (filter test (front ++ back))
without test front back d e m h goes = ap latest (filter_append test front (d ∷ back)) ∙ by_test (test d) refl ∙ sym (ap latest (filter_append test front back))
  where
    by_test : (b : Bool) → test d ≡ b → latest (filter test front ++ cond b (d ∷ filter test back) (filter test back)) ≡ latest (filter test front ++ filter test back)
    by_test true p = fold-append later None (filter test front) (d ∷ filter test back)
        ∙ overtaken (latest (filter test front)) (filter test back) d e (filter_in test e back m (goes p)) h
        ∙ sym (fold-append later None (filter test front) (filter test back))
    by_test false p = refl

-- of two, the lesser may come later
swap_one : (o : Option Timed) (t f : Timed) → up_to f.at t.at ≡ false → later (later o t) f ≡ later (later o f) t
swap_one None t f h = ap (λ (c : Bool). if c then Some f else Some t) (up_to_total t.at f.at h) ∙ sym (ap (λ (c : Bool). if c then Some t else Some f) h)
swap_one (Some b) t f h = go (up_to b.at t.at) refl (up_to b.at f.at) refl
  where
    first : Bool → Option Timed
    first c = if c then Some t else Some b

    go : (c : Bool) → up_to b.at t.at ≡ c → (e : Bool) → up_to b.at f.at ≡ e → later (if c then Some t else Some b) f ≡ later (if e then Some f else Some b) t
    go true p true q = ap (λ (c : Bool). if c then Some f else Some t) (up_to_total t.at f.at h) ∙ sym (ap (λ (c : Bool). if c then Some t else Some f) h)
    go true p false q = absurd (true≢false (sym (up_to_trans b.at t.at f.at p (up_to_total t.at f.at h)) ∙ q))
    go false p true q = ap (λ (c : Bool). if c then Some f else Some b) q ∙ sym (ap (λ (c : Bool). if c then Some t else Some f) h)
    go false p false q = ap (λ (c : Bool). if c then Some f else Some b) q ∙ sym (ap (λ (c : Bool). if c then Some t else Some b) p)

swap_all : (o : Option Timed) (t : Timed) (back : List Timed) → ((f : Timed) → IsIn f back → up_to f.at t.at ≡ false) → fold later (later o t) back ≡ later (fold later o back) t
swap_all o t [] h = refl
swap_all o t (f ∷ fs) h = ap (λ (q : Option Timed). fold later q fs) (swap_one o t f (h f (inl refl))) ∙ swap_all (later o f) t fs (λ g m. h g (inr m))

-- one that all after it are later than may stand at the end
pub moved : (test : Timed → Bool) (front back : List Timed) (t : Timed) → ((f : Timed) → IsIn f back → up_to f.at t.at ≡ false) → latest (filter test (front ++ t ∷ back)) ≡ latest (filter test ((front ++ back) ++ t ∷ []))
moved test front back t h = ap latest (filter_append test front (t ∷ back)) ∙ by_test (test t) ∙ sym (ap latest (filter_append test (front ++ back) (t ∷ []) ∙ ap (λ (l : List Timed). l ++ filter test (t ∷ [])) (filter_append test front back)))
  where
    by_test : (b : Bool) → latest (filter test front ++ cond b (t ∷ filter test back) (filter test back)) ≡ latest ((filter test front ++ filter test back) ++ cond b (t ∷ []) [])
    by_test true = fold-append later None (filter test front) (t ∷ filter test back)
        ∙ swap_all (latest (filter test front)) t (filter test back) (λ f m. h f (in_filter test f back m).0)
        ∙ sym (fold-append later None (filter test front ++ filter test back) (t ∷ []) ∙ ap (λ (o : Option Timed). later o t) (fold-append later None (filter test front) (filter test back)))
    by_test false = ap latest (sym (nothing (filter test front ++ filter test back)))
      where
        nothing : (l : List Timed) → l ++ [] ≡ l
        nothing [] = refl
        nothing (x ∷ l) = ap (λ (m : List Timed). x ∷ m) (nothing l)

-- at most y
abbrev Below : Option Timed → Tier → Type 0
Below None y = Unit {0}
Below (Some b) y = IsUpTo b.at y

fold_below : (xs : List Timed) (o : Option Timed) (y : Tier) → Below o y → ((x : Timed) → IsIn x xs → IsUpTo x.at y) → Below (fold later o xs) y
fold_below [] o y h all = h
fold_below (x ∷ xs) None y h all = fold_below xs (Some x) y (all x (inl refl)) (λ z m. all z (inr m))
fold_below (x ∷ xs) (Some b) y h all = fold_below xs (later (Some b) x) y (elim (up_to b.at x.at) as (λ c. Below (if c then Some x else Some b) y) [ true ↦ all x (inl refl) | false ↦ h ]) (λ z m. all z (inr m))

-- where none is later than the last, it is the latest
pub latest_last : (xs : List Timed) (y : Timed) → ((x : Timed) → IsIn x xs → IsUpTo x.at y.at) → latest (xs ++ y ∷ []) ≡ Some y
latest_last xs y all = fold-append later None xs (y ∷ []) ∙ over (latest xs) (fold_below xs None y.at tt all)
  where
    over : (o : Option Timed) → Below o y.at → later o y ≡ Some y
    over None h = refl
    over (Some b) h = ap (λ (c : Bool). if c then Some y else Some b) h

-- the latest is one of them
latest_from : (o : Option Timed) (ts : List Timed) (t : Timed) → fold later o ts ≡ Some t → (o ≡ Some t) ⊎ IsIn t ts
latest_from o [] t e = inl e
latest_from o (u ∷ us) t e = elim (latest_from (later o u) us t e) [ inl k ↦ go o k | inr m ↦ inr (inr m) ]
  where
    go : (o : Option Timed) → later o u ≡ Some t → (o ≡ Some t) ⊎ IsIn t (u ∷ us)
    go None k = inr (inl (sym (some_same k)))
    go (Some b) k = by (up_to b.at u.at) k
      where
        by : (c : Bool) → (if c then Some u else Some b) ≡ Some t → (Some b ≡ Some t) ⊎ IsIn t (u ∷ us)
        by true k = inr (inl (sym (some_same k)))
        by false k = inl k

pub latest_in : (ts : List Timed) (t : Timed) → latest ts ≡ Some t → IsIn t ts
latest_in ts t e = elim (latest_from None ts t e) [ inl k ↦ absurd (none_some k) | inr m ↦ m ]

-- the best so far beside the latest of the others
abbrev pub joined : Option Timed → Option Timed → Option Timed
joined o None = o
joined o (Some d) = later o d

joined_later : (o r : Option Timed) (f : Timed) → joined o (later r f) ≡ later (joined o r) f
joined_later o None f = refl
joined_later None (Some d) f = go (up_to d.at f.at)
  where
    go : (c : Bool) → joined None (if c then Some f else Some d) ≡ (if c then Some f else Some d)
    go true = refl
    go false = refl
joined_later (Some b) (Some d) f = go (up_to d.at f.at) refl (up_to b.at d.at) refl (up_to b.at f.at) refl
  where
    go : (c : Bool) → up_to d.at f.at ≡ c → (e : Bool) → up_to b.at d.at ≡ e → (g : Bool) → up_to b.at f.at ≡ g → joined (Some b) (if c then Some f else Some d) ≡ later (if e then Some d else Some b) f
    go true p true q g r = ap (λ (c : Bool). if c then Some f else Some b) (up_to_trans b.at d.at f.at q p) ∙ sym (ap (λ (c : Bool). if c then Some f else Some d) p)
    go true p false q g r = refl
    go false p true q g r = ap (λ (c : Bool). if c then Some d else Some b) q ∙ sym (ap (λ (c : Bool). if c then Some f else Some d) p)
    go false p false q true r = absurd (true≢false (sym (up_to_trans d.at b.at f.at (up_to_total d.at b.at q) r) ∙ p))
    go false p false q false r = ap (λ (c : Bool). if c then Some d else Some b) q ∙ sym (ap (λ (c : Bool). if c then Some f else Some b) r)

pub fold_from : (o r : Option Timed) (ts : List Timed) → fold later (joined o r) ts ≡ joined o (fold later r ts)
fold_from o r [] = refl
fold_from o r (t ∷ ts) = ap (λ (q : Option Timed). fold later q ts) (sym (joined_later o r t)) ∙ fold_from o (later r t) ts

-- the latest is no earlier than any
holds_above : (ts : List Timed) (b : Timed) → (c : Timed) × (fold later (Some b) ts ≡ Some c) × IsUpTo b.at c.at
holds_above [] b = (b, refl, up_to_self b.at)
holds_above (f ∷ fs) b = go (holds_above fs f) (holds_above fs b) (up_to b.at f.at) refl
  where
    go : (c : Timed) × (fold later (Some f) fs ≡ Some c) × IsUpTo f.at c.at → (c : Timed) × (fold later (Some b) fs ≡ Some c) × IsUpTo b.at c.at
        → (a : Bool) → up_to b.at f.at ≡ a → (c : Timed) × (fold later (if a then Some f else Some b) fs ≡ Some c) × IsUpTo b.at c.at
    go r q true p = (r.0, r.1, up_to_trans b.at f.at r.0.at p r.2)
    go r q false p = q

in_above : (ts : List Timed) (o : Option Timed) (e : Timed) → IsIn e ts → (c : Timed) × (fold later o ts ≡ Some c) × IsUpTo e.at c.at
in_above [] o e m = absurd m
in_above (f ∷ fs) None e (inl q) = let r = holds_above fs f in (r.0, r.1, subst (λ (w : Timed). IsUpTo w.at r.0.at) (sym q) r.2)
in_above (f ∷ fs) (Some b) e (inl q) = go (up_to b.at f.at) refl
  where
    go : (a : Bool) → up_to b.at f.at ≡ a → (c : Timed) × (fold later (if a then Some f else Some b) fs ≡ Some c) × IsUpTo e.at c.at
    go true p = let r = holds_above fs f in (r.0, r.1, subst (λ (w : Timed). IsUpTo w.at r.0.at) (sym q) r.2)
    go false p = let r = holds_above fs b in (r.0, r.1, subst (λ (w : Timed). IsUpTo w.at r.0.at) (sym q) (up_to_trans f.at b.at r.0.at (up_to_total f.at b.at p) r.2))
in_above (f ∷ fs) o e (inr m) = in_above fs (later o f) e m

-- one that an earlier one of the list is later than may be left out, where that passes the test if
-- it does
pub without_front : (test : Timed → Bool) (front back : List Timed) (d e : Timed) → IsIn e front → up_to e.at d.at ≡ false → (test d ≡ true → test e ≡ true) → latest (filter test (front ++ d ∷ back)) ≡ latest (filter test (front ++ back))
without_front test front back d e m h goes = ap latest (filter_append test front (d ∷ back)) ∙ by_test (test d) refl ∙ sym (ap latest (filter_append test front back))
  where
    stays : (o : Option Timed) → (b : Timed) × (o ≡ Some b) × IsUpTo e.at b.at → later o d ≡ o
    stays None r = absurd (none_some r.1)
    stays (Some b) r = ap (λ (c : Bool). if c then Some d else Some b) (by_up (up_to b.at d.at) refl)
      where
        by_up : (c : Bool) → up_to b.at d.at ≡ c → up_to b.at d.at ≡ false
        by_up true p = absurd (true≢false (sym (up_to_trans e.at b.at d.at (subst (λ (w : Timed). IsUpTo e.at w.at) (sym (some_same r.1)) r.2) p) ∙ h))
        by_up false p = p

    by_test : (b : Bool) → test d ≡ b → latest (filter test front ++ cond b (d ∷ filter test back) (filter test back)) ≡ latest (filter test front ++ filter test back)
    by_test true p = fold-append later None (filter test front) (d ∷ filter test back)
        ∙ ap (λ (o : Option Timed). fold later o (filter test back)) (stays (latest (filter test front)) (in_above (filter test front) None e (filter_in test e front m (goes p))))
        ∙ sym (fold-append later None (filter test front) (filter test back))
    by_test false p = refl
