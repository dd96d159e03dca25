-- What may be given up of outputs in any order, and how many are left then.
use Rattle.std.proofs.Common.{◌≡◌, ◌⊎◌, inl, inr, ℕ, zero, suc, ◌+◌, ◌<◌, ◌≤◌, ℤ, Bool, true, false, not, ◌&&◌, ◌||◌, cond, if◌then◌else◌, List, [], ◌∷◌, ◌++◌, length, map, filter, get_or, nat_lt, Option, Some, None, refl, sym, ap, subst, ◌∙◌, arith, true≢false, int_lt, int_le}
use Rattle.std.specs.List.{list_all, remove}
use Rattle.std.proofs.lemmas.List.{length-map}
use Rattle.mk_base.specs.declared.tier.Tier.{Tier}
use Rattle.mk_base.specs.declared.tier.Via.{Via}
use Rattle.mk_base.specs.declared.tier.Via.TheVariants.{Plain}
use Rattle.mk_base.specs.Lists.{IsIn}
use Rattle.mk_base.specs.Tiers.{delayed, up_to, IsUpTo}
use Rattle.mk_base.proofs.TierOrder.{up_to_total, up_to_trans}
use Rattle.mk_base.proofs.Lists.{map_append, map_in, below_get, get_is}
use Rattle.mk_plan.specs.Deliveries.{Timed}
use Rattle.mk_plan.specs.Inputs.{latest, is_since}
use Rattle.mk_buffers_log.specs.Logs.{arrival, arrivals, by, is_in_time, is_settled, IsFew, AnswersFrom, within}
use Rattle.mk_buffers_log.specs.inner.Logs.{does_come, is_outdone, IsNewestAt, IsOutdoneAt, IsSpare, IsNeeded}
use Rattle.mk_buffers_log.proofs.Latest.{without, without_front}
use Rattle.mk_buffers_log.proofs.Ascending.{list_all_in, comes_in_time, filter_both, since_later, or_either}
use Rattle.mk_buffers_log.proofs.Fitting.{AreApart, fitting, sum_ones}
use Rattle.mk_base.proofs.Counts.{less_test, none_below}
use Rattle.mk_base.proofs.Bools.{not_true, and_holds, both_hold}

-- ---- which of two counts

module _ (v : Via) (until : Option ℤ) (mark : Tier) where
  outdone_behind : (x y : Tier) (p q : ℕ) → p < q → is_outdone v until mark x y p q ≡ does_come v until mark y && up_to (delayed x v) (delayed y v)
  outdone_behind x y p q h = λ i. does_come v until mark y && (if none_below q p (omega (arith, h)) i then not (up_to (delayed y v) (delayed x v)) else less_test p q h i && up_to (delayed x v) (delayed y v))

  outdone_before : (x y : Tier) (p q : ℕ) → q < p → is_outdone v until mark x y p q ≡ does_come v until mark y && not (up_to (delayed y v) (delayed x v))
  outdone_before x y p q h = λ i. does_come v until mark y && (if less_test q p h i then not (up_to (delayed y v) (delayed x v)) else nat_lt p q && up_to (delayed x v) (delayed y v))

  outdone_here : (x y : Tier) (p : ℕ) → is_outdone v until mark x y p p ≡ false
  outdone_here x y p = (λ i. does_come v until mark y && (if none_below p p (omega arith) i then not (up_to (delayed y v) (delayed x v)) else none_below p p (omega arith) i && up_to (delayed x v) (delayed y v))) ∙ none (does_come v until mark y)
    where
      none : (b : Bool) → b && false ≡ false
      none true = refl
      none false = refl

  -- of one list only one is the newest
  only : (ts : List Timed) (d : Timed) (p q : ℕ) → p < q → q < length ts → IsNewestAt v until mark ts p → IsNewestAt v until mark ts q → ⊥
  only ts d p q h there f g =
      let x : Tier = (get_or ts p d).at in
      let y : Tier = (get_or ts q d).at in
      let one : up_to (delayed x v) (delayed y v) ≡ false = sym (ap (λ (b : Bool). b && up_to (delayed x v) (delayed y v)) (g.comes d)) ∙ sym (outdone_behind x y p q h) ∙ f.best q d there in
      let two : not (up_to (delayed x v) (delayed y v)) ≡ false = sym (ap (λ (b : Bool). b && not (up_to (delayed x v) (delayed y v))) (f.comes d)) ∙ sym (outdone_before y x q p h) ∙ g.best p d (omega (arith, h, there)) in
      true≢false (sym (ap not one) ∙ two)

-- ---- one that is spare may go

place_split : (ts : List Timed) (p : ℕ) (d : Timed) → p < length ts
    → (front : List Timed) × (back : List Timed) × (ts ≡ front ++ get_or ts p d ∷ back) × (remove ts p ≡ front ++ back) × ((q : ℕ) → q < p → IsIn (get_or ts q d) front) × ((q : ℕ) → p < q → q < length ts → IsIn (get_or ts q d) back)
place_split [] p d there = absurd (omega arith)
place_split (t ∷ ts) zero d there = ([], ts, refl, refl, (λ q low. absurd (omega arith)), λ q low below. behind ts q low below)
  where
    within_it : (us : List Timed) (q : ℕ) → q < length us → IsIn (get_or us q d) us
    within_it [] q below = absurd (omega arith)
    within_it (u ∷ us) zero below = inl refl
    within_it (u ∷ us) (suc q) below = inr (within_it us q (omega arith))

    behind : (us : List Timed) (q : ℕ) → 0 < q → q < length (t ∷ us) → IsIn (get_or (t ∷ us) q d) us
    behind us zero low below = absurd (omega arith)
    behind us (suc q) low below = within_it us q (omega arith)
place_split (t ∷ ts) (suc p) d there = let r = place_split ts p d (omega arith) in (
  t ∷ r.0,
  r.1,
  ap (λ (l : List Timed). t ∷ l) r.2,
  ap (λ (l : List Timed). t ∷ l) r.3,
  front r.0 r.4,
  λ q low below. back r.1 r.5 q low below,
)
  where
    front : (f : List Timed) → ((q : ℕ) → q < p → IsIn (get_or ts q d) f) → (q : ℕ) → q < suc p → IsIn (get_or (t ∷ ts) q d) (t ∷ f)
    front f h zero low = inl refl
    front f h (suc q) low = inr (h q (omega arith))

    back : (b : List Timed) → ((q : ℕ) → p < q → q < length ts → IsIn (get_or ts q d) b) → (q : ℕ) → suc p < q → q < length (t ∷ ts) → IsIn (get_or (t ∷ ts) q d) b
    back b h zero low below = absurd (omega arith)
    back b h (suc q) low below = h q (omega arith) (omega arith)

-- one of a list that fails the test may be left out
without_failing : (test : Timed → Bool) (front back : List Timed) (d : Timed) → test d ≡ false → filter test (front ++ d ∷ back) ≡ filter test (front ++ back)
without_failing test [] back d h = ap (λ (b : Bool). cond b (d ∷ filter test back) (filter test back)) h
without_failing test (f ∷ fs) back d h = ap (λ (l : List Timed). cond (test f) (f ∷ l) l) (without_failing test fs back d h)

order_of : (p q : ℕ) → (p < q) ⊎ ((q < p) ⊎ (p ≡ q))
order_of p q = grind arith

module _ (vias : List Via) (until : ℤ) (mark : Tier) where
  module _ (ts : List Timed) (p : ℕ) (d : Timed) (there : p < length ts) (is : d ≡ get_or ts p d) (spare : IsSpare vias until mark ts p) where
    abbrev parts : (front : List Timed) × (back : List Timed) × (ts ≡ front ++ get_or ts p d ∷ back) × (remove ts p ≡ front ++ back) × ((q : ℕ) → q < p → IsIn (get_or ts q d) front) × ((q : ℕ) → p < q → q < length ts → IsIn (get_or ts q d) back)
    parts = place_split ts p d there

    abbrev front : List Timed
    front = parts.0

    abbrev back : List Timed
    back = parts.1

    whole : ts ≡ front ++ d ∷ back
    whole = parts.2 ∙ ap (λ (t : Timed). front ++ t ∷ back) (sym is)

    settled : (up_to d.at mark ≡ true) × (list_all (λ v. up_to (delayed d.at v) mark || int_le until (delayed d.at v).time) vias ≡ true)
    settled = both_hold (up_to d.at mark) (list_all (λ v. up_to (delayed d.at v) mark || int_le until (delayed d.at v).time) vias)
        (subst (λ (t : Timed). is_settled vias until mark t.at ≡ true) (sym is) (spare.settled d))

    -- it may be left out of what a connection delivers, where another counts rather than it, and
    -- passes the test if it does
    left_out : (v : Via) (ends : Option ℤ) (test : Timed → Bool) → does_come v ends mark d.at ≡ true → IsOutdoneAt v ends mark ts p
        → ((e : Timed) → does_come v ends mark e.at ≡ true → up_to (delayed d.at v) (delayed e.at v) ≡ true → test (arrival v d) ≡ true → test (arrival v e) ≡ true)
        → latest (filter test (map (arrival v) (front ++ d ∷ back))) ≡ latest (filter test (map (arrival v) (front ++ back)))
    left_out v ends test comes outdone goes =
        let o = outdone d (subst (λ (t : Timed). does_come v ends mark t.at ≡ true) is comes) in
        let done : is_outdone v ends mark d.at (get_or ts o.0 d).at p o.0 ≡ true = subst (λ (t : Timed). is_outdone v ends mark t.at (get_or ts o.0 d).at p o.0 ≡ true) (sym is) o.2 in
        ap (λ (l : List Timed). latest (filter test l)) (map_append (arrival v) front (d ∷ back)) ∙ by o.0 o.1 done (order_of p o.0)
        ∙ sym (ap (λ (l : List Timed). latest (filter test l)) (map_append (arrival v) front back))
      where
        by : (q : ℕ) → q < length ts → is_outdone v ends mark d.at (get_or ts q d).at p q ≡ true → (p < q) ⊎ ((q < p) ⊎ (p ≡ q))
            → latest (filter test (map (arrival v) front ++ arrival v d ∷ map (arrival v) back)) ≡ latest (filter test (map (arrival v) front ++ map (arrival v) back))
        by q below done (inl low) =
            let e : Timed = get_or ts q d in
            let both = both_hold (does_come v ends mark e.at) (up_to (delayed d.at v) (delayed e.at v)) (sym (outdone_behind v ends mark d.at e.at p q low) ∙ done) in
            without test (map (arrival v) front) (map (arrival v) back) (arrival v d) (arrival v e) (map_in (arrival v) e back (parts.5 q low below)) both.1 (goes e both.0 both.1)
        by q below done (inr (inl high)) =
            let e : Timed = get_or ts q d in
            let both = both_hold (does_come v ends mark e.at) (not (up_to (delayed e.at v) (delayed d.at v))) (sym (outdone_before v ends mark d.at e.at p q high) ∙ done) in
            let less = not_true (up_to (delayed e.at v) (delayed d.at v)) both.1 in
            without_front test (map (arrival v) front) (map (arrival v) back) (arrival v d) (arrival v e) (map_in (arrival v) e front (parts.4 q high)) less (goes e both.0 (up_to_total (delayed d.at v) (delayed e.at v) less))
        by q below done (inr (inr same)) = absurd (true≢false (sym done ∙ sym (ap (is_outdone v ends mark d.at (get_or ts q d).at p) same) ∙ outdone_here v ends mark d.at (get_or ts q d).at p))

    as_plain : (l : List Timed) → map (arrival Plain) l ≡ l
    as_plain [] = refl
    as_plain (t ∷ l) = ap (λ (m : List Timed). t ∷ m) (as_plain l)

    spare_made : (x : Tier) → IsUpTo mark x → latest (by x (remove ts p)) ≡ latest (by x ts)
    spare_made x h = ap (λ (l : List Timed). latest (by x l)) (parts.3 ∙ sym (as_plain (front ++ back)))
        ∙ sym (left_out Plain None (λ t. up_to t.at x) (and_holds (up_to d.at mark) true settled.0 refl) spare.made (λ e c l k. up_to_trans e.at mark x (both_hold (up_to e.at mark) true c).0 h))
        ∙ ap (λ (l : List Timed). latest (by x l)) (as_plain (front ++ d ∷ back) ∙ sym whole)

    -- what a question about deliveries may choose
    abbrev passes : Bool → Option Tier → Tier → Timed → Bool
    passes all from x y = is_in_time (Some until) y.at && within all from x y

    spare_arrived : (v : Via) → IsIn v vias → (all : Bool) (from : Option Tier) (x : Tier) → IsUpTo mark x → latest (filter (within all from x) (arrivals v (Some until) (remove ts p))) ≡ latest (filter (within all from x) (arrivals v (Some until) ts))
    spare_arrived v m all from x h = ap (λ (l : List Timed). latest (filter (within all from x) (arrivals v (Some until) l))) parts.3
        ∙ ap latest (filter_both (within all from x) (λ y. is_in_time (Some until) y.at) (map (arrival v) (front ++ back)))
        ∙ sym (go (int_lt (delayed d.at v).time until) refl)
        ∙ sym (ap latest (filter_both (within all from x) (λ y. is_in_time (Some until) y.at) (map (arrival v) (front ++ d ∷ back))))
        ∙ ap (λ (l : List Timed). latest (filter (within all from x) (arrivals v (Some until) l))) (sym whole)
      where
        go : (b : Bool) → int_lt (delayed d.at v).time until ≡ b → latest (filter (passes all from x) (map (arrival v) (front ++ d ∷ back))) ≡ latest (filter (passes all from x) (map (arrival v) (front ++ back)))
        go true ends = left_out v (Some until) (passes all from x)
            (and_holds (up_to (delayed d.at v) mark) (int_lt (delayed d.at v).time until) (comes_in_time (up_to (delayed d.at v) mark) (delayed d.at v) until (list_all_in (λ v. up_to (delayed d.at v) mark || int_le until (delayed d.at v).time) vias v settled.1 m) ends) ends)
            (spare.arrived v m)
            (λ e c l k.
            let a = both_hold (int_lt (delayed d.at v).time until) (within all from x (arrival v d)) k in
            let b = both_hold (up_to (delayed d.at v) x) (all || is_since from (delayed d.at v)) a.1 in
            let come = both_hold (up_to (delayed e.at v) mark) (int_lt (delayed e.at v).time until) c in
            and_holds (int_lt (delayed e.at v).time until) (within all from x (arrival v e)) come.1
            (and_holds (up_to (delayed e.at v) x) (all || is_since from (delayed e.at v)) (up_to_trans (delayed e.at v) mark x come.0 h)
            (or_either all (is_since from (delayed d.at v)) (is_since from (delayed e.at v)) (since_later from (delayed d.at v) (delayed e.at v) l) b.1)))
        go false ends = ap latest (ap (filter (passes all from x)) (map_append (arrival v) front (d ∷ back)) ∙ without_failing (passes all from x) (map (arrival v) front) (map (arrival v) back) (arrival v d) (ap (λ (b : Bool). b && within all from x (arrival v d)) ends)
            ∙ sym (ap (filter (passes all from x)) (map_append (arrival v) front back)))

    spare_answers : (all new : List Timed) → new ≡ remove ts p → AnswersFrom vias until mark ts all → AnswersFrom vias until mark new all
    spare_answers all new gone f = subst (λ (l : List Timed). AnswersFrom vias until mark l all) (sym gone) (record {
      made = λ x h. spare_made x h ∙ f.made x h;
      arrived = λ v m any from x h. spare_arrived v m any from x h ∙ f.arrived v m any from x h;
    })

  pub spare_drop : (ts all new : List Timed) (p : ℕ) → p < length ts → IsSpare vias until mark ts p → new ≡ remove ts p → AnswersFrom vias until mark ts all → AnswersFrom vias until mark new all
  spare_drop ts all new p there spare gone f = let d = below_get ts p there in spare_answers ts p d.0 there (sym (get_is ts p d.0 d.1).1) spare all new gone f

  -- ---- how many are left

  -- those before the place are needed
  abbrev pub IsSifted : List Timed → ℕ → Type 0
  IsSifted ts p = (k : ℕ) → k < p → IsNeeded vias until mark ts k

  pub sifted_more : (ts : List Timed) (p : ℕ) → IsNeeded vias until mark ts p → IsSifted ts p → IsSifted ts (p + 1)
  sifted_more ts p needed sifted k low = go (order_of k p)
    where
      go : (k < p) ⊎ ((p < k) ⊎ (k ≡ p)) → IsNeeded vias until mark ts k
      go (inl l) = sifted k l
      go (inr (inl l)) = absurd (omega (arith, l, low))
      go (inr (inr q)) = subst (IsNeeded vias until mark ts) (sym q) needed

  before_same : (ts : List Timed) (p k : ℕ) (d : Timed) → k < p → get_or (remove ts p) k d ≡ get_or ts k d
  before_same [] zero k d low = absurd (omega arith)
  before_same [] (suc p) k d low = refl
  before_same (t ∷ ts) zero k d low = absurd (omega arith)
  before_same (t ∷ ts) (suc p) zero d low = refl
  before_same (t ∷ ts) (suc p) (suc k) d low = before_same ts p k d (omega arith)

  behind_same : (ts : List Timed) (p k : ℕ) (d : Timed) → p ≤ k → get_or (remove ts p) k d ≡ get_or ts (suc k) d
  behind_same [] zero k d low = refl
  behind_same [] (suc p) k d low = refl
  behind_same (t ∷ ts) zero k d low = refl
  behind_same (t ∷ ts) (suc p) zero d low = absurd (omega arith)
  behind_same (t ∷ ts) (suc p) (suc k) d low = behind_same ts p k d (omega arith)

  newest_stays : (v : Via) (ends : Option ℤ) (ts : List Timed) (p k : ℕ) → k < p → length (remove ts p) + 1 ≡ length ts → IsNewestAt v ends mark ts k → IsNewestAt v ends mark (remove ts p) k
  newest_stays v ends ts p k low count f = record {
    comes = λ d. subst (λ (t : Timed). does_come v ends mark t.at ≡ true) (sym (before_same ts p k d low)) (f.comes d);
    best = λ q d below. subst (λ (t : Timed). is_outdone v ends mark t.at (get_or (remove ts p) q d).at k q ≡ false) (sym (before_same ts p k d low)) (go q d below (order_of q p));
  }
    where
      go : (q : ℕ) (d : Timed) → q < length (remove ts p) → (q < p) ⊎ ((p < q) ⊎ (q ≡ p)) → is_outdone v ends mark (get_or ts k d).at (get_or (remove ts p) q d).at k q ≡ false
      go q d below (inl l) = subst (λ (t : Timed). is_outdone v ends mark (get_or ts k d).at t.at k q ≡ false) (sym (before_same ts p q d l)) (f.best q d (omega (arith, below, count)))
      go q d below (inr r) =
          let high : p ≤ q = elim r [ inl l ↦ omega (arith, l) | inr e ↦ omega (arith, e) ] in
          subst (λ (t : Timed). is_outdone v ends mark (get_or ts k d).at t.at k q ≡ false) (sym (behind_same ts p q d high))
          (outdone_behind v ends mark (get_or ts k d).at (get_or ts (suc q) d).at k q (omega (arith, low, high)) ∙ sym (outdone_behind v ends mark (get_or ts k d).at (get_or ts (suc q) d).at k (suc q) (omega (arith, low, high))) ∙ f.best (suc q) d (omega (arith, below, count)))

  pub sifted_drop : (ts new : List Timed) (p : ℕ) → new ≡ remove ts p → length new + 1 ≡ length ts → IsSifted ts p → IsSifted new p
  sifted_drop ts new p gone count sifted = subst (λ (l : List Timed). IsSifted l p) (sym gone) (λ k low d s.
      elim (sifted k low d (subst (λ (t : Timed). is_settled vias until mark t.at ≡ true) (before_same ts p k d low) s)) [
        | inl f ↦ inl (newest_stays Plain None ts p k low less f)
        | inr f ↦ inr (f.0, f.1, newest_stays f.0 (Some until) ts p k low less f.2)
      ])
    where
      less : length (remove ts p) + 1 ≡ length ts
      less = subst (λ (l : List Timed). length l + 1 ≡ length ts) gone count

  -- the places at which a test holds, counted from a number on
  abbrev places : (Timed → Bool) → ℕ → List Timed → List ℕ
  places test n [] = []
  places test n (t ∷ ts) = cond (test t) (n ∷ places test (suc n) ts) (places test (suc n) ts)

  places_count : (test : Timed → Bool) (n : ℕ) (ts : List Timed) → length (places test n ts) ≡ length (filter test ts)
  places_count test n [] = refl
  places_count test n (t ∷ ts) = go (places_count test (suc n) ts) (test t)
    where
      go : length (places test (suc n) ts) ≡ length (filter test ts) → (b : Bool) → length (cond b (n ∷ places test (suc n) ts) (places test (suc n) ts)) ≡ length (cond b (t ∷ filter test ts) (filter test ts))
      go rest true = omega (arith, rest)
      go rest false = rest

  abbrev IsPlace : (Timed → Bool) → ℕ → List Timed → ℕ → Timed → Type 0
  IsPlace test n ts k d = (j : ℕ) × (k ≡ n + j) × (j < length ts) × (test (get_or ts j d) ≡ true)

  place_in : (test : Timed → Bool) (n : ℕ) (ts : List Timed) (k : ℕ) (d : Timed) → IsIn k (places test n ts) → IsPlace test n ts k d
  place_in test n [] k d m = absurd m
  place_in test n (t ∷ ts) k d m = go (λ r. place_in test (suc n) ts k d r) (test t) refl m
    where
      later : IsPlace test (suc n) ts k d → IsPlace test n (t ∷ ts) k d
      later i = (suc i.0, omega (arith, i.1), omega (arith, i.2), i.3)

      go : (IsIn k (places test (suc n) ts) → IsPlace test (suc n) ts k d) → (b : Bool) → test t ≡ b → IsIn k (cond b (n ∷ places test (suc n) ts) (places test (suc n) ts)) → IsPlace test n (t ∷ ts) k d
      go more true e (inl q) = (0, omega (arith, q), omega arith, e)
      go more true e (inr r) = later (more r)
      go more false e r = later (more r)

  abbrev questions : List (Via × Option ℤ)
  questions = (Plain, None) ∷ map (λ v. (v, Some until)) vias

  module _ (ts : List Timed) where
    abbrev Newest : ℕ → Via × Option ℤ → Type 0
    Newest k q = (k < length ts) × IsNewestAt q.0 q.1 mark ts k

    apart_from : (test : Timed → Bool) (n : ℕ) (us : List Timed) → AreApart Newest (places test n us)
    apart_from test n [] = tt
    apart_from test n (u ∷ us) = go (apart_from test (suc n) us) (test u)
      where
        go : AreApart Newest (places test (suc n) us) → (b : Bool) → AreApart Newest (cond b (n ∷ places test (suc n) us) (places test (suc n) us))
        go rest true = ((λ k q m f g. let i = place_in test (suc n) us k u m in only q.0 q.1 mark ts u n k (omega (arith, i.1)) g.0 f.1 g.1), rest)
        go rest false = rest

    pub few_sifted : (p : ℕ) → length ts ≤ p → IsSifted ts p → IsFew vias until mark ts
    few_sifted p all sifted = go ts refl
      where
        asked : (d : Timed) (k : ℕ) → IsIn k (places (λ t. is_settled vias until mark t.at) 0 ts) → (q : Via × Option ℤ) × IsIn q questions × Newest k q
        asked d k m =
            let i = place_in (λ t. is_settled vias until mark t.at) 0 ts k d m in
            let below : k < length ts = omega (arith, i.1, i.2) in
            let same : i.0 ≡ k = omega (arith, i.1) in
            elim (sifted k (omega (arith, below, all)) d (subst (λ (j : ℕ). is_settled vias until mark (get_or ts j d).at ≡ true) same i.3)) [
              | inl f ↦ ((Plain, None), inl refl, (below, f))
              | inr f ↦ ((f.0, Some until), inr (map_in (λ v. (v, Some until)) f.0 vias f.1), (below, f.2))
            ]

        go : (us : List Timed) → us ≡ ts → IsFew vias until mark ts
        go [] q = subst (IsFew vias until mark) q (omega arith)
        go (u ∷ us) q =
            let most = fitting Newest (λ k. 1) (λ q. 1) (λ k q f. omega arith) (places (λ t. is_settled vias until mark t.at) 0 ts) questions (apart_from (λ t. is_settled vias until mark t.at) 0 ts) (asked u) in
            omega (arith, most, sum_ones (places (λ t. is_settled vias until mark t.at) 0 ts), sum_ones questions, places_count (λ t. is_settled vias until mark t.at) 0 ts, length-map {B = Via × Option ℤ} vias (λ v. (v, Some until)))
