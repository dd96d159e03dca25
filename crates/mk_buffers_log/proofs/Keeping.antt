-- How many outputs a walk that gives up what is overtaken leaves, and until which mark no more of
-- them may be given up.
use Rattle.std.proofs.Common.{◌≡◌, ◌⊎◌, inl, inr, ℕ, zero, suc, ◌+◌, ◌<◌, ◌≤◌, ℤ, Bool, true, false, ◌&&◌, ◌||◌, cond, List, [], ◌∷◌, ◌++◌, length, filter, get_or, take, Option, Some, refl, sym, ap, subst, ◌∙◌, arith, true≢false, int_lt, int_le, length-append}
use Rattle.std.proofs.lemmas.List.{take_all, take_more}
use Rattle.std.specs.List.{list_all, remove, insert}
use Rattle.std.specs.List.Sorted.{IsPartitionPoint}
use Rattle.std.proofs.lemmas.Int.{ints}
use Rattle.mk_base.specs.declared.tier.Tier.{Tier}
use Rattle.mk_base.specs.declared.tier.Via.{Via}
use Rattle.mk_base.specs.Lists.{IsIn}
use Rattle.mk_base.specs.Tiers.{delayed, up_to, IsUpTo}
use Rattle.mk_base.proofs.TierOrder.{up_to_trans, delayed_keeps}
use Rattle.mk_base.proofs.Lists.{filter_append, in_at, at_in, get_is}
use Rattle.mk_buffers_log.proofs.Places.{get_some}
use Rattle.mk_plan.specs.Deliveries.{Timed}
use Rattle.mk_buffers_log.specs.Logs.{is_settled, is_due, IsAmong, IsFew, StaysFew}
use Rattle.mk_buffers_log.specs.inner.Logs.{does_come, comes_with, IsAscending, IsBehind, is_overtaken, IsRest}
use Rattle.mk_buffers_log.proofs.Ascending.{ascending_at, anything, get_or_any, list_all_in, comes_downward, comes_in_time, IsDownward}
use Rattle.mk_base.proofs.Counts.{at_most_one, before_end, one_less}
use Rattle.mk_base.proofs.Bools.{and_holds, both_hold}

-- ---- which are among which

pub among_self : (ts : List Timed) → IsAmong ts ts
among_self ts test = omega arith

pub among_trans : (ks ls ms : List Timed) → IsAmong ks ls → IsAmong ls ms → IsAmong ks ms
among_trans ks ls ms f g test = omega (arith, f test, g test)

more : (test : Timed → Bool) (ts : List Timed) (t : Timed) → length (filter test (ts ++ t ∷ [])) ≡ length (filter test ts) + cond (test t) 1 0
more test ts t = ap length (filter_append test ts (t ∷ [])) ∙ length-append (filter test ts) (filter test (t ∷ [])) ∙ ap (λ (n : ℕ). length (filter test ts) + n) (one (test t))
  where
    one : (b : Bool) → length (cond b (t ∷ []) []) ≡ cond b 1 0
    one true = refl
    one false = refl

pub among_more : (ts : List Timed) (t : Timed) → IsAmong ts (ts ++ t ∷ [])
among_more ts t test = omega (arith, more test ts t)

pub among_back : (ts now new : List Timed) (t : Timed) → ts ≡ now → new ≡ ts ++ t ∷ [] → IsAmong new (now ++ t ∷ [])
among_back ts now new t same is = subst (λ (l : List Timed). IsAmong l (now ++ t ∷ [])) (sym (is ∙ ap (λ (l : List Timed). l ++ t ∷ []) same)) (among_self (now ++ t ∷ []))

pub among_push : (ks hs : List Timed) (t : Timed) → IsAmong ks hs → IsAmong (ks ++ t ∷ []) (hs ++ t ∷ [])
among_push ks hs t f test = rw (more test ks t, more test hs t) (omega (arith, f test))

-- one more of a kind
grown : (b : Bool) (t : Timed) (ts : List Timed) → length (cond b (t ∷ ts) ts) ≡ length ts + cond b 1 0
grown true t ts = omega arith
grown false t ts = omega arith

inserted : (test : Timed → Bool) (ts : List Timed) (p : ℕ) (t : Timed) → length (filter test (insert ts p t)) ≡ length (filter test ts) + cond (test t) 1 0
inserted test [] zero t = grown (test t) t []
inserted test [] (suc p) t = grown (test t) t []
inserted test (u ∷ us) zero t = grown (test t) t (filter test (u ∷ us))
inserted test (u ∷ us) (suc p) t = grown (test u) u (filter test (insert us p t)) ∙ (omega (arith, inserted test us p t, grown (test u) u (filter test us)))

pub among_insert : (ts new : List Timed) (p : ℕ) (t : Timed) → new ≡ insert ts p t → IsAmong new (ts ++ t ∷ [])
among_insert ts new p t is test = rw (is, inserted test ts p t, more test ts t) (omega arith)

pub among_remove : (ts : List Timed) (p : ℕ) → IsAmong (remove ts p) ts
among_remove [] zero test = omega arith
among_remove [] (suc p) test = omega arith
among_remove (t ∷ ts) zero test = omega (arith, grown (test t) t (filter test ts))
among_remove (t ∷ ts) (suc p) test = omega (arith, grown (test t) t (filter test ts), grown (test t) t (filter test (remove ts p)), among_remove ts p test)

pub few_among : (vias : List Via) (until : ℤ) (mark : Tier) (ks hs : List Timed) → IsAmong ks hs → IsFew vias until mark hs → IsFew vias until mark ks
few_among vias until mark ks hs f few = omega (arith, few, f (λ t. is_settled vias until mark t.at))

-- where each that passes one test passes another
pub implied : (f g : Timed → Bool) (ts : List Timed) → ((t : Timed) → IsIn t ts → f t ≡ true → g t ≡ true) → length (filter f ts) ≤ length (filter g ts)
implied f g [] h = omega arith
implied f g (t ∷ ts) h = go (implied f g ts (λ u m. h u (inr m))) (f t) (g t) refl refl
  where
    go : length (filter f ts) ≤ length (filter g ts) → (a b : Bool) → f t ≡ a → g t ≡ b → length (cond a (t ∷ filter f ts) (filter f ts)) ≤ length (cond b (t ∷ filter g ts) (filter g ts))
    go rest true true p q = omega (arith, rest)
    go rest true false p q = absurd (true≢false (sym (h t (inl refl) p) ∙ q))
    go rest false true p q = omega (arith, rest)
    go rest false false p q = rest

-- what is settled has come by each of the delays, or never comes before the run's end
pub settled_at : (vs : List Via) (i : ℕ) (v : Via) (until : ℤ) (m x : Tier) → i < length vs → v ≡ get_or vs i v → is_settled vs until m x ≡ true → up_to (delayed x v) m || int_le until (delayed x v).time ≡ true
settled_at vs i v until m x there is s = list_all_in (λ v. up_to (delayed x v) m || int_le until (delayed x v).time) vs v (both_hold (up_to x m) (list_all (λ v. up_to (delayed x v) m || int_le until (delayed x v).time) vs) s).1 (at_in v vs i (get_some vs i v there is))

-- ---- how many questions at the mark an output may answer

abbrev pub alive : List Via → ℤ → Tier → Tier → ℕ
alive [] until mark x = cond (up_to x mark) 1 0
alive (v ∷ vs) until mark x = cond (does_come v (Some until) mark x) 1 0 + alive vs until mark x

alive_most : (vias : List Via) (until : ℤ) (mark x : Tier) → alive vias until mark x ≤ length vias + 1
alive_most [] until mark x = at_most_one (up_to x mark)
alive_most (v ∷ vs) until mark x = omega (arith, at_most_one (does_come v (Some until) mark x), alive_most vs until mark x)

alive_some : (vias : List Via) (until : ℤ) (mark x : Tier) → up_to x mark ≡ true → 1 ≤ alive vias until mark x
alive_some [] until mark x h = rw h (omega arith)
alive_some (v ∷ vs) until mark x h = omega (arith, alive_some vs until mark x h)

alive_falls : (vias : List Via) (until : ℤ) (mark x y : Tier) → IsUpTo x y → alive vias until mark y ≤ alive vias until mark x
alive_falls [] until mark x y h = one_less (up_to y mark) (up_to x mark) (λ k. up_to_trans x y mark h k)
alive_falls (v ∷ vs) until mark x y h = omega (arith, one_less (does_come v (Some until) mark y) (does_come v (Some until) mark x) (λ k. comes_downward v (Some until) mark x y h k), alive_falls vs until mark x y h)

alive_made : (vias : List Via) (until : ℤ) (mark x y : Tier) → IsUpTo x y → up_to x mark ≡ true → up_to y mark ≡ false → alive vias until mark y + 1 ≤ alive vias until mark x
alive_made [] until mark x y h p q = rw (p, q) (omega arith)
alive_made (v ∷ vs) until mark x y h p q = omega (arith, one_less (does_come v (Some until) mark y) (does_come v (Some until) mark x) (λ k. comes_downward v (Some until) mark x y h k), alive_made vs until mark x y h p q)

abbrev counted : Bool → ℕ
counted b = cond b 1 0

alive_come : (vias : List Via) (until : ℤ) (mark x y : Tier) → IsUpTo x y → list_all (λ v. up_to (delayed x v) mark || int_le until (delayed x v).time) vias ≡ true
    → list_all (λ v. does_come v (Some until) mark y || int_le until (delayed x v).time) vias ≡ false → alive vias until mark y + 1 ≤ alive vias until mark x
alive_come [] until mark x y h p q = absurd (true≢false q)
alive_come (v ∷ vs) until mark x y h p q = go (λ r. alive_come vs until mark x y h parts.1 r) (does_come v (Some until) mark y) (int_le until (delayed x v).time) refl refl
  where
    parts : (up_to (delayed x v) mark || int_le until (delayed x v).time ≡ true) × (list_all (λ v. up_to (delayed x v) mark || int_le until (delayed x v).time) vs ≡ true)
    parts = both_hold (up_to (delayed x v) mark || int_le until (delayed x v).time) (list_all (λ v. up_to (delayed x v) mark || int_le until (delayed x v).time) vs) p

    least : cond (does_come v (Some until) mark y) 1 0 ≤ cond (does_come v (Some until) mark x) 1 0
    least = one_less (does_come v (Some until) mark y) (does_come v (Some until) mark x) (λ k. comes_downward v (Some until) mark x y h k)

    rest : (list_all (λ v. does_come v (Some until) mark y || int_le until (delayed x v).time) vs ≡ false → alive vs until mark y + 1 ≤ alive vs until mark x)
        → does_come v (Some until) mark y || int_le until (delayed x v).time ≡ true → alive (v ∷ vs) until mark y + 1 ≤ alive (v ∷ vs) until mark x
    rest more k = let fewer = more (sym (ap (λ (b : Bool). b && list_all (λ v. does_come v (Some until) mark y || int_le until (delayed x v).time) vs) k) ∙ q) in omega (arith, least, fewer)

    go : (list_all (λ v. does_come v (Some until) mark y || int_le until (delayed x v).time) vs ≡ false → alive vs until mark y + 1 ≤ alive vs until mark x)
        → (a b : Bool) → does_come v (Some until) mark y ≡ a → int_le until (delayed x v).time ≡ b → alive (v ∷ vs) until mark y + 1 ≤ alive (v ∷ vs) until mark x
    go more true b e f = rest more (ap (λ (c : Bool). c || int_le until (delayed x v).time) e)
    go more false true e f = rest more (ap (λ (c : Bool). c || int_le until (delayed x v).time) e ∙ f)
    go more false false e f =
        let ends : int_lt (delayed x v).time until ≡ true = before_end (delayed x v) until f in
        let here : does_come v (Some until) mark x ≡ true = and_holds (up_to (delayed x v) mark) (int_lt (delayed x v).time until) (comes_in_time (up_to (delayed x v) mark) (delayed x v) until parts.0 ends) ends in
        let none : counted (does_come v (Some until) mark y) ≡ 0 = ap counted e in
        let one : counted (does_come v (Some until) mark x) ≡ 1 = ap counted here in
        omega (arith, none, one, alive_falls vs until mark x y h)

alive_less : (vias : List Via) (until : ℤ) (mark x y : Tier) → IsUpTo x y → is_settled vias until mark x ≡ true → is_overtaken vias until mark x y ≡ false → alive vias until mark y + 1 ≤ alive vias until mark x
alive_less vias until mark x y h settled over = go (up_to y mark) refl
  where
    parts : (up_to x mark ≡ true) × (list_all (λ v. up_to (delayed x v) mark || int_le until (delayed x v).time) vias ≡ true)
    parts = both_hold (up_to x mark) (list_all (λ v. up_to (delayed x v) mark || int_le until (delayed x v).time) vias) settled

    go : (b : Bool) → up_to y mark ≡ b → alive vias until mark y + 1 ≤ alive vias until mark x
    go true e = alive_come vias until mark x y h parts.1 (sym (ap (λ (b : Bool). b && list_all (λ v. does_come v (Some until) mark y || int_le until (delayed x v).time) vias) e) ∙ over)
    go false e = alive_made vias until mark x y h parts.0 e

-- ---- the walk

take_remove : (ts : List Timed) (p : ℕ) → take p (remove ts p) ≡ take p ts
take_remove [] zero = refl
take_remove [] (suc p) = refl
take_remove (t ∷ ts) zero = refl
take_remove (t ∷ ts) (suc p) = ap (λ (l : List Timed). t ∷ l) (take_remove ts p)

get_remove : (ts : List Timed) (p : ℕ) (d : Timed) → get_or (remove ts p) p d ≡ get_or ts (suc p) d
get_remove [] zero d = refl
get_remove [] (suc p) d = refl
get_remove (t ∷ ts) zero d = refl
get_remove (t ∷ ts) (suc p) d = get_remove ts p d

module _ (vias : List Via) (until : ℤ) (mark : Tier) where
  abbrev settled : Timed → Bool
  settled t = is_settled vias until mark t.at

  -- those before the place, and what the one there may answer
  pub record IsWalked (ts : List Timed) (p : ℕ) : Type 0 where
    pub few : (d : Timed) → p < length ts → length (filter (λ t. is_settled vias until mark t.at) (take p ts)) + alive vias until mark (get_or ts p d).at ≤ length vias + 1
    pub all : length ts ≤ p → IsFew vias until mark ts

  pub walked_none : (ts : List Timed) → IsWalked ts 0
  walked_none [] = record { few = λ d h. absurd (omega (arith, h)); all = λ h. omega arith }
  walked_none (t ∷ ts) = record { few = λ d h. omega (arith, alive_most vias until mark t.at); all = λ h. absurd (omega (arith, h)) }

  pub walked_drop : (ts new : List Timed) (p : ℕ) → IsAscending ts → p + 1 < length ts → new ≡ remove ts p → length new + 1 ≡ length ts → IsWalked ts p → IsWalked new p
  walked_drop ts new p up there gone count w = record {
    all = λ h. absurd (omega (arith, count, there, h));
    few = λ d h. rw (gone, take_remove ts p, get_remove ts p d)
        (omega (arith, w.few d (omega (arith, there)), alive_falls vias until mark (get_or ts p d).at (get_or ts (suc p) d).at (ascending_at ts p (suc p) d up (omega arith) (omega (arith, there)))));
  }

  next_count : (ts : List Timed) (p : ℕ) (d : Timed) → p < length ts → length (filter settled (take (p + 1) ts)) ≡ length (filter settled (take p ts)) + cond (settled (get_or ts p d)) 1 0
  next_count ts p d there = ap (λ (l : List Timed). length (filter settled l)) (take_more ts p d there) ∙ more settled (take p ts) (get_or ts p d)

  pub walked_next : (ts : List Timed) (p : ℕ) (d e : Timed) → IsAscending ts → p + 1 < length ts → d ≡ get_or ts p d → e ≡ get_or ts (p + 1) e → is_overtaken vias until mark d.at e.at ≡ false → IsWalked ts p → IsWalked ts (p + 1)
  walked_next ts p d e up there is next over w = record {
    all = λ h. absurd (omega (arith, h, there));
    few = λ f h. rw (next_count ts p f (omega (arith, there)), get_or_any ts (p + 1) f e there, sym next, get_or_any ts p f d (omega (arith, there)), sym is) (go (settled d) refl);
  }
    where
      less : IsUpTo d.at e.at
      less = subst (λ (w : Timed). IsUpTo w.at e.at) (sym is) (subst (λ (w : Timed). IsUpTo (get_or ts p d).at w.at) (get_or_any ts (p + 1) d e there ∙ sym next) (ascending_at ts p (p + 1) d up (omega arith) there))

      had : length (filter settled (take p ts)) + alive vias until mark d.at ≤ length vias + 1
      had = subst (λ (w : Timed). length (filter settled (take p ts)) + alive vias until mark w.at ≤ length vias + 1) (sym is) (w.few d (omega (arith, there)))

      go : (b : Bool) → settled d ≡ b → (length (filter settled (take p ts)) + cond (settled d) 1 0) + alive vias until mark e.at ≤ length vias + 1
      go true h = rw h (omega (arith, had, alive_less vias until mark d.at e.at less h over))
      go false h = rw h (omega (arith, had, alive_falls vias until mark d.at e.at less))

  none_after : (test : Timed → Bool) (ts : List Timed) (p : ℕ) → ((k : ℕ) (d : Timed) → p ≤ k → k < length ts → test (get_or ts k d) ≡ false) → filter test ts ≡ filter test (take p ts)
  none_after test [] zero h = refl
  none_after test [] (suc p) h = refl
  none_after test (t ∷ ts) zero h = rw (h 0 t (omega arith) (omega arith)) (none_after test ts zero (λ k d low there. h (suc k) d (omega arith) (omega arith)))
  none_after test (t ∷ ts) (suc p) h = ap (λ (l : List Timed). cond (test t) (t ∷ l) l) (none_after test ts p (λ k d low there. h (suc k) d (omega arith) (omega arith)))

  not_made : (x : Tier) → up_to x mark ≡ false → is_settled vias until mark x ≡ false
  not_made x h = ap (λ (b : Bool). b && list_all (λ v. up_to (delayed x v) mark || int_le until (delayed x v).time) vias) h

  not_up : (x y : Tier) → IsUpTo x y → (m : Tier) → up_to x m ≡ false → up_to y m ≡ false
  not_up x y h m k = go (up_to y m) refl
    where
      go : (b : Bool) → up_to y m ≡ b → b ≡ false
      go true e = absurd (true≢false (sym (up_to_trans x y m h e) ∙ k))
      go false e = refl

  none_between : (test : Timed → Bool) (ts : List Timed) (p q : ℕ) → p ≤ q → ((k : ℕ) (d : Timed) → p ≤ k → k < q → test (get_or ts k d) ≡ false) → filter test (take q ts) ≡ filter test (take p ts)
  none_between test [] zero zero le h = refl
  none_between test [] zero (suc q) le h = refl
  none_between test [] (suc p) zero le h = refl
  none_between test [] (suc p) (suc q) le h = refl
  none_between test (t ∷ ts) zero zero le h = refl
  none_between test (t ∷ ts) zero (suc q) le h = rw (h 0 t (omega arith) (omega arith)) (none_between test ts zero q (omega arith) (λ k d low high. h (suc k) d (omega arith) (omega arith)))
  none_between test (t ∷ ts) (suc p) zero le h = absurd (omega (arith, le))
  none_between test (t ∷ ts) (suc p) (suc q) le h = ap (λ (l : List Timed). cond (test t) (t ∷ l) l) (none_between test ts p q (omega arith) (λ k d low high. h (suc k) d (omega arith) (omega arith)))

  -- of those that come over the same delays, none is settled before an earlier one
  one_back : (x y m : Tier) → IsUpTo x y → int_le until x.time || int_lt y.time until ≡ true → up_to y m || int_le until y.time ≡ true → up_to x m || int_le until x.time ≡ true
  one_back x y m h k s = grind (arith, ints)

  all_back : (vs : List Via) (m x y : Tier) → IsUpTo x y → comes_with vs until x y ≡ true → list_all (λ v. up_to (delayed y v) m || int_le until (delayed y v).time) vs ≡ true → list_all (λ v. up_to (delayed x v) m || int_le until (delayed x v).time) vs ≡ true
  all_back [] m x y h k s = refl
  all_back (v ∷ vs) m x y h k s =
      let c = both_hold (int_le until (delayed x v).time || int_lt (delayed y v).time until) (comes_with vs until x y) k in
      let r = both_hold (up_to (delayed y v) m || int_le until (delayed y v).time) (list_all (λ v. up_to (delayed y v) m || int_le until (delayed y v).time) vs) s in
      and_holds (up_to (delayed x v) m || int_le until (delayed x v).time) (list_all (λ v. up_to (delayed x v) m || int_le until (delayed x v).time) vs)
      (one_back (delayed x v) (delayed y v) m (delayed_keeps x y v h) c.0 r.0) (all_back vs m x y h c.1 r.1)

  settled_back : (m x y : Tier) → IsUpTo x y → comes_with vias until x y ≡ true → is_settled vias until m y ≡ true → is_settled vias until m x ≡ true
  settled_back m x y h k s =
      let r = both_hold (up_to y m) (list_all (λ v. up_to (delayed y v) m || int_le until (delayed y v).time) vias) s in
      and_holds (up_to x m) (list_all (λ v. up_to (delayed x v) m || int_le until (delayed x v).time) vias) (up_to_trans x y m h r.0) (all_back vias m x y h k r.1)

  one_with : (x : Tier) → int_le until x.time || int_lt x.time until ≡ true
  one_with x = grind (arith, ints)

  with_self : (vs : List Via) (x : Tier) → comes_with vs until x x ≡ true
  with_self [] x = refl
  with_self (v ∷ vs) x = and_holds (int_le until (delayed x v).time || int_lt (delayed x v).time until) (comes_with vs until x x) (one_with (delayed x v)) (with_self vs x)

  one_with_before : (x y z : Tier) → IsUpTo y z → int_le until x.time || int_lt z.time until ≡ true → int_le until x.time || int_lt y.time until ≡ true
  one_with_before x y z h k = grind (arith, ints)

  with_before : (vs : List Via) (x y z : Tier) → IsUpTo y z → comes_with vs until x z ≡ true → comes_with vs until x y ≡ true
  with_before [] x y z h k = refl
  with_before (v ∷ vs) x y z h k =
      let c = both_hold (int_le until (delayed x v).time || int_lt (delayed z v).time until) (comes_with vs until x z) k in
      and_holds (int_le until (delayed x v).time || int_lt (delayed y v).time until) (comes_with vs until x y) (one_with_before (delayed x v) (delayed y v) (delayed z v) (delayed_keeps y z v h) c.0) (with_before vs x y z h c.1)

  pub with_downward : (x : Tier) → IsDownward (comes_with vias until x)
  with_downward x y z h k = with_before vias x y z h k

  low_or : (k n : ℕ) → (k < n) ⊎ (n ≤ k)
  low_or k n = grind arith

  pub behind_rest : (ts : List Timed) (p q : ℕ) (e : Timed) → IsAscending ts → p < length ts → e ≡ get_or ts p e → ((d : Timed) → is_settled vias until mark (get_or ts p d).at ≡ false) → q ≤ length ts
      → IsPartitionPoint (λ t. comes_with vias until e.at t.at ≡ true) (λ t. comes_with vias until e.at t.at ≡ false) ts q → IsBehind vias until mark ts p q
  behind_rest ts p q e up there is unsettled within parts = record {
    more = elim (low_or p q) [
      | inl l ↦ l
      | inr h ↦ absurd (true≢false (sym (with_self vias e.at) ∙ subst (λ (u : Timed). comes_with vias until e.at u.at ≡ false) (sym is) (parts.1 p e h there)))
    ];
    within = within;
    later = λ m k d low high s. settled_back m (get_or ts p d).at (get_or ts k d).at (ascending_at ts p k d up low (omega (arith, high, within)))
        (subst (λ (u : Timed). comes_with vias until u.at (get_or ts k d).at ≡ true) (is ∙ get_or_any ts p e d there) (parts.0 k d (omega arith) high)) s;
    alone = λ d s. absurd (true≢false (sym s ∙ unsettled d));
  }

  pub walked_jump : (ts : List Timed) (p q : ℕ) → IsAscending ts → p + 1 < length ts → IsBehind vias until mark ts p q → IsWalked ts (p + 1) → IsWalked ts q
  walked_jump ts p q up there b w = record {
    few = λ d h. rw none (omega (arith, w.few d there, alive_falls vias until mark (get_or ts (p + 1) d).at (get_or ts q d).at (ascending_at ts (p + 1) q d up (omega (arith, b.more)) h)));
    all = λ h. omega (arith, ap (λ (l : List Timed). length (filter settled l)) (sym (take_all q ts h)) ∙ ap length none, w.few anything there);
  }
    where
      between : (k : ℕ) (d : Timed) → p + 1 ≤ k → k < q → settled (get_or ts k d) ≡ false
      between k d low high = go (settled (get_or ts k d)) refl
        where
          go : (b : Bool) → settled (get_or ts k d) ≡ b → b ≡ false
          go false e = refl
          go true e = let is = b.alone d (b.later mark k d (omega (arith, low)) high e) in absurd (omega (arith, is, low, high))

      none : filter settled (take q ts) ≡ filter settled (take (p + 1) ts)
      none = none_between settled ts (p + 1) q (omega (arith, b.more)) between

  few_end : (ts : List Timed) (p : ℕ) (d : Timed) → p < length ts → IsWalked ts p → filter settled ts ≡ filter settled (take (p + 1) ts) → IsFew vias until mark ts
  few_end ts p d there w none = rw (none, next_count ts p d there) (go (settled (get_or ts p d)) refl)
    where
      go : (b : Bool) → settled (get_or ts p d) ≡ b → length (filter settled (take p ts)) + cond b 1 0 ≤ length vias + 1
      go true h = omega (arith, w.few d there, alive_some vias until mark (get_or ts p d).at (both_hold (up_to (get_or ts p d).at mark) (list_all (λ v. up_to (delayed (get_or ts p d).at v) mark || int_le until (delayed (get_or ts p d).at v).time) vias) h).0)
      go false h = omega (arith, w.few d there)

  pub walked_rest : (ts : List Timed) (p : ℕ) → IsAscending ts → IsWalked ts p → IsRest mark ts p → IsFew vias until mark ts
  walked_rest ts p up w rest = elim (low_or p (length ts)) [
    | inr h ↦ w.all h
    | inl there ↦ few_end ts p anything there w (none_after settled ts (p + 1) (λ k d low below. not_made (get_or ts k d).at
        (not_up (get_or ts (p + 1) d).at (get_or ts k d).at (ascending_at ts (p + 1) k d up low below) mark (rest d (omega (arith, low, below))))))
  ]

  -- ---- until which mark no more may be given up

  -- of those before the place none more is settled before outputs are looked at again
  abbrev pub Stays : Option Tier → List Timed → ℕ → Type 0
  Stays next ts p = (m : Tier) (k : ℕ) (d : Timed) → is_due next m ≡ false → k < p → is_settled vias until m (get_or ts k d).at ≡ true → is_settled vias until mark (get_or ts k d).at ≡ true

  few_stays : (m : Tier) (ts : List Timed) → ((k : ℕ) (d : Timed) → k < length ts → is_settled vias until m (get_or ts k d).at ≡ true → is_settled vias until mark (get_or ts k d).at ≡ true) → IsFew vias until mark ts → IsFew vias until m ts
  few_stays m ts h few = omega (
    arith,
    few,
    implied (λ t. is_settled vias until m t.at) (λ t. is_settled vias until mark t.at) ts
        (λ t here s. let i = in_at t ts here in let g = get_is ts i.0 t i.1 in subst (λ (u : Timed). is_settled vias until mark u.at ≡ true) g.1 (h i.0 t g.0 (subst (λ (u : Timed). is_settled vias until m u.at ≡ true) (sym g.1) s))),
  )

  pub stays_all : (next : Option Tier) (ts : List Timed) (p : ℕ) → length ts ≤ p → Stays next ts p → IsFew vias until mark ts → StaysFew vias until mark next ts
  stays_all next ts p all stays few m from due = few_stays m ts (λ k d below s. stays m k d due (omega (arith, below, all)) s) few
