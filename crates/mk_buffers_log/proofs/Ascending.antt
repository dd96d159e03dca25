-- Outputs that ascend by the times of their making ascend by each delay.
use Rattle.std.proofs.Common.{◌≡◌, inl, inr, ℕ, zero, suc, ◌+◌, ◌-◌, ◌<◌, ◌≤◌, ℤ, ◌<ℤ◌, ◌≤ℤ◌, Bool, true, false, not, ◌&&◌, ◌||◌, cond, List, [], ◌∷◌, ◌++◌, length, map, filter, fold, get_or, take, pos, Option, Some, None, refl, sym, ap, subst, ◌∙◌, arith, true≢false, int_lt, int_le}
use Rattle.std.proofs.lemmas.List.{take_all, take_more}
use Rattle.std.proofs.lemmas.List.Sums.{fold-append}
use Rattle.std.specs.List.{list_all, remove, insert}
use Rattle.std.specs.List.Sorted.{IsPartitionedBy, IsPartitionPoint}
use Rattle.std.proofs.lemmas.Int.{ints}
use Rattle.mk_base.specs.declared.tier.Tier.{Tier}
use Rattle.mk_base.specs.declared.tier.Via.{Via}
use Rattle.mk_base.specs.declared.tier.Via.TheVariants.{Plain, Shift, Weak}
use Rattle.mk_base.specs.Lists.{IsIn}
use Rattle.mk_base.specs.Tiers.{delayed, up_to, IsUpTo}
use Rattle.mk_base.proofs.TierOrder.{up_to_self, up_to_total, up_to_trans, delayed_keeps}
use Rattle.mk_base.proofs.Lists.{filter_append, map_append, in_map}
use Rattle.mk_plan.specs.Deliveries.{Timed}
use Rattle.mk_plan.specs.Inputs.{later, latest, is_since}
use Rattle.mk_buffers_log.specs.Logs.{arrival, arrivals, by, is_in_time, within, AnswersFrom}
use Rattle.mk_buffers_log.specs.inner.Logs.{does_come, weighed, AllFrom, IsAscending, is_overtaken, SameAnswers, PlacedFor, IsEarlierAt}
use Rattle.mk_buffers_log.proofs.Latest.{without, moved, latest_last}
use Rattle.mk_base.proofs.Bools.{and_holds, both_hold}

-- where there is one output at most
pub short_ascends : (ts : List Timed) → length ts < 2 → IsAscending ts
short_ascends [] few = tt
short_ascends (t ∷ []) few = (tt, tt)
short_ascends (t ∷ u ∷ ts) few = absurd (omega (arith, few))

-- two tests one after the other
pub filter_both : (a b : Timed → Bool) (xs : List Timed) → filter a (filter b xs) ≡ filter (λ x. b x && a x) xs
filter_both a b [] = refl
filter_both a b (x ∷ xs) = elim (b x) as (λ c. filter a (cond c (x ∷ filter b xs) (filter b xs)) ≡ cond (c && a x) (x ∷ filter (λ y. b y && a y) xs) (filter (λ y. b y && a y) xs)) [
  | true ↦ ap (λ (l : List Timed). cond (a x) (x ∷ l) l) (filter_both a b xs)
  | false ↦ filter_both a b xs
]

-- what a later time's value comes to is strictly later
strictly : (x y : Tier) (v : Via) → x.time <ℤ y.time → up_to (delayed y v) (delayed x v) ≡ false
strictly x y Plain h = grind (arith, ints)
strictly x y (Shift d) h = grind (arith, ints)
strictly x y Weak h = grind (arith, ints)

time_rises : (x y : Tier) → up_to x y ≡ true → x.time ≤ℤ y.time
time_rises x y h = grind (arith, ints)

pub from_in : (x : Tier) (ts : List Timed) (t : Timed) → AllFrom x ts → IsIn t ts → IsUpTo x t.at
from_in x [] t all m = absurd m
from_in x (u ∷ us) t all (inl e) = subst (λ (w : Timed). IsUpTo x w.at) (sym e) all.0
from_in x (u ∷ us) t all (inr m) = from_in x us t all.1 m

from_at : (x : Tier) (ts : List Timed) (j : ℕ) (d : Timed) → AllFrom x ts → j < length ts → IsUpTo x (get_or ts j d).at
from_at x [] j d all there = absurd (omega arith)
from_at x (t ∷ ts) zero d all there = all.0
from_at x (t ∷ ts) (suc j) d all there = from_at x ts j d all.1 (omega arith)

from_less : (x y : Tier) (ts : List Timed) → IsUpTo x y → AllFrom y ts → AllFrom x ts
from_less x y [] h all = tt
from_less x y (t ∷ ts) h all = (up_to_trans x y t.at h all.0, from_less x y ts h all.1)

pub ascending_at : (ts : List Timed) (i j : ℕ) (d : Timed) → IsAscending ts → i ≤ j → j < length ts → IsUpTo (get_or ts i d).at (get_or ts j d).at
ascending_at [] i j d up le there = absurd (omega arith)
ascending_at (t ∷ ts) zero zero d up le there = up_to_self t.at
ascending_at (t ∷ ts) zero (suc j) d up le there = from_at t.at ts j d up.0 (omega arith)
ascending_at (t ∷ ts) (suc i) zero d up le there = absurd (omega arith)
ascending_at (t ∷ ts) (suc i) (suc j) d up le there = ascending_at ts i j d up.1 (omega arith) (omega arith)

-- a test that passes what comes before what passes
abbrev pub IsDownward : (Tier → Bool) → Type 0
IsDownward test = (x y : Tier) → IsUpTo x y → test y ≡ true → test x ≡ true

pub partitioned : (test : Tier → Bool) → IsDownward test → (ts : List Timed) → IsAscending ts → IsPartitionedBy (λ t. test t.at) ts
partitioned test down ts up i j d le there h = down (get_or ts i d).at (get_or ts j d).at (ascending_at ts i j d up le there) h

earlier_end : (x y : Tier) (until : ℤ) → up_to x y ≡ true → int_lt y.time until ≡ true → int_lt x.time until ≡ true
earlier_end x y until h k = grind (arith, ints)

pub in_time_before : (until : Option ℤ) (x y : Tier) → up_to x y ≡ true → is_in_time until y ≡ true → is_in_time until x ≡ true
in_time_before None x y h k = refl
in_time_before (Some until) x y h k = earlier_end x y until h k

pub comes_downward : (v : Via) (until : Option ℤ) (x : Tier) → IsDownward (does_come v until x)
comes_downward v until x t u h k = let parts = both_hold (up_to (delayed u v) x) (is_in_time until (delayed u v)) k in
    and_holds (up_to (delayed t v) x) (is_in_time until (delayed t v)) (up_to_trans (delayed t v) (delayed u v) x (delayed_keeps t u v h) parts.0)
    (in_time_before until (delayed t v) (delayed u v) (delayed_keeps t u v h) parts.1)

pub made_downward : (x : Tier) → IsDownward (λ t. up_to t x)
made_downward x t u h k = up_to_trans t u x h k

-- the latest of those that a downward test passes stands before the place at which it fails
module _ (test : Tier → Bool) (f : Timed → Timed) (keeps : (t u : Timed) → IsUpTo t.at u.at → IsUpTo (f t).at (f u).at) where
  none_from : (ts : List Timed) → ((k : ℕ) (d : Timed) → k < length ts → test (get_or ts k d).at ≡ false) → filter (λ t. test t.at) ts ≡ []
  none_from [] h = refl
  none_from (t ∷ ts) h = rw (h 0 t (omega arith)) (none_from ts (λ k d there. h (suc k) d (omega arith)))

  pub latest_none : (ts : List Timed) → IsPartitionPoint (λ t. test t.at ≡ true) (λ t. test t.at ≡ false) ts 0 → latest (map f (filter (λ t. test t.at) ts)) ≡ None
  latest_none ts parts = ap (λ (l : List Timed). latest (map f l)) (none_from ts (λ k d there. parts.1 k d (omega arith) there))

  -- those before the place, and the last of them
  cut : (ts : List Timed) (p : ℕ) (e : Timed) → p < length ts → e ≡ get_or ts p e → IsAscending ts → IsPartitionPoint (λ t. test t.at ≡ true) (λ t. test t.at ≡ false) ts (suc p)
      → (front : List Timed) × (filter (λ t. test t.at) ts ≡ front ++ e ∷ []) × ((t : Timed) → IsIn t front → IsUpTo t.at e.at)
  cut [] p e there is up parts = absurd (omega arith)
  cut (t ∷ ts) zero e there is up parts =
      ([], rw (parts.0 0 t (omega arith) (omega arith)) (ap (λ (l : List Timed). t ∷ l) (none_from ts (λ k d below. parts.1 (suc k) d (omega arith) (omega arith))) ∙ ap (λ (u : Timed). u ∷ []) (sym is)), λ u m. absurd m)
  cut (t ∷ ts) (suc p) e there is up parts =
      let rest = cut ts p e (omega arith) is up.1 ((λ k d low high. parts.0 (suc k) d (omega arith) (omega arith)), (λ k d low high. parts.1 (suc k) d (omega arith) (omega arith))) in (
        t ∷ rest.0,
        rw (parts.0 0 t (omega arith) (omega arith)) (ap (λ (l : List Timed). t ∷ l) rest.1),
        λ u m. elim m [
          | inl q ↦ subst (λ (w : Timed). IsUpTo w.at e.at) (sym q) (subst (λ (w : Timed). IsUpTo t.at w.at) (sym is) (from_at t.at ts p e up.0 (omega arith)))
          | inr n ↦ rest.2 u n
        ],
      )

  pub latest_at : (ts : List Timed) (p : ℕ) (e : Timed) → p < length ts → e ≡ get_or ts p e → IsAscending ts → IsPartitionPoint (λ t. test t.at ≡ true) (λ t. test t.at ≡ false) ts (suc p)
      → latest (map f (filter (λ t. test t.at) ts)) ≡ Some (f e)
  latest_at ts p e there is up parts = let c = cut ts p e there is up parts in
      ap (λ (l : List Timed). latest (map f l)) c.1 ∙ ap latest (map_append f c.0 (e ∷ []))
      ∙ latest_last (map f c.0) (f e) (λ y m. let o = in_map f y c.0 m in subst (λ (w : Timed). IsUpTo w.at (f e).at) (sym o.2) (keeps o.0 e (c.2 o.0 o.1)))

-- those that come, delivered
pub come : (v : Via) (until : Option ℤ) (x : Tier) (ts : List Timed) → by x (arrivals v until ts) ≡ map (arrival v) (filter (λ t. does_come v until x t.at) ts)
come v until x [] = refl
come v until x (t ∷ ts) = elim (is_in_time until (delayed t.at v)) as (λ a. by x (cond a (arrival v t ∷ arrivals v until ts) (arrivals v until ts))
    ≡ map (arrival v) (cond (up_to (delayed t.at v) x && a) (t ∷ filter (λ t. does_come v until x t.at) ts) (filter (λ t. does_come v until x t.at) ts))) [
      | true ↦ here (come v until x ts) (up_to (delayed t.at v) x)
      | false ↦ none (come v until x ts) (up_to (delayed t.at v) x)
    ]
  where
    here : by x (arrivals v until ts) ≡ map (arrival v) (filter (λ t. does_come v until x t.at) ts) → (b : Bool) → cond b (arrival v t ∷ by x (arrivals v until ts)) (by x (arrivals v until ts)) ≡ map (arrival v) (cond (b && true) (t ∷ filter (λ t. does_come v until x t.at) ts) (filter (λ t. does_come v until x t.at) ts))
    here rest true = ap (λ (l : List Timed). arrival v t ∷ l) rest
    here rest false = rest

    none : by x (arrivals v until ts) ≡ map (arrival v) (filter (λ t. does_come v until x t.at) ts) → (b : Bool) → by x (arrivals v until ts) ≡ map (arrival v) (cond (b && false) (t ∷ filter (λ t. does_come v until x t.at) ts) (filter (λ t. does_come v until x t.at) ts))
    none rest true = rest
    none rest false = rest

arrives_later : (v : Via) (t u : Timed) → IsUpTo t.at u.at → IsUpTo (arrival v t).at (arrival v u).at
arrives_later v t u h = delayed_keeps t.at u.at v h

-- what a search in ascending outputs finds
pub found_none : (v : Via) (until : Option ℤ) (x : Tier) (ts : List Timed) (p : ℕ) → p ≡ 0 → IsPartitionPoint (λ t. does_come v until x t.at ≡ true) (λ t. does_come v until x t.at ≡ false) ts p → None ≡ latest (by x (arrivals v until ts))
found_none v until x ts p is parts = sym (ap latest (come v until x ts) ∙ latest_none (does_come v until x) (arrival v) (arrives_later v) ts
    (subst (λ (k : ℕ). IsPartitionPoint (λ t. does_come v until x t.at ≡ true) (λ t. does_come v until x t.at ≡ false) ts k) is parts))

pub found_last : (v : Via) (until : Option ℤ) (x : Tier) (ts : List Timed) (p : ℕ) (e : Timed) → IsAscending ts → p ≤ length ts → 0 < p → e ≡ get_or ts (p - 1) e
    → IsPartitionPoint (λ t. does_come v until x t.at ≡ true) (λ t. does_come v until x t.at ≡ false) ts p → Some (arrival v e) ≡ latest (by x (arrivals v until ts))
found_last v until x ts p e up le some is parts = sym (ap latest (come v until x ts) ∙ latest_at (does_come v until x) (arrival v) (arrives_later v) ts (p - 1) e (omega arith) is up
    (subst (λ (k : ℕ). IsPartitionPoint (λ t. does_come v until x t.at ≡ true) (λ t. does_come v until x t.at ≡ false) ts k) (one_more p some) parts))
  where
    one_more : (p : ℕ) → 0 < p → p ≡ suc (p - 1)
    one_more p h = omega arith

-- some output
abbrev pub anything : Timed
anything = record { at = record { time = pos 0; tier = 0 }; value = [] }

pub get_or_any : (xs : List Timed) (i : ℕ) (c d : Timed) → i < length xs → get_or xs i c ≡ get_or xs i d
get_or_any [] i c d there = absurd (omega arith)
get_or_any (x ∷ xs) zero c d there = refl
get_or_any (x ∷ xs) (suc i) c d there = get_or_any xs i c d (omega arith)

pub same_at : (xs : List Timed) (i : ℕ) (c d : Timed) → i < length xs → c ≡ get_or xs i c → d ≡ get_or xs i d → c ≡ d
same_at xs i c d there is own = is ∙ get_or_any xs i c d there ∙ sym own

-- where the last passes a downward test, all do
pub all_pass : (test : Tier → Bool) → IsDownward test → (ts : List Timed) (last : Timed) (r n : ℕ) → r ≡ n → n ≡ length ts → IsAscending ts → 0 < n → last ≡ get_or ts (n - 1) last → test last.at ≡ true
    → IsPartitionPoint (λ t. test t.at ≡ true) (λ t. test t.at ≡ false) ts r
all_pass test down ts last r n here all up some is h = (
  (λ k d low high. down (get_or ts k d).at last.at (subst (λ (w : Timed). IsUpTo (get_or ts k d).at w.at) (get_or_any ts (n - 1) d last (omega arith) ∙ sym is) (ascending_at ts k (n - 1) d up (omega arith) (omega arith))) h),
  (λ k d low high. absurd (omega arith)),
)

-- where the first passes a downward test and the second doesn't, the first alone does
pub first_passes : (test : Tier → Bool) → IsDownward test → (ts : List Timed) → IsAscending ts → 1 ≤ length ts → ((d : Timed) → test (get_or ts 0 d).at ≡ true) → ((d : Timed) → test (get_or ts 1 d).at ≡ false)
    → IsPartitionPoint (λ t. test t.at ≡ true) (λ t. test t.at ≡ false) ts 1
first_passes test down ts up some first second = (
  (λ k d low high. down (get_or ts k d).at (get_or ts 0 d).at (ascending_at ts k 0 d up (omega arith) (omega arith)) (first d)),
  (λ k d low high. behind (test (get_or ts k d).at) (λ h. true≢false (sym (down (get_or ts 1 d).at (get_or ts k d).at (ascending_at ts 1 k d up low high) h) ∙ second d))),
)
  where
    behind : (b : Bool) → (b ≡ true → ⊥) → b ≡ false
    behind true h = absurd (h refl)
    behind false h = refl

-- one more output, weighed
pub weighed_more : (v : Via) (until : Option ℤ) (x : Tier) (ts : List Timed) (t : Timed) → latest (by x (arrivals v until (ts ++ t ∷ []))) ≡ weighed v until x (latest (by x (arrivals v until ts))) t
weighed_more v until x ts t = ap latest (come v until x (ts ++ t ∷ []) ∙ ap (map (arrival v)) (filter_append (λ t. does_come v until x t.at) ts (t ∷ [])) ∙ map_append (arrival v) (filter (λ t. does_come v until x t.at) ts) (filter (λ t. does_come v until x t.at) (t ∷ [])))
    ∙ fold-append later None (map (arrival v) (filter (λ t. does_come v until x t.at) ts)) (map (arrival v) (filter (λ t. does_come v until x t.at) (t ∷ [])))
    ∙ one (does_come v until x t.at) (latest (map (arrival v) (filter (λ t. does_come v until x t.at) ts)))
    ∙ ap (λ (l : List Timed). weighed v until x (latest l) t) (sym (come v until x ts))
  where
    one : (b : Bool) (o : Option Timed) → fold later o (map (arrival v) (cond b (t ∷ []) [])) ≡ cond b (later o (arrival v t)) o
    one true o = refl
    one false o = refl

pub weighed_next : (v : Via) (until : Option ℤ) (x : Tier) (ts : List Timed) (i : ℕ) (t : Timed) (best new : Option Timed) → i < length ts → t ≡ get_or ts i t → best ≡ latest (by x (arrivals v until (take i ts))) → new ≡ weighed v until x best t → new ≡ latest (by x (arrivals v until (take (i + 1) ts)))
weighed_next v until x ts i t best new below is so here = here ∙ ap (λ (o : Option Timed). weighed v until x o t) so ∙ sym (weighed_more v until x (take i ts) t)
    ∙ ap (λ (u : Timed). latest (by x (arrivals v until (take i ts ++ u ∷ [])))) is ∙ ap (λ (l : List Timed). latest (by x (arrivals v until l))) (sym (take_more ts i t below))

pub weighed_all : (v : Via) (until : Option ℤ) (x : Tier) (ts : List Timed) (n : ℕ) (best : Option Timed) → length ts ≤ n → best ≡ latest (by x (arrivals v until (take n ts))) → best ≡ latest (by x (arrivals v until ts))
weighed_all v until x ts n best all so = so ∙ ap (λ (l : List Timed). latest (by x (arrivals v until l))) (take_all n ts all)

-- by no delay and without an end all are as they were made
pub as_made : (ts : List Timed) → arrivals Plain None ts ≡ ts
as_made [] = refl
as_made (t ∷ ts) = ap (λ (l : List Timed). t ∷ l) (as_made ts)

-- one more among ascending outputs
all_from_insert : (x : Tier) (ts : List Timed) (p : ℕ) (t : Timed) → AllFrom x ts → IsUpTo x t.at → AllFrom x (insert ts p t)
all_from_insert x [] p t all h = elim p as (λ n. AllFrom x (insert [] n t)) [ zero ↦ (h, tt) | suc n ↦ (h, tt) ]
all_from_insert x (u ∷ us) zero t all h = (h, all)
all_from_insert x (u ∷ us) (suc p) t all h = (all.0, all_from_insert x us p t all.1 h)

pub ascending_insert : (ts : List Timed) (p : ℕ) (t : Timed) → p ≤ length ts → IsAscending ts → IsPartitionPoint (λ u. up_to u.at t.at ≡ true) (λ u. up_to u.at t.at ≡ false) ts p → IsAscending (insert ts p t)
ascending_insert [] p t le up parts = elim p as (λ n. IsAscending (insert [] n t)) [ zero ↦ (tt, tt) | suc n ↦ (tt, tt) ]
ascending_insert (u ∷ us) zero t le up parts = let low : IsUpTo t.at u.at = up_to_total t.at u.at (parts.1 0 u (omega arith) (omega arith)) in ((low, from_less t.at u.at us low up.0), up)
ascending_insert (u ∷ us) (suc p) t le up parts = (
  all_from_insert u.at us p t up.0 (parts.0 0 u (omega arith) (omega arith)),
  ascending_insert us p t (omega arith) up.1 ((λ k d low high. parts.0 (suc k) d (omega arith) (omega arith)), (λ k d low high. parts.1 (suc k) d (omega arith) (omega arith))),
)

all_from_push : (x : Tier) (ts : List Timed) (t : Timed) → AllFrom x ts → IsUpTo x t.at → AllFrom x (ts ++ t ∷ [])
all_from_push x [] t all h = (h, tt)
all_from_push x (u ∷ us) t all h = (all.0, all_from_push x us t all.1 h)

ascending_push : (ts : List Timed) (t : Timed) → IsAscending ts → ((k : ℕ) (d : Timed) → k < length ts → IsUpTo (get_or ts k d).at t.at) → IsAscending (ts ++ t ∷ [])
ascending_push [] t up h = (tt, tt)
ascending_push (u ∷ us) t up h = (all_from_push u.at us t up.0 (h 0 u (omega arith)), ascending_push us t up.1 (λ k d there. h (suc k) d (omega arith)))

pub ascending_back : (ts new : List Timed) (t : Timed) (rising : Bool) (p n : ℕ) → PlacedFor t.at rising ts p → n ≡ length ts → n ≤ p → (rising ≡ true → IsAscending ts) → new ≡ ts ++ t ∷ [] → rising ≡ true → IsAscending new
ascending_back ts new t rising p n placed all le up is on = subst IsAscending (sym is) (ascending_push ts t (up on) (λ k d there. (placed.parts on).0 k d (omega arith) (omega arith)))

pub ascending_inside : (ts new : List Timed) (t : Timed) (rising : Bool) (p : ℕ) → PlacedFor t.at rising ts p → (rising ≡ true → IsAscending ts) → new ≡ insert ts p t → rising ≡ true → IsAscending new
ascending_inside ts new t rising p placed up is on = subst IsAscending (sym is) (ascending_insert ts p t placed.within (up on) (placed.parts on))

-- one more output behind all others
pub takes_back : (ts now new : List Timed) (t : Timed) → ts ≡ now → new ≡ ts ++ t ∷ [] → SameAnswers new (now ++ t ∷ [])
takes_back ts now new t same is =
    let whole : new ≡ now ++ t ∷ [] = is ∙ ap (λ (l : List Timed). l ++ t ∷ []) same in
    record {
      made = λ test. ap (λ (l : List Timed). latest (filter test l)) whole;
      arrived = λ v until test. ap (λ (l : List Timed). latest (filter test (arrivals v until l))) whole;
    }

pub ascending_earlier : (ts new : List Timed) (t : Timed) (x : Tier) (rising : Bool) (p : ℕ) → x ≡ t.at → PlacedFor x rising ts p → (rising ≡ true → IsAscending ts) → new ≡ insert ts p t → rising ≡ true → IsAscending new
ascending_earlier ts new t x rising p same placed up is on = ascending_inside ts new t rising p (subst (λ (y : Tier). PlacedFor y rising ts p) same placed) up is on

split_at : (ts : List Timed) (p : ℕ) (n : Timed) → p < length ts → n ≡ get_or ts p n → IsAscending ts
    → (front : List Timed) × (back : List Timed) × (ts ≡ front ++ back) × ((t : Timed) → insert ts p t ≡ front ++ t ∷ back) × ((f : Timed) → IsIn f back → IsUpTo n.at f.at)
split_at [] p n there is up = absurd (omega arith)
split_at (u ∷ us) zero n there is up = ([], u ∷ us, refl, (λ t. refl), λ f m. subst (λ (w : Timed). IsUpTo w.at f.at) (sym is) (elim m [ inl q ↦ subst (λ (w : Timed). IsUpTo u.at w.at) (sym q) (up_to_self u.at) | inr r ↦ from_in u.at us f up.0 r ]))
split_at (u ∷ us) (suc p) n there is up = let rest = split_at us p n (omega arith) is up.1 in
    (u ∷ rest.0, rest.1, ap (λ (l : List Timed). u ∷ l) rest.2, (λ t. ap (λ (l : List Timed). u ∷ l) (rest.3 t)), rest.4)

strict_time : (t n f : Tier) → t.time <ℤ n.time → up_to n f ≡ true → up_to f t ≡ false
strict_time t n f h k = grind (arith, ints)

time_later : (t n f : Tier) → t.time <ℤ n.time → up_to n f ≡ true → t.time <ℤ f.time
time_later t n f h k = grind (arith, ints)

pub takes_inside : (ts now new : List Timed) (t n : Timed) (rising : Bool) (p : ℕ) → ts ≡ now → PlacedFor t.at rising ts p → p < length ts → (rising ≡ true → IsAscending ts) → n ≡ get_or ts p n → t.at.time <ℤ n.at.time → new ≡ insert ts p t → SameAnswers new (now ++ t ∷ [])
takes_inside ts now new t n rising p same placed there up is h made = by rising refl
  where
    by : (b : Bool) → rising ≡ b → SameAnswers new (now ++ t ∷ [])
    by false off = let end : p ≡ length ts = placed.end off in absurd (omega arith)
    by true on =
        let s = split_at ts p n there is (up on) in
        let front : List Timed = s.0 in
        let back : List Timed = s.1 in
        let whole : now ≡ front ++ back = sym same ∙ s.2 in
        let grown : new ≡ front ++ t ∷ back = made ∙ s.3 t in
        record {
          made = λ test. ap (λ (l : List Timed). latest (filter test l)) grown
              ∙ moved test front back t (λ f m. strict_time t.at n.at f.at h (s.4 f m))
              ∙ ap (λ (l : List Timed). latest (filter test (l ++ t ∷ []))) (sym whole);
          arrived = λ v until test.
              let C : Timed → Bool = λ y. is_in_time until y.at && test y in
              ap (λ (l : List Timed). latest (filter test (arrivals v until l))) grown
              ∙ ap latest (filter_both test (λ y. is_in_time until y.at) (map (arrival v) (front ++ t ∷ back)))
              ∙ ap (λ (l : List Timed). latest (filter C l)) (map_append (arrival v) front (t ∷ back))
              ∙ moved C (map (arrival v) front) (map (arrival v) back) (arrival v t)
              (λ g m. let o = in_map (arrival v) g back m in subst (λ (w : Timed). up_to w.at (delayed t.at v) ≡ false) (sym o.2) (strictly t.at o.0.at v (time_later t.at n.at o.0.at h (s.4 o.0 o.1))))
              ∙ ap (λ (l : List Timed). latest (filter C (l ++ arrival v t ∷ []))) (sym (map_append (arrival v) front back))
              ∙ ap (λ (l : List Timed). latest (filter C l)) (sym (map_append (arrival v) (front ++ back) (t ∷ [])))
              ∙ sym (ap latest (filter_both test (λ y. is_in_time until y.at) (map (arrival v) ((front ++ back) ++ t ∷ []))))
              ∙ ap (λ (l : List Timed). latest (filter test (arrivals v until (l ++ t ∷ [])))) (sym whole);
        }

pub takes_earlier : (ts now new : List Timed) (t : Timed) (x : Tier) (rising : Bool) (p : ℕ) → ts ≡ now → x ≡ t.at → PlacedFor x rising ts p → IsEarlierAt x ts p → (rising ≡ true → IsAscending ts) → new ≡ insert ts p t → SameAnswers new (now ++ t ∷ [])
takes_earlier ts now new t x rising p same is placed earlier up made =
    let n : Timed = get_or ts p t in
    takes_inside ts now new t n rising p same (subst (λ (y : Tier). PlacedFor y rising ts p) is placed) earlier.there up (get_or_any ts p t n earlier.there)
    (subst (λ (y : Tier). y.time <ℤ n.at.time) is (earlier.less t)) made

-- one that its next overtakes may go
all_from_remove : (x : Tier) (ts : List Timed) (p : ℕ) → AllFrom x ts → AllFrom x (remove ts p)
all_from_remove x [] p all = elim p as (λ n. AllFrom x (remove [] n)) [ zero ↦ tt | suc n ↦ tt ]
all_from_remove x (t ∷ ts) zero all = all.1
all_from_remove x (t ∷ ts) (suc p) all = (all.0, all_from_remove x ts p all.1)

ascending_remove : (ts : List Timed) (p : ℕ) → IsAscending ts → IsAscending (remove ts p)
ascending_remove [] p up = elim p as (λ n. IsAscending (remove [] n)) [ zero ↦ tt | suc n ↦ tt ]
ascending_remove (t ∷ ts) zero up = up.1
ascending_remove (t ∷ ts) (suc p) up = (all_from_remove t.at ts p up.0, ascending_remove ts p up.1)

split_two : (ts : List Timed) (p : ℕ) (d e : Timed) → p + 1 < length ts → d ≡ get_or ts p d → e ≡ get_or ts (p + 1) e → (front : List Timed) × (back : List Timed) × (ts ≡ front ++ d ∷ e ∷ back) × (remove ts p ≡ front ++ e ∷ back)
split_two [] p d e there is next = absurd (omega arith)
split_two (t ∷ []) p d e there is next = absurd (omega arith)
split_two (t ∷ u ∷ ts) zero d e there is next = ([], ts, ap (λ (w : Timed). w ∷ u ∷ ts) (sym is) ∙ ap (λ (w : Timed). d ∷ w ∷ ts) (sym next), ap (λ (w : Timed). w ∷ ts) (sym next))
split_two (t ∷ u ∷ ts) (suc p) d e there is next = let rest = split_two (u ∷ ts) p d e (omega arith) is (next ∙ ap (λ (k : ℕ). get_or (t ∷ u ∷ ts) k e) (shape p)) in
    (t ∷ rest.0, rest.1, ap (λ (l : List Timed). t ∷ l) rest.2, ap (λ (l : List Timed). t ∷ l) rest.3)
  where
    shape : (p : ℕ) → suc p + 1 ≡ suc (p + 1)
    shape p = omega arith

pub list_all_in : (f : Via → Bool) (vs : List Via) (v : Via) → list_all f vs ≡ true → IsIn v vs → f v ≡ true
list_all_in f [] v h m = absurd m
list_all_in f (w ∷ ws) v h (inl q) = ap f q ∙ (both_hold (f w) (list_all f ws) h).0
list_all_in f (w ∷ ws) v h (inr m) = list_all_in f ws v (both_hold (f w) (list_all f ws) h).1 m

pub since_later : (p : Option Tier) (x y : Tier) → up_to x y ≡ true → is_since p x ≡ true → is_since p y ≡ true
since_later None x y h k = refl
since_later (Some q) x y h k = go (up_to y q) refl
  where
    go : (b : Bool) → up_to y q ≡ b → not b ≡ true
    go true r = ap not (sym (up_to_trans x y q h r)) ∙ k
    go false r = refl

pub or_either : (a b c : Bool) → (b ≡ true → c ≡ true) → a || b ≡ true → a || c ≡ true
or_either true b c f h = refl
or_either false b c f h = f h

pub answers_self : (vias : List Via) (until : ℤ) (mark : Tier) (ts : List Timed) → AnswersFrom vias until mark ts ts
answers_self vias until mark ts = record { made = λ x h. refl; arrived = λ v m all p x h. refl }

-- what never comes after the run's end comes before it
pub comes_in_time : (c : Bool) (x : Tier) (until : ℤ) → c || int_le until x.time ≡ true → int_lt x.time until ≡ true → c ≡ true
comes_in_time true x until h k = refl
comes_in_time false x until h k = absurd (apart x.time until k h)
  where
    apart : (n m : ℤ) → int_lt n m ≡ true → int_le m n ≡ true → ⊥
    apart n m h k = grind (arith, ints)

pub forget_step : (vias : List Via) (until : ℤ) (mark : Tier) (ts all new : List Timed) (p : ℕ) (d e : Timed) → IsAscending ts → AnswersFrom vias until mark ts all → p + 1 < length ts → d ≡ get_or ts p d → e ≡ get_or ts (p + 1) e
    → is_overtaken vias until mark d.at e.at ≡ true → new ≡ remove ts p → IsAscending new × AnswersFrom vias until mark new all
forget_step vias until mark ts all new p d e up answers there is next over gone =
    let s = split_two ts p d e there is next in
    let front : List Timed = s.0 in
    let back : List Timed = s.1 in
    let less : IsUpTo d.at e.at = subst (λ (w : Timed). IsUpTo w.at e.at) (sym is) (subst (λ (w : Timed). IsUpTo (get_or ts p d).at w.at) (get_or_any ts (p + 1) d e (omega arith) ∙ sym next) (ascending_at ts p (p + 1) d up (omega arith) (omega arith))) in
    let come = both_hold (up_to e.at mark) (list_all (λ v. does_come v (Some until) mark e.at || int_le until (delayed d.at v).time) vias) over in (
      subst IsAscending (sym gone) (ascending_remove ts p up),
      record {
        made = λ x h. ap (λ (l : List Timed). latest (by x l)) (gone ∙ s.3)
            ∙ sym (without (λ t. up_to t.at x) front (e ∷ back) d e (inl refl) less (λ k. up_to_trans e.at mark x come.0 h))
            ∙ ap (λ (l : List Timed). latest (by x l)) (sym s.2) ∙ answers.made x h;
        arrived = λ v m all p x h.
            let C : Timed → Bool = λ y. is_in_time (Some until) y.at && within all p x y in
            ap (λ (l : List Timed). latest (filter (within all p x) (arrivals v (Some until) l))) (gone ∙ s.3)
            ∙ ap latest (filter_both (within all p x) (λ y. is_in_time (Some until) y.at) (map (arrival v) (front ++ e ∷ back)))
            ∙ ap (λ (l : List Timed). latest (filter C l)) (map_append (arrival v) front (e ∷ back))
            ∙ sym (without C (map (arrival v) front) (arrival v e ∷ map (arrival v) back) (arrival v d) (arrival v e) (inl refl) (delayed_keeps d.at e.at v less)
            (λ k. let a = both_hold (int_lt (delayed d.at v).time until) (within all p x (arrival v d)) k in
            let b = both_hold (up_to (delayed d.at v) x) (all || is_since p (delayed d.at v)) a.1 in
            let c = both_hold (up_to (delayed e.at v) mark) (int_lt (delayed e.at v).time until)
            (comes_in_time (does_come v (Some until) mark e.at) (delayed d.at v) until (list_all_in (λ v. does_come v (Some until) mark e.at || int_le until (delayed d.at v).time) vias v come.1 m) a.0) in
            and_holds (int_lt (delayed e.at v).time until) (within all p x (arrival v e)) c.1
            (and_holds (up_to (delayed e.at v) x) (all || is_since p (delayed e.at v))
            (up_to_trans (delayed e.at v) mark x c.0 h)
            (or_either all (is_since p (delayed d.at v)) (is_since p (delayed e.at v)) (since_later p (delayed d.at v) (delayed e.at v) (delayed_keeps d.at e.at v less)) b.1))))
            ∙ ap (λ (l : List Timed). latest (filter C l)) (sym (map_append (arrival v) front (d ∷ e ∷ back)))
            ∙ sym (ap latest (filter_both (within all p x) (λ y. is_in_time (Some until) y.at) (map (arrival v) (front ++ d ∷ e ∷ back))))
            ∙ ap (λ (l : List Timed). latest (filter (within all p x) (arrivals v (Some until) l))) (sym s.2) ∙ answers.arrived v m all p x h;
      },
    )
