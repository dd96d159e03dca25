-- What is kept of simulators as they are added one by one, and that it mirrors the beginning of a
-- journal.
use Rattle.std.proofs.Common.{◌≡◌, ℕ, zero, suc, ◌+◌, ◌<◌, ◌≤◌, ℤ, pos, ◌≤ℤ◌, Bool, true, false, List, [], ◌∷◌, ◌++◌, length, length-append, map, fold, take, Option, Some, None, unwrap_or, slice_get, All, refl, sym, ap, ◌∙◌, subst, inl, inr, arith, add-one, if◌then◌else◌}
use Rattle.std.proofs.lemmas.Bool.{cases_lt}
use Rattle.std.proofs.lemmas.Int.{ints}
use Rattle.std.proofs.lemmas.List.{length-map}
use Rattle.std.proofs.lemmas.List.Sums.{fold-append}
use Rattle.mk_base.specs.declared.tier.Tier.{Tier}
use Rattle.mk_base.specs.Lists.{IsIn}
use Rattle.mk_base.specs.Tiers.{moment}
use Rattle.mk_base.proofs.Lists.{below_get, some_same, all_at, all_in, in_either, in_map}
use Rattle.mk_plan.specs.declared.Plan.{Plan}
use Rattle.mk_plan.specs.declared.PlanSim.{PlanSim}
use Rattle.mk_plan.specs.Plans.{sim_count, IsValidPlan, is_event_based}
use Rattle.mk_plan.specs.Due.{is_in_run, first_times}
use Rattle.mk_plan.specs.Journals.{empty_view}
use Rattle.mk_plan.specs.Ready.{pending}
use Rattle.mk_nextstep.specs.declared.queue.Due.{Due}
use Rattle.mk_nextstep.specs.Queues.{time_of, added, least}
use Rattle.mk_nextstep.specs.inner.Queues.{IsRising}
use Rattle.mk_tiers.specs.Seen.{Seen, AreOfPlan, start_in, is_busy_in}
use Rattle.mk_order.proofs.Reasons.{pending_below}
use Rattle.mk_order.proofs.Pends.{PendsFirst, first_none, first_added, first_skipped, pends_first, start_is}
use Rattle.mk_order.specs.Pending.{Pends, StartsOf}
use Rattle.mk_sched_agenda.specs.declared.limits.Limits.{Limits}
use Rattle.mk_sched_agenda.specs.Dues.{queue_in, last_in, limits_of}
use Rattle.mk_sched_agenda.specs.inner.Dues.{IsTidy, is_open, with_own, first_queue, with_start}
use Rattle.mk_sched_agenda.specs.inner.Begun.{AreBegun, AreNone}
use Rattle.mk_sched_agenda.specs.Mirrors.{flag_of}
use Rattle.mk_sched_agenda.proofs.Queued.{added_is, least_is_least}
use Rattle.mk_sched_agenda.proofs.Tabled.{own_here, own_else, busy_here, busy_else}
use Rattle.mk_sched_agenda.proofs.Tidying.{AreOwn, with_own_rises, with_own_own}
use Rattle.mk_base.specs.Limits.{latest_end}
use Rattle.mk_base.proofs.Counts.{same_or_not}
use Rattle.mk_base.proofs.Items.{take_get}

-- ---- lists

pub map_more : {X Y : Type 0} (g : X → Y) (xs : List X) (x : X) → map g (xs ++ x ∷ []) ≡ map g xs ++ g x ∷ []
map_more g [] x = refl
map_more g (y ∷ ys) x = ap (λ l. g y ∷ l) (map_more g ys x)

pub fold_more : {X Y Z : Type 0} (f : Z → Y → Z) (z : Z) (g : X → Y) (xs : List X) (k : ℕ) (x : X) → slice_get xs k ≡ Some x → fold f z (map g (take (k + 1) xs)) ≡ f (fold f z (map g (take k xs))) (g x)
fold_more f z g xs k x is = ap (λ l. fold f z (map g l)) (ap (λ (n : ℕ). take n xs) (add-one k) ∙ take_get xs k x is) ∙ ap (fold f z) (map_more g (take k xs) x) ∙ fold-append f z (map g (take k xs)) (g x ∷ [])

-- ---- the steps with which a simulator begins

module _ (L : Limits) where
  fold_rises : (xs : List Tier) (q : List Due) → IsRising time_of q → IsRising time_of (fold (with_own L) q xs)
  fold_rises [] q rises = rises
  fold_rises (x ∷ xs) q rises = fold_rises xs (with_own L q x) (with_own_rises L q x rises)

  fold_own : L.until ≤ℤ latest_end → L.loops ≤ 1000 → (xs : List Tier) → ((x : Tier) → IsIn x xs → pos 0 ≤ℤ x.time) → (q : List Due) → AreOwn q → AreOwn (fold (with_own L) q xs)
  fold_own until loops [] early q all = all
  fold_own until loops (x ∷ xs) early q all = fold_own until loops xs (λ y m. early y (inr m)) (with_own L q x) (with_own_own L q x until loops (early x (inl refl)) all)

  pub first_rises : (sim : PlanSim) → IsRising time_of (first_queue L sim)
  first_rises sim = fold_rises (first_times sim) [] tt

  pub first_own : L.until ≤ℤ latest_end → L.loops ≤ 1000 → (sim : PlanSim) → All (λ (e : ℤ). pos 0 ≤ℤ e) sim.initial → AreOwn (first_queue L sim)
  first_own until loops sim events = fold_own until loops (first_times sim) early [] (λ d m. absurd m)
    where
      zero_early : (b : Bool) (x : Tier) → IsIn x (if b then [] else moment (pos 0) ∷ []) → pos 0 ≤ℤ x.time
      zero_early true x m = absurd m
      zero_early false x (inl e) = subst (λ (y : Tier). pos 0 ≤ℤ y.time) (sym e) (grind (arith, ints))
      zero_early false x (inr m) = absurd m

      early : (x : Tier) → IsIn x (first_times sim) → pos 0 ≤ℤ x.time
      early x m = elim (in_either x (map moment sim.initial) (if is_event_based sim.kind then [] else moment (pos 0) ∷ []) m) [
        | inl k ↦ let t = in_map moment x sim.initial k in subst (λ (y : Tier). pos 0 ≤ℤ y.time) (sym t.2) (all_in (λ (e : ℤ). pos 0 ≤ℤ e) sim.initial t.0 events t.1)
        | inr k ↦ zero_early (is_event_based sim.kind) x k
      ]

module _ (P : Plan) where
  fold_pends : (done xs : List Tier) (q : List Due) → PendsFirst P time_of flag_of done q → PendsFirst P time_of flag_of (done ++ xs) (fold (with_own (limits_of P)) q xs)
  fold_pends done [] q h = subst (λ (l : List Tier). PendsFirst P time_of flag_of l q) (sym (whole done)) h
    where
      whole : (l : List Tier) → l ++ [] ≡ l
      whole [] = refl
      whole (x ∷ l) = ap (λ (k : List Tier). x ∷ k) (whole l)
  fold_pends done (x ∷ xs) q h = subst (λ (l : List Tier). PendsFirst P time_of flag_of l (fold (with_own (limits_of P)) (with_own (limits_of P) q x) xs)) (again done) (fold_pends (done ++ x ∷ []) xs (with_own (limits_of P) q x) (go (is_in_run P x) refl))
    where
      again : (l : List Tier) → (l ++ x ∷ []) ++ xs ≡ l ++ (x ∷ xs)
      again [] = refl
      again (y ∷ l) = ap (λ (k : List Tier). y ∷ k) (again l)

      go : (b : Bool) → is_in_run P x ≡ b → PendsFirst P time_of flag_of (done ++ x ∷ []) (with_own (limits_of P) q x)
      go true e = subst (PendsFirst P time_of flag_of (done ++ x ∷ [])) (sym (ap (λ (b : Bool). if b then added false x q else q) e)) (first_added P time_of flag_of done x q (added false x q) e (added_is false x q) h)
      go false e = subst (PendsFirst P time_of flag_of (done ++ x ∷ [])) (sym (ap (λ (b : Bool). if b then added false x q else q) e)) (first_skipped P time_of flag_of done x q e h)

  pub first_pends : (i : ℕ) (sim : PlanSim) → slice_get P.sims i ≡ Some sim → Pends P time_of flag_of empty_view i (first_queue (limits_of P) sim)
  first_pends i sim at = pends_first P time_of flag_of i sim (first_queue (limits_of P) sim) at (fold_pends [] (first_times sim) [] (first_none P time_of flag_of))

-- ---- one simulator more

queue_front : (Q : List (List Due)) (q : List Due) (i : ℕ) → i < length Q → queue_in (Q ++ q ∷ []) i ≡ queue_in Q i
queue_front [] q i low = absurd (omega arith)
queue_front (p ∷ Q) q zero low = refl
queue_front (p ∷ Q) q (suc i) low = queue_front Q q i (omega arith)

queue_end : (Q : List (List Due)) (q : List Due) (i : ℕ) → i ≡ length Q → queue_in (Q ++ q ∷ []) i ≡ q
queue_end [] q zero is = refl
queue_end [] q (suc i) is = absurd (omega arith)
queue_end (p ∷ Q) q zero is = absurd (omega arith)
queue_end (p ∷ Q) q (suc i) is = queue_end Q q i (omega arith)

open_more : (O : List Bool) → ((i : ℕ) → is_open O i ≡ false) → (i : ℕ) → is_open (O ++ false ∷ []) i ≡ false
open_more [] all zero = refl
open_more [] all (suc i) = refl
open_more (o ∷ O) all zero = all zero
open_more (o ∷ O) all (suc i) = open_more O (λ j. all (suc j)) i

map_take_count : {X Y : Type 0} (g : X → Y) (xs : List X) (k : ℕ) → k ≤ length xs → length (map g (take k xs)) ≡ k
map_take_count g xs zero low = refl
map_take_count g [] (suc k) low = absurd (omega arith)
map_take_count g (x ∷ xs) (suc k) low = ap suc (map_take_count g xs k (omega arith))

last_more : (l : List (Option Tier)) → ((i : ℕ) → last_in l i ≡ None) → (i : ℕ) → last_in (l ++ None ∷ []) i ≡ None
last_more [] all zero = refl
last_more [] all (suc i) = refl
last_more (x ∷ l) all zero = all zero
last_more (x ∷ l) all (suc i) = last_more l (λ j. all (suc j)) i

pub lasts_more : (l m : List (Option Tier)) (k : ℕ) → m ≡ l ++ None ∷ [] → AreNone k l → AreNone (k + 1) m
lasts_more l m k grown h = record {
  count = ap length grown ∙ length-append l (None ∷ []) ∙ omega (arith, h.count);
  none = λ i. ap (λ (r : List (Option Tier)). last_in r i) grown ∙ last_more l h.none i;
}

module _ (P : Plan) (k : ℕ) (sim : PlanSim) (there : slice_get P.sims k ≡ Some sim) (low : k < length P.sims) where
  pub begun_more : (Q : List (List Due)) (O : List Bool) (B : Seen) → AreBegun P k Q O B → (R : List (List Due)) (U : List Bool) (C : Seen) → R ≡ Q ++ first_queue (limits_of P) sim ∷ [] → U ≡ O ++ false ∷ []
      → C ≡ with_start B k (least (first_queue (limits_of P) sim)) false → AreOfPlan P C → AreBegun P (k + 1) R U C
  begun_more Q O B h R U C grown more is of =
      let q : List Due = first_queue (limits_of P) sim in
      let count : length Q ≡ k = ap length h.queues ∙ map_take_count (first_queue (limits_of P)) P.sims k (omega arith) in
      let own : k < length B.owns = omega (arith, low, h.plan.count) in
      let flag : k < length B.busy = omega (arith, low, h.plan.busy_count) in
      record {
        plan = of;
        queues = grown ∙ ap (λ (l : List (List Due)). l ++ q ∷ []) h.queues ∙ sym (ap (map (first_queue (limits_of P))) (ap (λ (n : ℕ). take n P.sims) (add-one k) ∙ take_get P.sims k sim there) ∙ map_more (first_queue (limits_of P)) (take k P.sims) sim);
        opens = ap length more ∙ length-append O (false ∷ []) ∙ omega (arith, h.opens);
        none_open = λ i. ap (λ (l : List Bool). is_open l i) more ∙ open_more O h.none_open i;
        none_busy = λ i. elim (same_or_not i k) [ inl e ↦ ap (is_busy_in C) e ∙ busy_here B C k (least q) false is flag | inr n ↦ busy_else B C k (least q) false is i n ∙ h.none_busy i ];
        starts = λ i under. elim (same_or_not i k) [
          | inl e ↦ ap (start_in C) e ∙ own_here B C k (least q) false is own ∙ sym (ap least (ap (λ (l : List (List Due)). queue_in l i) grown ∙ queue_end Q q i (e ∙ sym count)))
          | inr n ↦ own_else B C k (least q) false is own i n ∙ h.starts i (below i n under) ∙ sym (ap least (ap (λ (l : List (List Due)). queue_in l i) grown ∙ queue_front Q q i (omega (arith, below i n under, count))))
        ];
        later = λ i high. own_else B C k (least q) false is own i (λ e. absurd (omega (arith, high, e))) ∙ h.later i (omega (arith, high));
      }
    where
      below : (i : ℕ) → (i ≡ k → ⊥) → i < k + 1 → i < k
      below i n under = elim (cases_lt i k) [ inl l ↦ l | inr g ↦ absurd (n (omega (arith, g, under))) ]

-- ---- all simulators

module _ (P : Plan) (valid : IsValidPlan P) (Q : List (List Due)) (O : List Bool) (B : Seen) (h : AreBegun P (length P.sims) Q O B) where
  take_all : {X : Type 0} (xs : List X) → take (length xs) xs ≡ xs
  take_all [] = refl
  take_all (x ∷ xs) = ap (λ l. x ∷ l) (take_all xs)

  are : Q ≡ map (first_queue (limits_of P)) P.sims
  are = h.queues ∙ ap (map (first_queue (limits_of P))) (take_all P.sims)

  pub begun_count : length Q ≡ sim_count P
  begun_count = ap length are ∙ length-map P.sims (first_queue (limits_of P))

  get_map : {X Y : Type 0} (g : X → Y) (xs : List X) (i : ℕ) (x : X) → slice_get xs i ≡ Some x → slice_get (map g xs) i ≡ Some (g x)
  get_map g [] i x is = cc
  get_map g (y ∷ ys) zero x is = ap (λ z. Some (g z)) (some_same is)
  get_map g (y ∷ ys) (suc i) x is = get_map g ys i x is

  get_beyond : (R : List (List Due)) (i : ℕ) → length R ≤ i → queue_in R i ≡ []
  get_beyond [] i high = refl
  get_beyond (r ∷ R) zero high = absurd (omega arith)
  get_beyond (r ∷ R) (suc i) high = get_beyond R i (omega arith)

  queue_of : (i : ℕ) (sim : PlanSim) → slice_get P.sims i ≡ Some sim → queue_in Q i ≡ first_queue (limits_of P) sim
  queue_of i sim at = ap (λ (R : List (List Due)). queue_in R i) are ∙ ap (λ (o : Option (List Due)). unwrap_or o []) (get_map (first_queue (limits_of P)) P.sims i sim at)

  each_queue : (F : List Due → Type 0) → F [] → ((i : ℕ) (sim : PlanSim) → slice_get P.sims i ≡ Some sim → F (first_queue (limits_of P) sim)) → (i : ℕ) → F (queue_in Q i)
  each_queue F none each i = elim (cases_lt i (length P.sims)) [
    | inl low ↦ let t = below_get P.sims i low in subst F (sym (queue_of i t.0 t.1)) (each i t.0 t.1)
    | inr high ↦ subst F (sym (get_beyond Q i (omega (arith, high, begun_count)))) none
  ]

  pub begun_is_tidy : IsTidy Q O B
  begun_is_tidy = record {
    owns = h.plan.count ∙ sym begun_count;
    opens = h.opens ∙ sym begun_count;
    busies = h.plan.busy_count ∙ sym begun_count;
    busy = λ i. h.none_busy i ∙ sym (h.none_open i);
    starts = λ i low _. h.starts i (omega (arith, low, begun_count));
    rising = each_queue (IsRising time_of) tt (λ i sim _. first_rises (limits_of P) sim);
    within = each_queue AreOwn (λ d m. absurd m) (λ i sim at. first_own (limits_of P) valid.well_formed.limits.until.1 valid.well_formed.limits.loops.1 sim (early i sim at));
  }
    where
      early : (i : ℕ) (sim : PlanSim) → slice_get P.sims i ≡ Some sim → All (λ (e : ℤ). pos 0 ≤ℤ e) sim.initial
      early i sim at = λ j d under. (all_at (λ (s : PlanSim). All (λ (e : ℤ). (pos 0 ≤ℤ e) × (e ≤ℤ latest_end)) s.initial) P.sims i sim valid.well_formed.limits.events at j d under).0

  pub begun_pends : (i : ℕ) → i < sim_count P → Pends P time_of flag_of empty_view i (queue_in Q i)
  begun_pends i low = let t = below_get P.sims i low in subst (Pends P time_of flag_of empty_view i) (sym (queue_of i t.0 t.1)) (first_pends P i t.0 t.1)

  pub begun_starts : StartsOf P empty_view (start_in B) (is_busy_in B)
  begun_starts = record {
    at = λ i. elim (cases_lt i (sim_count P)) [
      | inl low ↦ h.starts i low ∙ sym (start_is P time_of flag_of empty_view i (queue_in Q i) refl (begun_pends i low) (least (queue_in Q i)) (least_is_least (queue_in Q i) (begun_is_tidy.rising i)))
      | inr high ↦ h.later i high ∙ sym (beyond i high (pending P empty_view.acts i) refl)
    ];
    opened = h.none_busy;
  }
    where
      beyond : (i : ℕ) → sim_count P ≤ i → (o : Option Tier) → pending P empty_view.acts i ≡ o → pending P empty_view.acts i ≡ None
      beyond i high None e = e
      beyond i high (Some x) e = absurd (omega (arith, high, pending_below P empty_view.acts i x e))
