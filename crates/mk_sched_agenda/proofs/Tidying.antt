-- Steps to come stay in order and within the limits, and starts stay the first of them, by each change.
use Rattle.std.proofs.Common.{◌≡◌, ℕ, zero, suc, ◌<◌, ◌≤◌, ℤ, pos, ◌≤ℤ◌, Bool, true, false, List, [], ◌∷◌, length, Option, Some, None, unwrap_or, get_or, slice_set, refl, sym, ap, ◌∙◌, subst, inl, inr, arith, true≢false, if◌then◌else◌}
use Rattle.std.specs.Option.{ForSome}
use Rattle.std.proofs.lemmas.Int.{ints}
use Rattle.mk_base.specs.declared.tier.Tier.{Tier}
use Rattle.mk_base.specs.Lists.{IsIn}
use Rattle.mk_base.specs.Tiers.{moment, up_to}
use Rattle.mk_base.proofs.Lists.{below_get, set_here, set_else, length_set}
use Rattle.mk_base.proofs.TierOrder.{up_to_total}
use Rattle.mk_nextstep.specs.declared.queue.Due.{Due}
use Rattle.mk_nextstep.specs.Queues.{time_of, added, least, later}
use Rattle.mk_nextstep.specs.inner.Queues.{IsRising}
use Rattle.mk_nextstep.proofs.Queues.{added_rises}
use Rattle.mk_tiers.specs.Seen.{Seen, start_in, is_busy_in}
use Rattle.mk_tiers.specs.Standing.{IsOwn}
use Rattle.mk_sched_agenda.specs.declared.limits.Limits.{Limits}
use Rattle.mk_sched_agenda.specs.Dues.{queue_in}
use Rattle.mk_sched_agenda.specs.inner.Dues.{IsTidy, is_open, is_inside, with_own, with_next, with_start, is_first, with_trigger}
use Rattle.mk_sched_agenda.proofs.Queued.{added_is}
use Rattle.mk_sched_agenda.proofs.Tabled.{own_here, own_else, busy_here, busy_else, flag_here, flag_else}
use Rattle.mk_base.specs.Limits.{latest_end}
use Rattle.mk_base.proofs.Counts.{same_or_not}

-- ---- queues in their list

pub queue_here : (Q : List (List Due)) (i : ℕ) (q : List Due) → i < length Q → queue_in (slice_set Q i q) i ≡ q
queue_here Q i q low = let t = below_get Q i low in ap (λ (o : Option (List Due)). unwrap_or o []) (set_here Q i q t.0 t.1)

pub queue_else : (Q : List (List Due)) (i j : ℕ) (q : List Due) → (j ≡ i → ⊥) → queue_in (slice_set Q i q) j ≡ queue_in Q j
queue_else Q i j q n = ap (λ (o : Option (List Due)). unwrap_or o []) (set_else Q i j q n)

pub queue_at : (Q : List (List Due)) (i : ℕ) (q : List Due) → i < length Q → q ≡ get_or Q i q → queue_in Q i ≡ q
queue_at [] i q low is = absurd (omega arith)
queue_at (p ∷ Q) zero q low is = sym is
queue_at (p ∷ Q) (suc i) q low is = queue_at Q i q (omega arith) is

set_back : (Q : List (List Due)) (i : ℕ) (q : List Due) → q ≡ get_or Q i q → slice_set Q i q ≡ Q
set_back [] i q is = refl
set_back (p ∷ Q) zero q is = ap (λ (r : List Due). r ∷ Q) is
set_back (p ∷ Q) (suc i) q is = ap (λ (R : List (List Due)). p ∷ R) (set_back Q i q is)

-- ---- within the limits

abbrev pub AreOwn : List Due → Type 0
AreOwn q = (d : Due) → IsIn d q → IsOwn (Some d.at)

pub own_added : (b : Bool) (x : Tier) (q : List Due) → AreOwn q → IsOwn (Some x) → AreOwn (added b x q)
own_added b x q all own d m = elim ((added_is b x q).only d.at (record { item = d; there = m; at = refl })) [
  | inl o ↦ subst (λ (y : Tier). IsOwn (Some y)) o.at (all o.item o.there)
  | inr e ↦ subst (λ (y : Tier). IsOwn (Some y)) (sym e) own
]

pub own_later : (q : List Due) → AreOwn q → AreOwn (later q)
own_later [] all e m = absurd m
own_later (d ∷ q) all e m = all e (inr m)

pub later_rises : (q : List Due) → IsRising time_of q → IsRising time_of (later q)
later_rises [] rising = tt
later_rises (d ∷ q) rising = rising.1

pub own_least : (q : List Due) → AreOwn q → IsOwn (least q)
own_least [] all = tt
own_least (d ∷ q) all = all d (inl refl)

pub inside_own : (L : Limits) (x : Tier) → L.until ≤ℤ latest_end → L.loops ≤ 1000 → pos 0 ≤ℤ x.time → is_inside L x ≡ true → IsOwn (Some x)
inside_own L x until loops early h = (early, grind (arith, ints), grind (arith, ints))

pub with_own_rises : (L : Limits) (q : List Due) (x : Tier) → IsRising time_of q → IsRising time_of (with_own L q x)
with_own_rises L q x rising = elim (is_inside L x) as (λ b. IsRising time_of (if b then added false x q else q)) [ true ↦ added_rises false x q rising | false ↦ rising ]

pub with_own_own : (L : Limits) (q : List Due) (x : Tier) → L.until ≤ℤ latest_end → L.loops ≤ 1000 → pos 0 ≤ℤ x.time → AreOwn q → AreOwn (with_own L q x)
with_own_own L q x until loops early all = elim (is_inside L x) as (λ b. is_inside L x ≡ b → AreOwn (if b then added false x q else q)) [
  | true ↦ λ e. own_added false x q all (inside_own L x until loops early e)
  | false ↦ λ e. all
] refl

pub with_next_rises : (L : Limits) (q : List Due) (n : Option ℤ) → IsRising time_of q → IsRising time_of (with_next L q n)
with_next_rises L q None rising = rising
with_next_rises L q (Some n) rising = with_own_rises L q (moment n) rising

pub with_next_own : (L : Limits) (q : List Due) (n : Option ℤ) → L.until ≤ℤ latest_end → L.loops ≤ 1000 → ForSome n (λ n. pos 0 ≤ℤ n) → AreOwn q → AreOwn (with_next L q n)
with_next_own L q None until loops early all = all
with_next_own L q (Some n) until loops early all = with_own_own L q (moment n) until loops (early n refl) all

-- ---- the first step after a trigger

pub least_added : (x : Tier) (q : List Due) → least (added true x q) ≡ (if is_first x q then Some x else least q)
least_added x [] = refl
least_added x (d ∷ q) = go (up_to d.at x) refl (up_to x d.at) refl
  where
    go : (b : Bool) → up_to d.at x ≡ b → (c : Bool) → up_to x d.at ≡ c → least (added true x (d ∷ q)) ≡ (if is_first x (d ∷ q) then Some x else Some d.at)
    go true e true f = rw e (rw f refl)
    go true e false f = rw e (rw f refl)
    go false e c f = let g : up_to x d.at ≡ true = up_to_total x d.at e in rw e (rw g refl)

-- ---- one simulator's part is changed

module _ (Q : List (List Due)) (O : List Bool) (B : Seen) (tidy : IsTidy Q O B) (i : ℕ) (low : i < length Q) where
  -- by its steps to come, whether its turn is open, and its start
  pub tidy_set : (q : List Due) (b : Bool) (own : Option Tier) → IsRising time_of q → AreOwn q → (b ≡ false → own ≡ least q) → IsTidy (slice_set Q i q) (slice_set O i b) (with_start B i own b)
  tidy_set q b own rises all starts = record {
    owns = length_set B.owns i own ∙ tidy.owns ∙ sym (length_set Q i q);
    opens = length_set O i b ∙ tidy.opens ∙ sym (length_set Q i q);
    busies = length_set B.busy i b ∙ tidy.busies ∙ sym (length_set Q i q);
    busy = λ j. elim (same_or_not j i) [
      | inl e ↦ ap (is_busy_in C) e ∙ here ∙ sym (ap (is_open (slice_set O i b)) e ∙ flag_here O i b (omega (arith, tidy.opens)))
      | inr n ↦ busy_else B C i own b refl j n ∙ tidy.busy j ∙ sym (flag_else O i j b n)
    ];
    starts = λ j under shut. elim (same_or_not j i) [
      | inl e ↦ ap (start_in C) e ∙ own_here B C i own b refl (omega (arith, tidy.owns))
          ∙ starts (sym (flag_here O i b (omega (arith, tidy.opens))) ∙ ap (is_open (slice_set O i b)) (sym e) ∙ shut) ∙ sym (ap least (ap (queue_in (slice_set Q i q)) e ∙ queue_here Q i q low))
      | inr n ↦ own_else B C i own b refl (omega (arith, tidy.owns)) j n ∙ tidy.starts j (omega (arith, under, length_set Q i q)) (sym (flag_else O i j b n) ∙ shut) ∙ sym (ap least (queue_else Q i j q n))
    ];
    rising = λ j. elim (same_or_not j i) [
      | inl e ↦ subst (IsRising time_of) (sym (ap (queue_in (slice_set Q i q)) e ∙ queue_here Q i q low)) rises
      | inr n ↦ subst (IsRising time_of) (sym (queue_else Q i j q n)) (tidy.rising j)
    ];
    within = λ j. elim (same_or_not j i) [
      | inl e ↦ subst AreOwn (sym (ap (queue_in (slice_set Q i q)) e ∙ queue_here Q i q low)) all
      | inr n ↦ subst AreOwn (sym (queue_else Q i j q n)) (tidy.within j)
    ];
  }
    where
      C : Seen
      C = with_start B i own b

      here : is_busy_in C i ≡ b
      here = busy_here B C i own b refl (omega (arith, tidy.busies))

  -- by its steps to come alone, where its turn is open or the first of them stays
  pub tidy_queue : (q : List Due) → IsRising time_of q → AreOwn q → (is_open O i ≡ false → least q ≡ least (queue_in Q i)) → IsTidy (slice_set Q i q) O B
  tidy_queue q rises all same = record {
    owns = tidy.owns ∙ sym (length_set Q i q);
    opens = tidy.opens ∙ sym (length_set Q i q);
    busies = tidy.busies ∙ sym (length_set Q i q);
    busy = tidy.busy;
    starts = λ j under shut. tidy.starts j (omega (arith, under, length_set Q i q)) shut ∙ elim (same_or_not j i) [
      | inl e ↦ ap (λ (k : ℕ). least (queue_in Q k)) e ∙ sym (same (ap (is_open O) (sym e) ∙ shut)) ∙ sym (ap least (ap (queue_in (slice_set Q i q)) e ∙ queue_here Q i q low))
      | inr n ↦ sym (ap least (queue_else Q i j q n))
    ];
    rising = λ j. elim (same_or_not j i) [
      | inl e ↦ subst (IsRising time_of) (sym (ap (queue_in (slice_set Q i q)) e ∙ queue_here Q i q low)) rises
      | inr n ↦ subst (IsRising time_of) (sym (queue_else Q i j q n)) (tidy.rising j)
    ];
    within = λ j. elim (same_or_not j i) [
      | inl e ↦ subst AreOwn (sym (ap (queue_in (slice_set Q i q)) e ∙ queue_here Q i q low)) all
      | inr n ↦ subst AreOwn (sym (queue_else Q i j q n)) (tidy.within j)
    ];
  }

  -- by its steps to come and its start, where its turn isn't open
  pub tidy_start : (q : List Due) → is_open O i ≡ false → IsRising time_of q → AreOwn q → IsTidy (slice_set Q i q) O (with_start B i (least q) false)
  tidy_start q shut rises all =
      let T = tidy_set q false (least q) rises all (λ _. refl) in record {
        owns = T.owns;
        opens = tidy.opens ∙ sym (length_set Q i q);
        busies = T.busies;
        busy = λ j. T.busy j ∙ flags j;
        starts = λ j under closed. T.starts j under (flags j ∙ closed);
        rising = T.rising;
        within = T.within;
      }
    where
      flags : (j : ℕ) → is_open (slice_set O i false) j ≡ is_open O j
      flags j = elim (same_or_not j i) [
        | inl e ↦ ap (is_open (slice_set O i false)) e ∙ flag_here O i false (omega (arith, tidy.opens)) ∙ sym (ap (is_open O) e ∙ shut)
        | inr n ↦ flag_else O i j false n
      ]

  -- ---- the changes

  pub begun_tidy : IsTidy (slice_set Q i (later (queue_in Q i))) (slice_set O i true) (with_start B i (least (queue_in Q i)) true)
  begun_tidy = tidy_set (later (queue_in Q i)) true (least (queue_in Q i)) (later_rises (queue_in Q i) (tidy.rising i)) (own_later (queue_in Q i) (tidy.within i)) (λ h. absurd (true≢false h))

  pub closed_tidy : (L : Limits) (n : Option ℤ) → L.until ≤ℤ latest_end → L.loops ≤ 1000 → ForSome n (λ n. pos 0 ≤ℤ n)
      → IsTidy (slice_set Q i (with_next L (queue_in Q i) n)) (slice_set O i false) (with_start B i (least (with_next L (queue_in Q i) n)) false)
  closed_tidy L n until loops early = tidy_set (with_next L (queue_in Q i) n) false (least (with_next L (queue_in Q i) n))
      (with_next_rises L (queue_in Q i) n (tidy.rising i)) (with_next_own L (queue_in Q i) n until loops early (tidy.within i)) (λ _. refl)

  pub triggered_tidy : (x : Tier) → IsOwn (Some x) → IsTidy (slice_set Q i (added true x (queue_in Q i))) O (with_trigger B O (queue_in Q i) i x)
  triggered_tidy x own = go (is_first x (queue_in Q i)) refl (is_open O i) refl
    where
      q : List Due
      q = added true x (queue_in Q i)

      rises : IsRising time_of q
      rises = added_rises true x (queue_in Q i) (tidy.rising i)

      all : AreOwn q
      all = own_added true x (queue_in Q i) (tidy.within i) own

      first : (f : Bool) → is_first x (queue_in Q i) ≡ f → least q ≡ (if f then Some x else least (queue_in Q i))
      first f e = least_added x (queue_in Q i) ∙ ap (λ (b : Bool). if b then Some x else least (queue_in Q i)) e

      go : (f : Bool) → is_first x (queue_in Q i) ≡ f → (o : Bool) → is_open O i ≡ o → IsTidy (slice_set Q i q) O (with_trigger B O (queue_in Q i) i x)
      go true e true h = rw e (rw h (tidy_queue q rises all (λ k. absurd (true≢false (sym h ∙ k)))))
      go true e false h = rw e (rw h (subst (λ (o : Option Tier). IsTidy (slice_set Q i q) O (with_start B i o false)) (first true e) (tidy_start q h rises all)))
      go false e o h = rw e (tidy_queue q rises all (λ _. first false e))
