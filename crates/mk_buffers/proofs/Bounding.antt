-- Outputs that are held are at most as many as there are connections, source attributes, and late
-- outputs.
use Rattle.std.proofs.Common.{◌≡◌, inl, inr, ℕ, suc, ◌+◌, ◌≤◌, ℤ, Bool, true, false, not, ◌&&◌, ◌||◌, if◌then◌else◌, List, [], ◌∷◌, length, filter, Some, slice_get, refl, sym, ap, subst, ◌∙◌, ◌==◌, arith, true≢false, int_lt, int_le}
use Rattle.std.specs.List.{list_all, list_any, sum_by}
use Rattle.std.proofs.lemmas.List.Filters.{length-filter_both}
use Rattle.std.proofs.lemmas.List.Sums.{sum_by-cons}
use Rattle.std.proofs.lemmas.Slice.Eq.{bytes_eq-Decides}
use Rattle.mk_base.specs.declared.tier.Tier.{Tier}
use Rattle.mk_base.specs.declared.tier.Via.{Via}
use Rattle.mk_base.specs.Lists.{IsIn, same_text}
use Rattle.mk_base.specs.Tiers.{delayed, up_to}
use Rattle.mk_base.proofs.Lists.{get_is, in_at, some_passes, passes_some}
use Rattle.mk_plan.specs.declared.Plan.{Plan}
use Rattle.mk_plan.specs.declared.Conn.{Conn}
use Rattle.mk_plan.specs.Deliveries.{Timed, Supply}
use Rattle.mk_buffers.specs.declared.outlets.Outlet.{Outlet}
use Rattle.mk_buffers.specs.declared.buffers.Buffers.{Buffers}
use Rattle.mk_buffers.specs.Bounds.{same_source, sources, comes_late, is_late, late_of, most_kept}
use Rattle.mk_buffers.specs.Held.{is_key, kept_in}
use Rattle.mk_buffers_log.specs.Logs.{is_settled}
use Rattle.mk_buffers.specs.Standing.{StandFor}
use Rattle.mk_buffers.proofs.Collecting.{key_of}
use Rattle.mk_buffers_log.proofs.Fitting.{AreApart, fitting, sum_ones}
use Rattle.mk_buffers_log.proofs.Keeping.{implied}
use Rattle.mk_base.proofs.Counts.{before_end, equal_same, same_equal}
use Rattle.mk_base.proofs.Bools.{or_second, and_holds, both_hold, neither_holds}

pub sum_le : {X : Type 0} (f g : X → ℕ) (xs : List X) → ((x : X) → IsIn x xs → f x ≤ g x) → sum_by f xs ≤ sum_by g xs
sum_le f g [] h = omega arith
sum_le f g (x ∷ xs) h = omega (arith, sum_by-cons f x xs, sum_by-cons g x xs, h x (inl refl), sum_le f g xs (λ y m. h y (inr m)))

sum_add : {X : Type 0} (f g : X → ℕ) (xs : List X) → sum_by (λ x. f x + g x) xs ≡ sum_by f xs + sum_by g xs
sum_add f g [] = refl
sum_add f g (x ∷ xs) = omega (arith, sum_by-cons (λ x. f x + g x) x xs, sum_by-cons f x xs, sum_by-cons g x xs, sum_add f g xs)

-- each connection's source attribute is among the distinct ones
source_in : (cs : List Conn) (c : Conn) → IsIn c cs → (d : Conn) × IsIn d (sources cs) × (c.from ≡ d.from) × (c.from_attr ≡ d.from_attr)
source_in [] c m = absurd m
source_in (x ∷ xs) c m = go (λ y r. source_in xs y r) (list_any (same_source x) xs) refl m
  where
    go : ((y : Conn) → IsIn y xs → (d : Conn) × IsIn d (sources xs) × (y.from ≡ d.from) × (y.from_attr ≡ d.from_attr))
        → (b : Bool) → list_any (same_source x) xs ≡ b → IsIn c (x ∷ xs) → (d : Conn) × IsIn d (if b then sources xs else x ∷ sources xs) × (c.from ≡ d.from) × (c.from_attr ≡ d.from_attr)
    go more true e (inl q) =
        let y = some_passes (same_source x) xs e in
        let both = both_hold (y.0.from == x.from) (same_text y.0.from_attr x.from_attr) y.2 in
        let d = more y.0 y.1 in
        (d.0, d.1, ap (λ (k : Conn). k.from) q ∙ sym (same_equal y.0.from x.from both.0) ∙ d.2, ap (λ (k : Conn). k.from_attr) q ∙ sym ((bytes_eq-Decides y.0.from_attr x.from_attr).0 both.1) ∙ d.3)
    go more true e (inr r) = more c r
    go more false e (inl q) = (x, inl refl, ap (λ (k : Conn). k.from) q, ap (λ (k : Conn). k.from_attr) q)
    go more false e (inr r) = let d = more c r in (d.0, inr d.1, d.2, d.3)

-- where not all pass a test, one fails it
some_fails : (test : Via → Bool) (vs : List Via) → list_all test vs ≡ false → (v : Via) × IsIn v vs × (test v ≡ false)
some_fails test [] h = absurd (true≢false h)
some_fails test (v ∷ vs) h = go (λ r. some_fails test vs r) (test v) refl
  where
    go : (list_all test vs ≡ false → (w : Via) × IsIn w vs × (test w ≡ false)) → (b : Bool) → test v ≡ b → (w : Via) × IsIn w (v ∷ vs) × (test w ≡ false)
    go more true e = let r = more (sym (ap (λ (b : Bool). b && list_all test vs) e) ∙ h) in (r.0, inr r.1, r.2)
    go more false e = (v, inl refl, e)

-- what isn't settled is late
late_if : (P : Plan) (mark : Tier) (e : ℕ) (attr : List ℕ) (vias : List Via) (x : Tier) → ((v : Via) → IsIn v vias → (c : Conn) × IsIn c P.conns × (e ≡ c.from) × (attr ≡ c.from_attr) × (v ≡ c.via))
    → is_settled vias P.until mark x ≡ false → is_late P mark e attr x ≡ true
late_if P mark e attr vias x delays h = go (up_to x mark) refl
  where
    go : (b : Bool) → up_to x mark ≡ b → is_late P mark e attr x ≡ true
    go false q = ap (λ (b : Bool). not b || list_any (λ c. (c.from == e) && same_text c.from_attr attr && comes_late P mark x c) P.conns) q
    go true q =
        let w = some_fails (λ v. up_to (delayed x v) mark || int_le P.until (delayed x v).time) vias (sym (ap (λ (b : Bool). b && list_all (λ v. up_to (delayed x v) mark || int_le P.until (delayed x v).time) vias) q) ∙ h) in
        let both = neither_holds (up_to (delayed x w.0) mark) (int_le P.until (delayed x w.0).time) w.2 in
        let c = delays w.0 w.1 in
        let late : comes_late P mark x c.0 ≡ true = subst (λ (v : Via). not (up_to (delayed x v) mark) && int_lt (delayed x v).time P.until ≡ true) c.4
        (and_holds (not (up_to (delayed x w.0) mark)) (int_lt (delayed x w.0).time P.until) (ap not both.0) (before_end (delayed x w.0) P.until both.1)) in
        or_second (not (up_to x mark)) (list_any (λ c. (c.from == e) && same_text c.from_attr attr && comes_late P mark x c) P.conns)
        (passes_some (λ (c : Conn). (c.from == e) && same_text c.from_attr attr && comes_late P mark x c) c.0 P.conns c.1
        (and_holds ((c.0.from == e) && same_text c.0.from_attr attr) (comes_late P mark x c.0) (and_holds (c.0.from == e) (same_text c.0.from_attr attr) (equal_same c.0.from e (sym c.2)) ((bytes_eq-Decides c.0.from_attr attr).1 (sym c.3))) late))

module _ (P : Plan) (b : Buffers) (S : Supply) (st : StandFor P b S) where
  abbrev late_at : ℕ → List ℕ → ℕ
  late_at e attr = length (filter (λ t. is_late P b.marks.least e attr t.at) (S.outputs e attr))

  -- what an outlet holds
  kept_at : (i : ℕ) (o : Outlet) → slice_get b.outlets.items i ≡ Some o → length o.log ≤ length o.vias.items + (late_at o.entity o.attr + 1)
  kept_at i o at =
      let few = st.of_plan.tight.few i o at (let l = st.of_plan.tight.looked i o at in (get_is b.feeds.items o.sim l.part l.at_sim).0) in
      let late : length (filter (λ t. not (is_settled o.vias.items b.until b.marks.least t.at)) (S.outputs o.entity o.attr)) ≤ late_at o.entity o.attr =
      implied (λ t. not (is_settled o.vias.items b.until b.marks.least t.at)) (λ t. is_late P b.marks.least o.entity o.attr t.at) (S.outputs o.entity o.attr)
      (λ t m h. late_if P b.marks.least o.entity o.attr o.vias.items t.at (λ v r. st.of_plan.shape.delays i o v at r) (subst (λ (u : ℤ). is_settled o.vias.items u b.marks.least t.at ≡ false) st.of_plan.until (not_is (is_settled o.vias.items b.until b.marks.least t.at) h))) in
      omega (arith, few, late, st.among i o at (λ t. not (is_settled o.vias.items b.until b.marks.least t.at)), length-filter_both (λ (t : Timed). is_settled o.vias.items b.until b.marks.least t.at) (λ t. not (is_settled o.vias.items b.until b.marks.least t.at)) (λ t. refl) o.log)
    where
      not_is : (c : Bool) → not c ≡ true → c ≡ false
      not_is true h = absurd (true≢false (sym h))
      not_is false h = refl

  abbrev Of : Outlet → Conn → Type 0
  Of o c = (o.entity ≡ c.from) × (o.attr ≡ c.from_attr)

  same_late : (o : Outlet) (c : Conn) → Of o c → late_at o.entity o.attr + 1 ≤ late_of P S b.marks.least c + 1
  same_late o c r = let one : late_at o.entity o.attr ≡ late_of P S b.marks.least c = (λ k. late_at (r.0 k) (r.1 k)) in omega (arith, one)

  apart_all : (os : List Outlet) → ((i j : ℕ) (o q : Outlet) → slice_get os i ≡ Some o → slice_get os j ≡ Some q → is_key o.entity o.attr q ≡ true → i ≡ j)
      → AreApart Of os
  apart_all [] once = tt
  apart_all (o ∷ os) once = (
    λ z c m f g. let j = in_at z os m in let e = once 0 (suc j.0) o z refl j.1 (key_of z o.entity o.attr (g.0 ∙ sym f.0) (g.1 ∙ sym f.1)) in absurd (omega (arith, e)),
    apart_all os (λ i j p q at to key. let e = once (suc i) (suc j) p q at to key in omega (arith, e)),
  )

  source_of : (o : Outlet) → IsIn o b.outlets.items → (c : Conn) × IsIn c (sources P.conns) × Of o c
  source_of o m =
      let i = in_at o b.outlets.items m in
      let c = st.of_plan.shape.taken i.0 o i.1 in
      let d = source_in P.conns c.0 c.1 in
      (d.0, d.1, (c.2 ∙ d.2, c.3 ∙ d.3))

  pub held_most : kept_in b.outlets.items ≤ most_kept P S b.marks.least
  held_most =
      let each = sum_le (λ (o : Outlet). length o.log) (λ (o : Outlet). length o.vias.items + (late_at o.entity o.attr + 1)) b.outlets.items (λ o m. let i = in_at o b.outlets.items m in kept_at i.0 o i.1) in
      let fits = fitting Of (λ o. late_at o.entity o.attr + 1) (λ c. late_of P S b.marks.least c + 1) same_late b.outlets.items (sources P.conns) (apart_all b.outlets.items st.of_plan.once) source_of in
      omega (
        arith,
        each,
        fits,
        st.of_plan.shape.few,
        sum_add (λ (o : Outlet). length o.vias.items) (λ (o : Outlet). late_at o.entity o.attr + 1) b.outlets.items,
        sum_add (late_of P S b.marks.least) (λ c. 1) (sources P.conns),
        sum_ones (sources P.conns),
      )
