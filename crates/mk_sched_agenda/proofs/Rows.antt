-- The outlets of each simulator, as connections are added one by one.
use Rattle.std.proofs.Common.{◌≡◌, ℕ, zero, suc, ◌+◌, ◌<◌, Bool, true, false, ◌&&◌, List, [], ◌∷◌, ◌++◌, length, filter, take, get_or, Option, Some, unwrap_or, slice_get, slice_set, refl, sym, ap, ◌∙◌, subst, inl, inr, arith, add-one, ◌==◌, if◌then◌else◌}
use Rattle.std.proofs.lemmas.Bool.{eqb-true, eq-eqb}
use Rattle.mk_base.proofs.Lists.{below_get, set_here, set_else, length_set}
use Rattle.mk_plan.specs.declared.Plan.{Plan}
use Rattle.mk_plan.specs.declared.Conn.{Conn}
use Rattle.mk_plan.specs.Plans.{owner, sim_count}
use Rattle.mk_sched_agenda.specs.declared.outlets.Outlet.{Outlet}
use Rattle.mk_sched_agenda.specs.Outlets.{IsOutletOf, AreOutletsOf, outlets_in}
use Rattle.mk_plan.specs.Deliveries.{triggering_in}
use Rattle.mk_sched_agenda.specs.inner.Outlets.{AreRowsOf}
use Rattle.mk_base.proofs.Items.{take_get}
use Rattle.mk_base.proofs.Counts.{same_or_not}

pub filter_more : {X : Type 0} (p : X → Bool) (xs : List X) (x : X) → filter p (xs ++ x ∷ []) ≡ filter p xs ++ (if p x then x ∷ [] else [])
filter_more p [] x = elim (p x) as (λ b. (if b then x ∷ [] else []) ≡ [] ++ (if b then x ∷ [] else [])) [ true ↦ refl | false ↦ refl ]
filter_more p (y ∷ ys) x = elim (p y) as (λ b. (if b then y ∷ filter p (ys ++ x ∷ []) else filter p (ys ++ x ∷ [])) ≡ (if b then y ∷ filter p ys else filter p ys) ++ (if p x then x ∷ [] else [])) [
  | true ↦ ap (λ l. y ∷ l) (filter_more p ys x)
  | false ↦ filter_more p ys x
]

pub append_none : {X : Type 0} (xs : List X) → xs ++ [] ≡ xs
append_none [] = refl
append_none (x ∷ xs) = ap (λ l. x ∷ l) (append_none xs)

-- ---- rows in their list

pub outlets_here : (R : List (List Outlet)) (i : ℕ) (r : List Outlet) → i < length R → outlets_in (slice_set R i r) i ≡ r
outlets_here R i r low = let t = below_get R i low in ap (λ (o : Option (List Outlet)). unwrap_or o []) (set_here R i r t.0 t.1)

pub outlets_else : (R : List (List Outlet)) (i j : ℕ) (r : List Outlet) → (j ≡ i → ⊥) → outlets_in (slice_set R i r) j ≡ outlets_in R j
outlets_else R i j r n = ap (λ (o : Option (List Outlet)). unwrap_or o []) (set_else R i j r n)

pub outlets_at : (R : List (List Outlet)) (i : ℕ) (r : List Outlet) → i < length R → r ≡ get_or R i r → outlets_in R i ≡ r
outlets_at [] i r low is = absurd (omega arith)
outlets_at (p ∷ R) zero r low is = sym is
outlets_at (p ∷ R) (suc i) r low is = outlets_at R i r (omega arith) is

pub none_more : (R : List (List Outlet)) → ((i : ℕ) → outlets_in R i ≡ []) → (i : ℕ) → outlets_in (R ++ [] ∷ []) i ≡ []
none_more [] all zero = refl
none_more [] all (suc i) = refl
none_more (r ∷ R) all zero = all zero
none_more (r ∷ R) all (suc i) = none_more R (λ j. all (suc j)) i

-- ---- one connection more

module _ (P : Plan) where
  pub outlets_more : (cs : List Conn) (os : List Outlet) (c : Conn) (o : Outlet) → AreOutletsOf P cs os → IsOutletOf P c o → AreOutletsOf P (cs ++ c ∷ []) (os ++ o ∷ [])
  outlets_more [] [] c o all is = (is, tt)
  outlets_more [] (p ∷ os) c o all is = absurd all
  outlets_more (d ∷ cs) [] c o all is = absurd all
  outlets_more (d ∷ cs) (p ∷ os) c o all is = (all.0, outlets_more cs os c o all.1 is)

  module _ (k : ℕ) (c : Conn) (there : slice_get P.conns k ≡ Some c) where
    pub triggering_more : (i : ℕ) (b : Bool) → (c.triggering && (owner P c.from == i)) ≡ b → triggering_in P i (take (k + 1) P.conns) ≡ triggering_in P i (take k P.conns) ++ (if b then c ∷ [] else [])
    triggering_more i b is = ap (triggering_in P i) (ap (λ (n : ℕ). take n P.conns) (add-one k) ∙ take_get P.conns k c there) ∙ filter_more (λ (d : Conn). d.triggering && (owner P d.from == i)) (take k P.conns) c
        ∙ ap (λ (b : Bool). triggering_in P i (take k P.conns) ++ (if b then c ∷ [] else [])) is

    same_row : (i : ℕ) → (c.triggering && (owner P c.from == i)) ≡ false → (os : List Outlet) → AreOutletsOf P (triggering_in P i (take k P.conns)) os → AreOutletsOf P (triggering_in P i (take (k + 1) P.conns)) os
    same_row i is os all = subst (λ (cs : List Conn). AreOutletsOf P cs os) (sym (triggering_more i false is ∙ append_none (triggering_in P i (take k P.conns)))) all

    pub rows_kept : (R : List (List Outlet)) → c.triggering ≡ false → AreRowsOf P k R → AreRowsOf P (k + 1) R
    rows_kept R off rows = record { count = rows.count; each = λ i low. same_row i (ap (λ (b : Bool). b && (owner P c.from == i)) off) (outlets_in R i) (rows.each i low) }

    pub rows_more : (R : List (List Outlet)) (o : Outlet) → c.triggering ≡ true → owner P c.from < sim_count P → IsOutletOf P c o → AreRowsOf P k R → AreRowsOf P (k + 1) (slice_set R (owner P c.from) (outlets_in R (owner P c.from) ++ o ∷ []))
    rows_more R o on low is rows = record { count = length_set R s row ∙ rows.count; each = each }
      where
        s : ℕ
        s = owner P c.from

        row : List Outlet
        row = outlets_in R s ++ o ∷ []

        each : (i : ℕ) → i < sim_count P → AreOutletsOf P (triggering_in P i (take (k + 1) P.conns)) (outlets_in (slice_set R s row) i)
        each i under = elim (same_or_not i s) [
          | inl e ↦ subst (λ (os : List Outlet). AreOutletsOf P (triggering_in P i (take (k + 1) P.conns)) os) (sym (ap (outlets_in (slice_set R s row)) e ∙ outlets_here R s row (omega (arith, low, rows.count))))
              (subst (λ (cs : List Conn). AreOutletsOf P cs row) (sym (triggering_more i true (ap (λ (b : Bool). b && (s == i)) on ∙ eq-eqb s i (sym e))))
              (outlets_more (triggering_in P i (take k P.conns)) (outlets_in R s) c o (subst (λ (j : ℕ). AreOutletsOf P (triggering_in P i (take k P.conns)) (outlets_in R j)) e (rows.each i under)) is))
          | inr n ↦ subst (λ (os : List Outlet). AreOutletsOf P (triggering_in P i (take (k + 1) P.conns)) os) (sym (outlets_else R s i row n))
              (same_row i (ap (λ (b : Bool). b && (s == i)) on ∙ off s i (λ e. n (sym e))) (outlets_in R i) (rows.each i under))
        ]
          where
            off : (a b : ℕ) → (a ≡ b → ⊥) → (a == b) ≡ false
            off a b n = elim (a == b) as (λ t. (a == b) ≡ t → t ≡ false) [ true ↦ λ e. absurd (n (eqb-true a b e)) | false ↦ λ e. refl ] refl

    pub rows_pushed : (R : List (List Outlet)) (o : Outlet) (s : ℕ) (r new : List Outlet) → s ≡ owner P c.from → c.triggering ≡ true → s < sim_count P → IsOutletOf P c o → r ≡ get_or R s r → new ≡ r ++ o ∷ [] → AreRowsOf P k R → AreRowsOf P (k + 1) (slice_set R s new)
    rows_pushed R o s r new from on low is old grown rows =
        let same : new ≡ outlets_in R s ++ o ∷ [] = grown ∙ ap (λ (l : List Outlet). l ++ o ∷ []) (sym (outlets_at R s r (omega (arith, low, rows.count)) old)) in
        subst (λ (l : List Outlet). AreRowsOf P (k + 1) (slice_set R s l)) (sym same)
        (subst (λ (i : ℕ). AreRowsOf P (k + 1) (slice_set R i (outlets_in R i ++ o ∷ []))) (sym from) (rows_more R o on (subst (λ (i : ℕ). i < sim_count P) from low) is rows))

  -- before any connection
  pub rows_none : (R : List (List Outlet)) → length R ≡ sim_count P → ((i : ℕ) → outlets_in R i ≡ []) → AreRowsOf P 0 R
  rows_none R count none = record { count = count; each = λ i low. subst (λ (os : List Outlet). AreOutletsOf P [] os) (sym (none i)) tt }
