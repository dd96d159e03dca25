-- A value put under a name among entries whose names rise.
use Rattle.std.proofs.Common.{◌≡◌, ℕ, suc, List, [], ◌∷◌, length, slice_set, refl, sym, ap, ◌∙◌, arith, true, false, ◌≤◌, cond, Bool, true≢false, subst, Result, Ok, Err, OnOk, OnErr}
use Rattle.std.specs.Ordering.{nat_cmp, ordering_reverse, is_gt, is_eq, match_ordering}
use Rattle.std.specs.declared.cmp.Ordering.{Ordering}
use Rattle.std.specs.declared.cmp.Ordering.TheVariants.{Less, Equal, Greater}
use Rattle.std.specs.Cmp.Lexicographic.{slice_cmp}
use Rattle.std.specs.List.{AllByRecursion, insert}
use Rattle.std.specs.List.Sorted.{IsStrictlySortedBy}
use Rattle.std.specs.Map.{keys_of}
use Rattle.std.specs.BTreeMap.{insert_entry}
use Rattle.std.proofs.lemmas.Cmp.{nat_list_cmp_total}
use Rattle.std.proofs.lemmas.Map.Text.{is_eq-slice_cmp}
use Rattle.std.proofs.lemmas.Slice.Eq.{bytes_eq-Decides}
use Rattle.mk_base.specs.Lists.{same_text}
use Rattle.mk_base.specs.inner.Lists.{place_under, is_name_at}

module _ {V : Type 0} (k : List ℕ) (v : V) where
  put_all : (P : List ℕ → Type 0) (es : List (List ℕ × V)) → AllByRecursion P (keys_of es) → P k → AllByRecursion P (keys_of (insert_entry (slice_cmp nat_cmp) es k v))
  put_all P [] a p = (p, tt)
  put_all P (e ∷ es) a p = by (slice_cmp nat_cmp k e.0) (put_all P es a.1 p)
    where
      by : (r : Ordering) → AllByRecursion P (keys_of (insert_entry (slice_cmp nat_cmp) es k v)) → AllByRecursion P (keys_of (match_ordering r ((k, v) ∷ e ∷ es) ((e.0, v) ∷ es) (e ∷ insert_entry (slice_cmp nat_cmp) es k v)))
      by Less h = (p, a)
      by Equal h = a
      by Greater h = (a.0, h)

  past : (x : List ℕ) (ys : List (List ℕ)) → slice_cmp nat_cmp k x ≡ Less → AllByRecursion (λ y. slice_cmp nat_cmp x y ≡ Less) ys → AllByRecursion (λ y. slice_cmp nat_cmp k y ≡ Less) ys
  past x [] h a = tt
  past x (y ∷ ys) h a = (nat_list_cmp_total.trans k x y h a.0, past x ys h a.1)

  pub put_rises : (es : List (List ℕ × V)) → IsStrictlySortedBy (slice_cmp nat_cmp) (keys_of es) → IsStrictlySortedBy (slice_cmp nat_cmp) (keys_of (insert_entry (slice_cmp nat_cmp) es k v))
  unfolding IsStrictlySortedBy
  put_rises [] s = (tt, tt)
  put_rises (e ∷ es) s = by (slice_cmp nat_cmp k e.0) refl (put_rises es s.1)
    where
      by : (r : Ordering) → slice_cmp nat_cmp k e.0 ≡ r → IsStrictlySortedBy (slice_cmp nat_cmp) (keys_of (insert_entry (slice_cmp nat_cmp) es k v)) → IsStrictlySortedBy (slice_cmp nat_cmp) (keys_of (match_ordering r ((k, v) ∷ e ∷ es) ((e.0, v) ∷ es) (e ∷ insert_entry (slice_cmp nat_cmp) es k v)))
      by Less p h = ((p, past e.0 (keys_of es) p s.0), s)
      by Equal p h = s
      by Greater p h = (put_all (λ y. slice_cmp nat_cmp e.0 y ≡ Less) es s.0 (nat_list_cmp_total.antisymm e.0 k ∙ ap ordering_reverse p), h)

  pub place_within : (es : List (List ℕ × V)) → place_under k es ≤ length es
  place_within [] = omega arith
  place_within (e ∷ es) = by (slice_cmp nat_cmp k e.0) (place_within es)
    where
      by : (r : Ordering) → place_under k es ≤ length es → cond (is_gt r) (suc (place_under k es)) 0 ≤ suc (length es)
      by Less h = omega arith
      by Equal h = omega arith
      by Greater h = omega (arith, h)

  -- the comparison and the test of equality agree
  test_is : (x : List ℕ) → same_text k x ≡ is_eq (slice_cmp nat_cmp k x)
  test_is x = sym (is_eq-slice_cmp k x)

  -- what is at the place of the name, by how the name compares with the first
  abbrev at_place : (List ℕ × V) → List (List ℕ × V) → Ordering → Bool
  at_place e es r = is_name_at k (e ∷ es) (cond (is_gt r) (suc (place_under k es)) 0)

  pub put_new : (es : List (List ℕ × V)) → is_name_at k es (place_under k es) ≡ false → insert_entry (slice_cmp nat_cmp) es k v ≡ insert es (place_under k es) (k, v)
  put_new [] h = refl
  put_new (e ∷ es) h = by (slice_cmp nat_cmp k e.0) refl (put_new es)
    where
      by : (r : Ordering) → slice_cmp nat_cmp k e.0 ≡ r → (is_name_at k es (place_under k es) ≡ false → insert_entry (slice_cmp nat_cmp) es k v ≡ insert es (place_under k es) (k, v)) → insert_entry (slice_cmp nat_cmp) (e ∷ es) k v ≡ insert (e ∷ es) (place_under k (e ∷ es)) (k, v)
      by Less p more = rw p refl
      by Equal p more = absurd (true≢false (sym (test_is e.0 ∙ ap is_eq p) ∙ ap (at_place e es) (sym p) ∙ h))
      by Greater p more = rw p (ap (λ (l : List (List ℕ × V)). e ∷ l) (more (ap (at_place e es) (sym p) ∙ h)))

  pub put_again : (es : List (List ℕ × V)) → is_name_at k es (place_under k es) ≡ true → insert_entry (slice_cmp nat_cmp) es k v ≡ slice_set es (place_under k es) (k, v)
  put_again [] h = absurd (true≢false (sym h))
  put_again (e ∷ es) h = by (slice_cmp nat_cmp k e.0) refl (put_again es)
    where
      by : (r : Ordering) → slice_cmp nat_cmp k e.0 ≡ r → (is_name_at k es (place_under k es) ≡ true → insert_entry (slice_cmp nat_cmp) es k v ≡ slice_set es (place_under k es) (k, v)) → insert_entry (slice_cmp nat_cmp) (e ∷ es) k v ≡ slice_set (e ∷ es) (place_under k (e ∷ es)) (k, v)
      by Less p more = absurd (true≢false (sym h ∙ sym (ap (at_place e es) (sym p)) ∙ test_is e.0 ∙ ap is_eq p))
      by Equal p more = rw p (ap (λ (n : List ℕ). let q : List ℕ × V = (n, v) in q ∷ es) (sym ((bytes_eq-Decides k e.0).0 (test_is e.0 ∙ ap is_eq p))))
      by Greater p more = rw p (ap (λ (l : List (List ℕ × V)). e ∷ l) (more (ap (at_place e es) (sym p) ∙ h)))

  -- the same where the place is known by an equation
  pub put_by_set : (es new : List (List ℕ × V)) (p : ℕ) → p ≡ place_under k es → is_name_at k es p ≡ true → new ≡ slice_set es p (k, v) → new ≡ insert_entry (slice_cmp nat_cmp) es k v
  put_by_set es new p at there is = is ∙ ap (λ n. slice_set es n (k, v)) at ∙ sym (put_again es (ap (is_name_at k es) (sym at) ∙ there))

  pub put_by_insert : (es new : List (List ℕ × V)) (p : ℕ) → p ≡ place_under k es → is_name_at k es p ≡ false → new ≡ insert es p (k, v) → new ≡ insert_entry (slice_cmp nat_cmp) es k v
  put_by_insert es new p at absent is = is ∙ ap (λ n. insert es n (k, v)) at ∙ sym (put_new es (ap (is_name_at k es) (sym at) ∙ absent))

  pub put_keeps : {E : Type 0} (r : Result (Unit {0}) E) (es new : List (List ℕ × V)) → OnOk r (new ≡ insert_entry (slice_cmp nat_cmp) es k v) → OnErr r (new ≡ es) → IsStrictlySortedBy (slice_cmp nat_cmp) (keys_of es) → IsStrictlySortedBy (slice_cmp nat_cmp) (keys_of new)
  put_keeps (Ok u) es new ok err s = subst (λ (l : List (List ℕ × V)). IsStrictlySortedBy (slice_cmp nat_cmp) (keys_of l)) (sym ok) (put_rises es s)
  put_keeps (Err e) es new ok err s = subst (λ (l : List (List ℕ × V)). IsStrictlySortedBy (slice_cmp nat_cmp) (keys_of l)) (sym err) s
