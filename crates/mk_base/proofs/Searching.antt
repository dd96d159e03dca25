-- Where names rise, those below a name stand before all others: their count is its place.
use Rattle.std.proofs.Common.{◌≡◌, ℕ, zero, suc, ◌<◌, ◌≤◌, ◌-◌, Bool, true, false, true≢false, List, [], ◌∷◌, length, Option, Some, None, option_map, slice_get, get_or, refl, sym, ap, ◌∙◌, arith, cond, if◌then◌else◌}
use Rattle.std.specs.Cmp.Lexicographic.{slice_cmp}
use Rattle.std.specs.List.{AllByRecursion, find}
use Rattle.std.specs.List.Sorted.{IsStrictlySortedBy, IsPartitionedBy, IsPartitionPoint}
use Rattle.std.specs.Map.{keys_of}
use Rattle.std.specs.Ordering.{nat_cmp, is_gt, is_eq, ordering_reverse}
use Rattle.std.specs.declared.cmp.Ordering.{Ordering}
use Rattle.std.specs.declared.cmp.Ordering.TheVariants.{Less, Equal, Greater}
use Rattle.std.proofs.lemmas.Cmp.{nat_list_cmp_total}
use Rattle.std.proofs.lemmas.Map.Text.{is_eq-slice_cmp}
use Rattle.mk_base.specs.Lists.{same_text, value_under}
use Rattle.mk_base.specs.inner.Lists.{place_under, value_if_named}

gt_is : (o : Ordering) → is_gt o ≡ true → o ≡ Greater
gt_is Less h = absurd (true≢false (sym h))
gt_is Equal h = absurd (true≢false (sym h))
gt_is Greater h = refl

-- of a name below another, each name that is greater than the other is greater
greater_too : (k x y : List ℕ) → slice_cmp nat_cmp x y ≡ Less → is_gt (slice_cmp nat_cmp k y) ≡ true → is_gt (slice_cmp nat_cmp k x) ≡ true
greater_too k x y less greater =
    let below : slice_cmp nat_cmp y k ≡ Less = nat_list_cmp_total.antisymm y k ∙ ap ordering_reverse (gt_is (slice_cmp nat_cmp k y) greater) in
    ap is_gt (nat_list_cmp_total.antisymm k x ∙ ap ordering_reverse (nat_list_cmp_total.trans x y k less below))

-- whether the name is x, by how it compares with it
test_is : (k x : List ℕ) (r : Ordering) → slice_cmp nat_cmp k x ≡ r → same_text k x ≡ is_eq r
test_is k x r e = sym (is_eq-slice_cmp k x) ∙ ap is_eq e

turned_is : (k x : List ℕ) (r : Ordering) → slice_cmp nat_cmp k x ≡ r → same_text x k ≡ is_eq (ordering_reverse r)
turned_is k x r e = sym (is_eq-slice_cmp x k) ∙ ap is_eq (nat_list_cmp_total.antisymm x k ∙ ap ordering_reverse e)

module _ {V : Type 0} (k : List ℕ) where
  abbrev pub is_past : List ℕ × V → Bool
  is_past e = is_gt (slice_cmp nat_cmp k e.0)

  first_too : (x : List ℕ) (es : List (List ℕ × V)) → AllByRecursion (λ y. slice_cmp nat_cmp x y ≡ Less) (keys_of es) → (j : ℕ) (d : List ℕ × V) → j < length es → is_past (get_or es j d) ≡ true → is_gt (slice_cmp nat_cmp k x) ≡ true
  first_too x [] all j d low past = absurd (omega (arith, low))
  first_too x (e ∷ es) all zero d low past = greater_too k x e.0 all.0 past
  first_too x (e ∷ es) all (suc j) d low past = first_too x es all.1 j d (omega (arith, low)) past

  pub parted : (es : List (List ℕ × V)) → IsStrictlySortedBy (slice_cmp nat_cmp) (keys_of es) → IsPartitionedBy is_past es
  unfolding IsStrictlySortedBy
  parted [] s i j d up low past = absurd (omega (arith, low))
  parted (e ∷ es) s zero zero d up low past = past
  parted (e ∷ es) s zero (suc j) d up low past = first_too e.0 es s.0 j d (omega (arith, low)) past
  parted (e ∷ es) s (suc i) zero d up low past = absurd (omega (arith, up))
  parted (e ∷ es) s (suc i) (suc j) d up low past = parted es s.1 i j d (omega (arith, up)) (omega (arith, low)) past

  pub place_is : (es : List (List ℕ × V)) (i : ℕ) → i ≤ length es → IsPartitionPoint (λ e. is_past e ≡ true) (λ e. is_past e ≡ false) es i → i ≡ place_under k es
  place_is [] i low p = omega (arith, low)
  place_is (e ∷ es) zero low p = ap (λ b. cond b (suc (place_under k es)) 0) (sym (p.1 0 e (omega arith) (omega arith)))
  place_is (e ∷ es) (suc i) low p =
      ap suc (place_is es i (omega (arith, low)) ((λ j d a b. p.0 (suc j) d (omega arith) (omega (arith, b))), λ j d a b. p.1 (suc j) d (omega (arith, a)) (omega (arith, b))))
      ∙ ap (λ b. cond b (suc (place_under k es)) 0) (sym (p.0 0 e (omega arith) (omega arith)))

  get_is : (es : List (List ℕ × V)) (i : ℕ) (e d : List ℕ × V) → slice_get es i ≡ Some e → get_or es i d ≡ e
  get_is [] i e d is = cc
  get_is (f ∷ es) zero e d is = cc
  get_is (f ∷ es) (suc i) e d is = get_is es i e d is

  -- a name behind the last one is behind all
  pub past_end : (es : List (List ℕ × V)) (e : List ℕ × V) → IsStrictlySortedBy (slice_cmp nat_cmp) (keys_of es) → slice_get es (length es - 1) ≡ Some e → is_past e ≡ true → length es ≡ place_under k es
  past_end [] e s is past = refl
  past_end (f ∷ es) e s is past = place_is (f ∷ es) (length (f ∷ es)) (omega arith) (
    (λ j d a b. parted (f ∷ es) s j (length (f ∷ es) - 1) d (omega (arith, b)) (omega arith) (ap is_past (get_is (f ∷ es) (length (f ∷ es) - 1) e d is) ∙ past)),
    λ j d a b. absurd (omega (arith, a, b)),
  )

  -- the value under the name, by the test of the first entry
  abbrev pub value_by : Bool → List ℕ × V → List (List ℕ × V) → Option V
  value_by b e es = option_map (λ (e : List ℕ × V). e.1) (if b then Some e else find (λ (e : List ℕ × V). same_text e.0 k) es)

  none_after : (x : List ℕ) (es : List (List ℕ × V)) → slice_cmp nat_cmp k x ≡ Less → AllByRecursion (λ y. slice_cmp nat_cmp x y ≡ Less) (keys_of es) → value_under k es ≡ None
  none_after x [] less all = refl
  none_after x (e ∷ es) less all =
      ap (λ b. value_by b e es) (turned_is k e.0 Less (nat_list_cmp_total.trans k x e.0 less all.0)) ∙ none_after x es less all.1

  -- what stands at the place of the name is its value
  pub found_is : (es : List (List ℕ × V)) → IsStrictlySortedBy (slice_cmp nat_cmp) (keys_of es) → value_if_named k (slice_get es (place_under k es)) ≡ value_under k es
  unfolding IsStrictlySortedBy
  found_is [] s = refl
  found_is (e ∷ es) s = by (slice_cmp nat_cmp k e.0) refl (found_is es s.1)
    where
      by : (r : Ordering) → slice_cmp nat_cmp k e.0 ≡ r → value_if_named k (slice_get es (place_under k es)) ≡ value_under k es → value_if_named k (slice_get (e ∷ es) (cond (is_gt (slice_cmp nat_cmp k e.0)) (suc (place_under k es)) 0)) ≡ value_by (same_text e.0 k) e es
      by Less p more = (λ i. value_if_named k (slice_get (e ∷ es) (cond (is_gt (p i)) (suc (place_under k es)) 0))) ∙ ap (λ b. if b then Some e.1 else None) (test_is k e.0 Less p)
          ∙ sym (none_after e.0 es p s.0) ∙ ap (λ b. value_by b e es) (sym (turned_is k e.0 Less p))
      by Equal p more = (λ i. value_if_named k (slice_get (e ∷ es) (cond (is_gt (p i)) (suc (place_under k es)) 0))) ∙ ap (λ b. if b then Some e.1 else None) (test_is k e.0 Equal p)
          ∙ ap (λ b. value_by b e es) (sym (turned_is k e.0 Equal p))
      by Greater p more = (λ i. value_if_named k (slice_get (e ∷ es) (cond (is_gt (p i)) (suc (place_under k es)) 0))) ∙ more
          ∙ ap (λ b. value_by b e es) (sym (turned_is k e.0 Greater p))

  -- the same where the place is known by an equation
  pub found_at : (es : List (List ℕ × V)) (i : ℕ) → i ≡ place_under k es → IsStrictlySortedBy (slice_cmp nat_cmp) (keys_of es) → value_if_named k (slice_get es i) ≡ value_under k es
  found_at es i e s = ap (λ n. value_if_named k (slice_get es n)) e ∙ found_is es s
