-- Where each parked link stands among them.
use Rattle.std.proofs.Common.{◌≡◌, ◌⊎◌, ℕ, zero, suc, ◌<◌, ◌≤◌, inl, inr, List, [], ◌∷◌, ◌++◌, length, Option, Some, None, slice_get, slice_set, refl, sym, ap, ◌∙◌, arith, subst}
use Rattle.std.proofs.lemmas.Bool.{cases_eq}
use Rattle.mk_base.specs.declared.LinkNo.{LinkNo}
use Rattle.mk_base.proofs.Items.{front_get, get_last}
use Rattle.mk_base.proofs.Links.{same_number}
use Rattle.mk_base.proofs.Lists.{get_is, below_get, none_some, some_same, set_else, set_here}
use Rattle.mk_poll.specs.Links.{times_in}
use Rattle.mk_poll.specs.inner.Links.{AreAt, AreMore, IsSpotSet, spot_at}
use Rattle.mk_poll.proofs.Lifting.{times_at}

get_either : {X : Type 0} (xs : List X) (y : X) (i : ℕ) (x : X) → slice_get (xs ++ y ∷ []) i ≡ Some x → (slice_get xs i ≡ Some x) ⊎ ((i ≡ length xs) × (x ≡ y))
get_either [] y zero x e = inr (refl, sym (some_same e))
get_either [] y (suc i) x e = absurd (none_some e)
get_either (z ∷ xs) y zero x e = inl e
get_either (z ∷ xs) y (suc i) x e = elim (get_either xs y i x e) [ inl h ↦ inl h | inr t ↦ inr (ap suc t.0, t.1) ]

-- there may be more links
pub more_at : (old new : List (Option ℕ)) (parked : List LinkNo) → AreMore old new → AreAt (spot_at old) parked → AreAt (spot_at new) parked
more_at old new parked more at = record {
  here = λ i link e. more.same link ∙ at.here i link e;
  there = λ i link e. at.there i link (sym (more.same link) ∙ e);
}

-- a link is parked behind the others
pub parked_at : (old new : List (Option ℕ)) (xs now : List LinkNo) (l : LinkNo) (n : ℕ) → AreAt (spot_at old) xs → times_in l xs ≡ 0 → IsSpotSet l (Some n) old new → n ≡ length xs → now ≡ xs ++ l ∷ [] → AreAt (spot_at new) now
parked_at old new xs now l n at free set count is = subst (AreAt (spot_at new)) (sym is) (record {
  here = λ i k e. elim (get_either xs l i k e) [
    | inl h ↦ set.others k (λ same. away k i h same) ∙ at.here i k h
    | inr t ↦ ap (spot_at new) t.1 ∙ set.here ∙ ap Some (count ∙ sym t.0)
  ];
  there = λ i k e. elim (cases_eq k.0 l.0) [
    | inl same ↦
        let number : i ≡ length xs = some_same (sym e ∙ ap (spot_at new) (same_number k l same) ∙ set.here) ∙ count in
        ap (slice_get (xs ++ l ∷ [])) number ∙ get_last xs l ∙ ap Some (sym (same_number k l same))
    | inr apart ↦ front_get xs (l ∷ []) i k (at.there i k (sym (set.others k apart) ∙ e))
  ];
})
  where
    away : (k : LinkNo) (i : ℕ) → slice_get xs i ≡ Some k → k.0 ≡ l.0 → ⊥
    away k i h same = omega (arith, free, times_at l xs i (h ∙ ap Some (same_number k l same)))

module _ (ys : List LinkNo) (last l : LinkNo) (place : ℕ) (there : slice_get (ys ++ last ∷ []) place ≡ Some l) where
  -- the last one stands where the lifted one stood
  pub lifted_at : (old mid new : List (Option ℕ)) → AreAt (spot_at old) (ys ++ last ∷ []) → place < length ys → IsSpotSet l None old mid → IsSpotSet last (Some place) mid new → AreAt (spot_at new) (slice_set ys place last)
  lifted_at old mid new at less off on = record {
    here = λ i k e. elim (cases_eq i place) [
      | inl same ↦
          let is : k ≡ last = some_same (sym e ∙ ap (slice_get (slice_set ys place last)) same ∙ written) in
          ap (spot_at new) is ∙ on.here ∙ ap Some (sym same)
      | inr apart ↦
          let was : slice_get ys i ≡ Some k = sym (set_else ys place i last apart) ∙ e in
          let spot : spot_at old k ≡ Some i = at.here i k (front_get ys (last ∷ []) i k was) in
          on.others k (λ n. not_last i k was spot n) ∙ off.others k (λ n. apart (some_same (sym spot ∙ ap (spot_at old) (same_number k l n) ∙ at.here place l there))) ∙ spot
    ];
    there = λ i k e. elim (cases_eq k.0 last.0) [
      | inl same ↦
          let is : k ≡ last = same_number k last same in
          let number : i ≡ place = some_same (sym e ∙ ap (spot_at new) is ∙ on.here) in
          ap (slice_get (slice_set ys place last)) number ∙ written ∙ ap Some (sym is)
      | inr apart ↦ stays i k apart (sym (on.others k apart) ∙ e) (cases_eq k.0 l.0)
    ];
  }
    where
      written : slice_get (slice_set ys place last) place ≡ Some last
      written = set_here ys place last (below_get ys place less).0 (below_get ys place less).1

      not_last : (i : ℕ) (k : LinkNo) → slice_get ys i ≡ Some k → spot_at old k ≡ Some i → k.0 ≡ last.0 → ⊥
      not_last i k was spot n =
          let number : i ≡ length ys = some_same (sym spot ∙ ap (spot_at old) (same_number k last n) ∙ at.here (length ys) last (get_last ys last)) in
          omega (arith, number, (get_is ys i k was).0)

      stays : (i : ℕ) (k : LinkNo) → (k.0 ≡ last.0 → ⊥) → spot_at mid k ≡ Some i → (k.0 ≡ l.0) ⊎ (k.0 ≡ l.0 → ⊥) → slice_get (slice_set ys place last) i ≡ Some k
      stays i k apart spot (inl same) = absurd (none_some (sym off.here ∙ ap (spot_at mid) (sym (same_number k l same)) ∙ spot))
      stays i k apart spot (inr other) =
          let was = at.there i k (sym (off.others k other) ∙ spot) in
          elim (get_either ys last i k was) [
            | inl h ↦ set_else ys place i last (λ n. other (ap (λ (x : LinkNo). x.0) (some_same (sym was ∙ ap (slice_get (ys ++ last ∷ [])) n ∙ there)))) ∙ h
            | inr t ↦ absurd (apart (ap (λ (x : LinkNo). x.0) t.1))
          ]

  -- the last one was lifted
  pub last_lifted_at : (old new : List (Option ℕ)) → AreAt (spot_at old) (ys ++ last ∷ []) → length ys ≤ place → IsSpotSet l None old new → AreAt (spot_at new) ys
  last_lifted_at old new at past off = record {
    here = λ i k e.
        let spot : spot_at old k ≡ Some i = at.here i k (front_get ys (last ∷ []) i k e) in
        off.others k (λ n. not_it i k e spot n) ∙ spot;
    there = λ i k e. elim (cases_eq k.0 l.0) [
      | inl same ↦ absurd (none_some (sym off.here ∙ ap (spot_at new) (sym (same_number k l same)) ∙ e))
      | inr other ↦ elim (get_either ys last i k (at.there i k (sym (off.others k other) ∙ e))) [
        | inl h ↦ h
        | inr t ↦ absurd (other (ap (λ (x : LinkNo). x.0) (t.1 ∙ sym is)))
      ]
    ];
  }
    where
      is : l ≡ last
      is = elim (get_either ys last place l there) [
        | inl h ↦ absurd (omega (arith, past, (get_is ys place l h).0))
        | inr t ↦ t.1
      ]

      not_it : (i : ℕ) (k : LinkNo) → slice_get ys i ≡ Some k → spot_at old k ≡ Some i → k.0 ≡ l.0 → ⊥
      not_it i k was spot n =
          let number : i ≡ place = some_same (sym spot ∙ ap (spot_at old) (same_number k l n) ∙ at.here place l there) in
          omega (arith, number, past, (get_is ys i k was).0)
