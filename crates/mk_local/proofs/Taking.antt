-- One more input of a Step, and what each entity takes with it.
use Rattle.std.proofs.Common.{◌≡◌, ℕ, zero, suc, ◌<◌, ◌^◌, pos, Bool, true, false, cond, ◌&&◌, ◌||◌, List, [], ◌∷◌, ◌++◌, length, fold, filter, replicate, slice_get, slice_set, Option, Some, None, IfSome, refl, sym, ap, ◌∙◌, arith, true≢false, ◌⊎◌, inl, inr}
use Rattle.std.proofs.lemmas.List.Folds.{list_any-append}
use Rattle.std.specs.Fmt.{decimal}
use Rattle.mk_base.proofs.Items.{get_replicate}
use Rattle.mk_base.proofs.Lists.{filter_append, get_is, length_set, set_here, set_else}
use Rattle.mk_plan.specs.declared.Input.{Input}
use Rattle.mk_local.specs.declared.inputs.Taken.{Taken}
use Rattle.mk_local.specs.declared.turn.Turn.{Turn}
use Rattle.std.proofs.lemmas.Slice.Eq.{bytes_eq-Decides}
use Rattle.mk_base.specs.Lists.{same_text}
use Rattle.mk_local.specs.Data.{place_named}
use Rattle.mk_local.specs.Inputs.{added, is_input_of, seen, sum_of, takes}
use Rattle.mk_local.specs.inner.Inputs.{AreTaken, taken_at}
use Rattle.mk_local.proofs.Places.{found, named}
use Rattle.mk_base.proofs.Bools.{both_hold, or_false, or_true}

fold_append : {A X : Type 0} (f : A → X → A) (a : A) (xs ys : List X) → fold f a (xs ++ ys) ≡ fold f (fold f a xs) ys
fold_append f a [] ys = refl
fold_append f a (x ∷ xs) ys = fold_append f (f a x) xs ys

module _ (T : Turn) (before : List Input) (i : Input) where
  abbrev more : List Input
  more = before ++ i ∷ []

  seen_more : (eid : List ℕ) → seen T eid more ≡ (seen T eid before || (is_input_of T eid i || false))
  seen_more eid = list_any-append (is_input_of T eid) before (i ∷ [])

  sum_more : (eid : List ℕ) → sum_of T eid more ≡ fold added (sum_of T eid before) (filter (is_input_of T eid) (i ∷ []))
  sum_more eid = ap (fold added (pos 0)) (filter_append (is_input_of T eid) before (i ∷ [])) ∙ fold_append added (pos 0) (filter (is_input_of T eid) before) (filter (is_input_of T eid) (i ∷ []))

  -- what an entity takes whose input it isn't
  pub not_own : (k : ℕ) → is_input_of T (decimal k) i ≡ false → taken_at T more k ≡ taken_at T before k
  not_own k e =
      let s : seen T (decimal k) more ≡ seen T (decimal k) before = seen_more (decimal k) ∙ ap (λ b. seen T (decimal k) before || (b || false)) e ∙ or_false (seen T (decimal k) before) in
      let n : sum_of T (decimal k) more ≡ sum_of T (decimal k) before = sum_more (decimal k) ∙ ap (λ (b : Bool). fold added (sum_of T (decimal k) before) (cond b (i ∷ []) [])) e in
      cc

  -- what the entity takes whose input it is
  pub own : (k : ℕ) → is_input_of T (decimal k) i ≡ true → taken_at T more k ≡ record { seen = true; sum = added (taken_at T before k).sum i }
  own k e =
      let s : seen T (decimal k) more ≡ true = seen_more (decimal k) ∙ ap (λ b. seen T (decimal k) before || (b || false)) e ∙ or_true (seen T (decimal k) before) in
      let n : sum_of T (decimal k) more ≡ added (sum_of T (decimal k) before) i = sum_more (decimal k) ∙ ap (λ (b : Bool). fold added (sum_of T (decimal k) before) (cond b (i ∷ []) [])) e in
      cc

  is_bool : (b : Bool) → (b ≡ true) ⊎ (b ≡ false)
  is_bool true = inl refl
  is_bool false = inr refl

  -- an input of none of the entities
  pub none_more : (all : List Taken) → ((k : ℕ) → k < length all → is_input_of T (decimal k) i ≡ true → None ≡ Some k) → AreTaken T before all → AreTaken T more all
  none_more all others taken k below = taken k below ∙ ap Some (sym (elim (is_bool (is_input_of T (decimal k) i)) [
    | inl e ↦ let none : None ≡ Some k = others k below e in cc
    | inr e ↦ not_own k e
  ]))

  -- an input of the entity at place p
  pub one_more : (p : ℕ) (old new : List Taken) (one : Taken) → slice_get old p ≡ Some one → is_input_of T (decimal p) i ≡ true
      → ((k : ℕ) → k < length old → is_input_of T (decimal k) i ≡ true → Some p ≡ Some k)
      → new ≡ slice_set old p (record { seen = true; sum = added one.sum i }) → AreTaken T before old → AreTaken T more new
  one_more p old new one at mine others set taken k below =
      let count : length new ≡ length old = ap length set ∙ length_set old p (record { seen = true; sum = added one.sum i }) in
      let within : k < length old = omega (arith, count) in
      ap (λ (l : List Taken). slice_get l k) set ∙ elim (is_bool (is_input_of T (decimal k) i)) [
        | inl e ↦
            let found : Some p ≡ Some k = others k within e in
            let same : p ≡ k = cc in
            let what : Some one ≡ Some (taken_at T before p) = sym at ∙ taken p (let h : p < length old = (get_is old p one at).0 in h) in
            let is : one ≡ taken_at T before p = cc in
            ap (λ j. slice_get (slice_set old p (record { seen = true; sum = added one.sum i })) j) (sym same) ∙ set_here old p (record { seen = true; sum = added one.sum i }) one at
            ∙ ap (λ (o : Taken). Some (let t : Taken = record { seen = true; sum = added o.sum i } in t)) is ∙ ap Some (sym (own p mine)) ∙ ap (λ j. Some (taken_at T more j)) same
        | inr e ↦
            let apart : k ≡ p → ⊥ = λ same. true≢false (sym mine ∙ ap (λ j. is_input_of T (decimal j) i) (sym same) ∙ e) in
            set_else old p k (record { seen = true; sum = added one.sum i }) apart ∙ taken k within ∙ ap Some (sym (not_own k e))
      ]

-- at first nothing is taken
abbrev nothing : Taken
nothing = record { seen = false; sum = pos 0 }

pub none_yet : (T : Turn) (count : ℕ) (all : List Taken) → all ≡ replicate count nothing → AreTaken T [] all
none_yet T count all is k below =
    let n : length all ≡ count = ap length is ∙ length_replicate count in
    ap (λ (l : List Taken). slice_get l k) is ∙ get_replicate count k nothing (omega (arith, n))
  where
    length_replicate : (n : ℕ) → length (replicate n nothing) ≡ n
    length_replicate zero = refl
    length_replicate (suc n) = ap suc (length_replicate n)

-- the entity whose input an input is

module _ (T : Turn) (i : Input) where
  pub owner : (count k : ℕ) → takes T i.attr ≡ true → place_named count i.eid ≡ Some k → (k < count) × (is_input_of T (decimal k) i ≡ true)
  owner count k taken is =
      let t = found i.eid count k is in
      (t.0, ap (λ b. b && takes T i.attr) ((bytes_eq-Decides i.eid (decimal k)).1 (sym t.1)) ∙ taken)

  pub only : (count k : ℕ) → count < 2 ^ 64 → k < count → is_input_of T (decimal k) i ≡ true → (takes T i.attr ≡ true) × (place_named count i.eid ≡ Some k)
  only count k fits below is =
      let t = both_hold (same_text i.eid (decimal k)) (takes T i.attr) is in
      (t.1, named i.eid count k below fits ((bytes_eq-Decides (decimal k) i.eid).1 (sym ((bytes_eq-Decides i.eid (decimal k)).0 t.0))))

  -- the place that is found, or not
  pub is_within : (count : ℕ) (o : Option ℕ) → takes T i.attr ≡ true → o ≡ place_named count i.eid → IfSome o (λ k. k < count)
  is_within count None taken is = tt
  is_within count (Some k) taken is = (owner count k taken (sym is)).0

  pub is_own : (count : ℕ) (o : Option ℕ) → takes T i.attr ≡ true → o ≡ place_named count i.eid → IfSome o (λ k. is_input_of T (decimal k) i ≡ true)
  is_own count None taken is = tt
  is_own count (Some k) taken is = (owner count k taken (sym is)).1
