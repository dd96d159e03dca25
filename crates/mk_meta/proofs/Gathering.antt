-- What is gathered from a list, item by item, up to the first fault.
use Rattle.std.proofs.Common.{◌≡◌, ℕ, ◌+◌, ◌<◌, List, [], ◌∷◌, ◌++◌, map, take, length, get_or, Result, Ok, Err, refl, ap, ◌∙◌, sym, suc, drop}
use Rattle.std.proofs.lemmas.List.{map-append}
use Rattle.mk_base.specs.Verdicts.{put_first, all_well}
use Rattle.mk_base.proofs.Gathering.{one_more, parted}
use Rattle.mk_meta.specs.declared.fault.MetaFault.{MetaFault}

-- one more item, put after the others unless there is a fault among these
abbrev after : {X : Type 0} → X → Result (List X) MetaFault → Result (List X) MetaFault
after x (Ok xs) = Ok (xs ++ x ∷ [])
after x (Err fault) = Err fault

well_swapped : {X : Type 0} (x y : X) (r : Result (List X) MetaFault) → put_first y (after x r) ≡ after x (put_first y r)
well_swapped x y (Ok ys) = refl
well_swapped x y (Err e) = refl

well_push : {X : Type 0} (os : List (Result X MetaFault)) (x : X) → all_well (os ++ Ok x ∷ []) ≡ after x (all_well os)
well_push [] x = refl
well_push (Err e ∷ os) x = refl
well_push (Ok o ∷ os) x = ap (put_first o) (well_push os x) ∙ well_swapped x o (all_well os)

well_fault : {X : Type 0} (os ps : List (Result X MetaFault)) (xs : List X) (e : MetaFault) → all_well os ≡ Ok xs → all_well (os ++ Err e ∷ ps) ≡ Err e
well_fault [] ps xs e well = refl
well_fault (Err f ∷ os) ps xs e well = cc
well_fault (Ok o ∷ os) ps xs e well = elim (all_well os) as (λ r. all_well os ≡ r → put_first o r ≡ Ok xs → put_first o (all_well (os ++ Err e ∷ ps)) ≡ Err e) [
  | Ok ys ↦ λ is h. ap (put_first o) (well_fault os ps ys e is)
  | Err f ↦ λ is h. cc
] refl well

module _ {Y : Type 0} (ys : List Y) (i : ℕ) (y : Y) (below : i < length ys) (is : y ≡ get_or ys i y) where
  -- one more item without a fault
  pub more_well : {X : Type 0} (f : Y → Result X MetaFault) (x : X) (xs : List X) → f y ≡ Ok x → all_well (map f (take i ys)) ≡ Ok xs → all_well (map f (take (i + 1) ys)) ≡ Ok (xs ++ x ∷ [])
  more_well f x xs there so_far = ap all_well (one_more ys i y below is f) ∙ ap (λ z. all_well (map f (take i ys) ++ z ∷ [])) there ∙ well_push (map f (take i ys)) x ∙ ap (after x) so_far

  -- the first item with a fault
  pub first_fault : {X : Type 0} (f : Y → Result X MetaFault) (e : MetaFault) (xs : List X) → f y ≡ Err e → all_well (map f (take i ys)) ≡ Ok xs → all_well (map f ys) ≡ Err e
  first_fault f e xs there so_far = ap all_well (parted ys i y below is f) ∙ ap (λ z. all_well (map f (take i ys) ++ z ∷ map f (drop (suc i) ys))) there ∙ well_fault (map f (take i ys)) (map f (drop (suc i) ys)) xs e so_far

  -- one more item of that name
  pub more_named : {X Z : Type 0} (f : Y → Z) (g : X → Z) (x : X) (xs : List X) → g x ≡ f y → map g xs ≡ map f (take i ys) → map g (xs ++ x ∷ []) ≡ map f (take (i + 1) ys)
  more_named f g x xs same so_far = map-append g xs (x ∷ []) ∙ ap (λ l. l ++ g x ∷ []) so_far ∙ ap (λ z. map f (take i ys) ++ z ∷ []) same ∙ sym (one_more ys i y below is f)
