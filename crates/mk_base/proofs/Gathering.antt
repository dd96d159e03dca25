-- What is gathered from a list, item by item.
use Rattle.std.proofs.Common.{◌≡◌, ℕ, ◌+◌, ◌<◌, List, [], ◌∷◌, ◌++◌, map, take, length, get_or, Option, Some, None, refl, ap, ◌∙◌, sym, suc, drop}
use Rattle.std.proofs.Math.Seq.{drop-cons}
use Rattle.std.proofs.lemmas.List.{take_more, take-append-drop, map-append}
use Rattle.std.specs.Prelude.{option_map}
use Rattle.mk_base.specs.Lists.{all_there}

swapped : {X : Type 0} (x y : X) (r : Option (List X)) → option_map (λ ys. y ∷ ys) (option_map (λ ys. ys ++ x ∷ []) r) ≡ option_map (λ ys. ys ++ x ∷ []) (option_map (λ ys. y ∷ ys) r)
swapped x y None = refl
swapped x y (Some ys) = refl

there_push : {X : Type 0} (os : List (Option X)) (x : X) → all_there (os ++ Some x ∷ []) ≡ option_map (λ ys. ys ++ x ∷ []) (all_there os)
there_push [] x = refl
there_push (None ∷ os) x = refl
there_push (Some o ∷ os) x = ap (option_map (λ ys. o ∷ ys)) (there_push os x) ∙ swapped x o (all_there os)

there_missing : {X : Type 0} (os ps : List (Option X)) → all_there (os ++ None ∷ ps) ≡ None
there_missing [] ps = refl
there_missing (None ∷ os) ps = refl
there_missing (Some o ∷ os) ps = ap (option_map (λ ys. o ∷ ys)) (there_missing os ps)

module _ {Y : Type 0} (ys : List Y) (i : ℕ) (y : Y) (below : i < length ys) (is : y ≡ get_or ys i y) where
  pub one_more : {Z : Type 0} (f : Y → Z) → map f (take (i + 1) ys) ≡ map f (take i ys) ++ f y ∷ []
  one_more f = ap (map f) (take_more ys i y below ∙ ap (λ z. take i ys ++ z ∷ []) (sym is)) ∙ map-append f (take i ys) (y ∷ [])

  pub parted : {Z : Type 0} (f : Y → Z) → map f ys ≡ map f (take i ys) ++ f y ∷ map f (drop (suc i) ys)
  parted f = ap (map f) (sym (take-append-drop i ys) ∙ ap (λ l. take i ys ++ l) (drop-cons ys i y below ∙ ap (λ z. z ∷ drop (suc i) ys) (sym is))) ∙ map-append f (take i ys) (y ∷ drop (suc i) ys)

  -- one more item, where each so far is there
  pub more_there : {X : Type 0} (f : Y → Option X) (x : X) (xs : List X) → f y ≡ Some x → all_there (map f (take i ys)) ≡ Some xs → all_there (map f (take (i + 1) ys)) ≡ Some (xs ++ x ∷ [])
  more_there f x xs there so_far = ap all_there (one_more f) ∙ ap (λ z. all_there (map f (take i ys) ++ z ∷ [])) there ∙ there_push (map f (take i ys)) x ∙ ap (option_map (λ l. l ++ x ∷ [])) so_far

  -- an item that is missing
  pub is_missing : {X : Type 0} (f : Y → Option X) → f y ≡ None → all_there (map f ys) ≡ None
  is_missing f missing = ap all_there (parted f) ∙ ap (λ z. all_there (map f (take i ys) ++ z ∷ map f (drop (suc i) ys))) missing ∙ there_missing (map f (take i ys)) (map f (drop (suc i) ys))
