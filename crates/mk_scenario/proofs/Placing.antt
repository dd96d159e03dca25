-- The first place of an id, as ids are added.
use Rattle.std.proofs.Common.{◌≡◌, ℕ, ◌≤◌, arith, Bool, true, false, cond, List, [], ◌∷◌, ◌++◌, length, Option, Some, None, String, refl, ap, ◌∙◌, sym}
use Rattle.std.proofs.lemmas.List.{length-append}
use Rattle.std.proofs.lemmas.List.Folds.{position_or_len_push}
use Rattle.std.proofs.lemmas.Bool.Decides.{nat_tests}
use Rattle.std.proofs.lemmas.Slice.Eq.{bytes_eq-Decides}
use Rattle.std.specs.Prelude.{nat_lt, is_some}
use Rattle.std.specs.List.{list_any, position, position_or_len}
use Rattle.std.specs.HashMap.{HashMap, get_by_text}
use Rattle.std.specs.Map.{update}
use Rattle.mk_base.specs.Lists.{same_text}
use Rattle.mk_scenario.specs.inner.Places.{HasPlaces}
use Rattle.mk_base.proofs.AtPlaces.{same_sym}

at_most : {X : Type 0} (p : X → Bool) (xs : List X) → position_or_len p xs ≤ length xs
at_most p [] = omega arith
at_most p (x ∷ xs) = let rest = at_most p xs in grind (arith, rest)

-- some item passes exactly where there is a first that does
pub any_lies : {X : Type 0} (p : X → Bool) (xs : List X) → list_any p xs ≡ nat_lt (position_or_len p xs) (length xs)
any_lies p [] = refl
any_lies p (x ∷ xs) = let rest = any_lies p xs in grind (arith, nat_tests, rest)

pub any_placed : {X : Type 0} (p : X → Bool) (xs : List X) → is_some (position p xs) ≡ list_any p xs
any_placed p xs = let lies = any_lies p xs in grind (arith, nat_tests, lies)

pub position_push : {X : Type 0} (p : X → Bool) (xs : List X) (y : X) → position p (xs ++ y ∷ []) ≡ cond (nat_lt (position_or_len p xs) (length xs)) (Some (position_or_len p xs)) (cond (p y) (Some (length xs)) None)
position_push p xs y =
    let pushed = position_or_len_push p xs y in
    let longer = length-append xs (y ∷ []) in
    let few = at_most p xs in
    grind (arith, nat_tests, pushed, longer, few)

none_there : (b : Bool) (first : ℕ) → is_some (cond b (Some first) None) ≡ false → b ≡ false
none_there true first h = h
none_there false first h = refl

some_there : (b : Bool) (first : ℕ) → is_some (cond b (Some first) None) ≡ true → b ≡ true
some_there true first h = refl
some_there false first h = h

-- where the text is the added one exactly if it had no place
added : (same there : Bool) (first n : ℕ) (x y : Option ℕ) → x ≡ cond same (Some n) y → y ≡ cond there (Some first) None → (same ≡ true → there ≡ false) → x ≡ cond there (Some first) (cond same (Some n) None)
added true true first n x y is was h = let no : true ≡ false = h refl in cc
added true false first n x y is was h = is
added false true first n x y is was h = is ∙ was
added false false first n x y is was h = is ∙ was

stays : (same there : Bool) (first n : ℕ) (y : Option ℕ) → y ≡ cond there (Some first) None → (same ≡ true → there ≡ true) → y ≡ cond there (Some first) (cond same (Some n) None)
stays true true first n y was h = was
stays true false first n y was h = let no : false ≡ true = h refl in cc
stays false true first n y was h = was
stays false false first n y was h = was

module _ {Y S : Type 0} (places : HashMap (String Y) ℕ S) (ids : List (List ℕ)) (id : List ℕ) (has : HasPlaces places ids) where
  -- one more id, which had a place
  pub placed_again : is_some (get_by_text places id) ≡ true → HasPlaces places (ids ++ id ∷ [])
  placed_again found = λ text.
      stays (same_text text id) (nat_lt (position_or_len (λ x. same_text text x) ids) (length ids)) (position_or_len (λ x. same_text text x) ids) (length ids) (get_by_text places text) (has text)
      (λ same. some_there (nat_lt (position_or_len (λ x. same_text text x) ids) (length ids)) (position_or_len (λ x. same_text text x) ids) (ap is_some (sym (has text)) ∙ ap (λ t. is_some (get_by_text places t)) ((bytes_eq-Decides text id).0 same) ∙ found))
      ∙ sym (position_push (λ x. same_text text x) ids id)

  -- one more id, which had none
  pub placed_new : (more : HashMap (String Y) ℕ S) → is_some (get_by_text places id) ≡ false → ((text : List ℕ) → get_by_text more text ≡ update same_text (get_by_text places) id (Some (length ids)) text) → HasPlaces more (ids ++ id ∷ [])
  placed_new more lacks put = λ text.
      added (same_text text id) (nat_lt (position_or_len (λ x. same_text text x) ids) (length ids)) (position_or_len (λ x. same_text text x) ids) (length ids) (get_by_text more text) (get_by_text places text)
      (put text ∙ ap (λ same. cond same (Some (length ids)) (get_by_text places text)) (same_sym id text)) (has text)
      (λ same. none_there (nat_lt (position_or_len (λ x. same_text text x) ids) (length ids)) (position_or_len (λ x. same_text text x) ids) (ap is_some (sym (has text)) ∙ ap (λ t. is_some (get_by_text places t)) ((bytes_eq-Decides text id).0 same) ∙ lacks))
      ∙ sym (position_push (λ x. same_text text x) ids id)
