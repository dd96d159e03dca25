-- Facts on lists, texts and options.
use Rattle.std.proofs.Common.{◌≡◌, ℕ, zero, suc, ◌<◌, arith, true, not, List, [], ◌∷◌, map, length, take, Option, Some, None, option_and_then, slice_get, ◌==◌, is_some, IsSome, refl, sym, ap, ◌∙◌, subst}
use Rattle.std.specs.List.{filter_map, cons_option}
use Rattle.std.proofs.lemmas.Bool.{eqb-true}
use Rattle.std.proofs.lemmas.List.{nil_from_length}
use Rattle.mk_base.specs.declared.json.Json.{Json}
use Rattle.mk_base.specs.Lists.{IsIn, Each, same_text, is_among}
use Rattle.mk_base.proofs.Lists.{some_passes}
use Rattle.mk_base.proofs.Guessing.{text_is}

pub none_there : {A : Type 0} (o : Option A) → not (is_some o) ≡ true → o ≡ None
none_there None e = refl
none_there (Some x) e = cc

pub empty_is : {X : Type 0} (xs : List X) → (length xs == 0) ≡ true → xs ≡ []
empty_is xs e = nil_from_length xs (eqb-true (length xs) 0 e)

-- a name among these is one of them
pub among_in : (names : List (List ℕ)) (n : List ℕ) → is_among names n ≡ true → IsIn n names
among_in names n e = let t = some_passes (λ u. same_text u n) names e in subst (λ u. IsIn u names) (text_is t.0 n t.2) t.1

pub none_also : {X Y : Type 0} (xs : List X) (ys : List Y) (i : ℕ) → length xs ≡ length ys → slice_get xs i ≡ None → slice_get ys i ≡ None
none_also xs [] i e none = refl
none_also [] (y ∷ ys) i e none = absurd (omega (arith, e))
none_also (x ∷ xs) (y ∷ ys) zero e none = cc
none_also (x ∷ xs) (y ∷ ys) (suc i) e none = none_also xs ys i (omega (arith, e)) none

pub get_taken : {X : Type 0} (xs : List X) (i j : ℕ) → i < j → slice_get (take j xs) i ≡ slice_get xs i
get_taken xs i zero h = absurd (omega arith)
get_taken [] i (suc j) h = refl
get_taken (x ∷ xs) zero (suc j) h = refl
get_taken (x ∷ xs) (suc i) (suc j) h = get_taken xs i j (omega arith)

pub each_of_map : {X Y : Type 0} (P : Y → Type 0) (f : X → Y) (xs : List X) → Each P (map f xs) → Each (λ x. P (f x)) xs
each_of_map P f [] all = tt
each_of_map P f (x ∷ xs) all = (all.0, each_of_map P f xs all.1)

-- tables all of which have a text
module _ (f : Json → Option (List ℕ)) where
  kept : (t : Json) (tables : List Json) → IsSome (f t) → (n : List ℕ) × (f t ≡ Some n) × (filter_map f (t ∷ tables) ≡ n ∷ filter_map f tables)
  kept t tables some = elim (f t) as (λ o. IsSome o → (n : List ℕ) × (o ≡ Some n) × (cons_option o (filter_map f tables) ≡ n ∷ filter_map f tables)) [ None ↦ λ some. cc | Some n ↦ λ some. (n, refl, refl) ] some

  pub all_kept : (tables : List Json) → Each (λ t. IsSome (f t)) tables → (length (filter_map f tables) ≡ length tables) × ((i : ℕ) → slice_get (filter_map f tables) i ≡ option_and_then f (slice_get tables i)) × ((i : ℕ) → take i (filter_map f tables) ≡ filter_map f (take i tables))
  all_kept [] all = (refl, λ i. refl, none)
    where
      none : (i : ℕ) → take i (filter_map f []) ≡ filter_map f (take i [])
      none zero = refl
      none (suc i) = refl
  all_kept (t ∷ tables) all = let here = kept t tables all.0 in let more = all_kept tables all.1 in (ap length here.2 ∙ ap suc more.0, at here.0 here.1 here.2 more.1, taken here.0 here.1 here.2 more.2)
    where
      at : (n : List ℕ) → f t ≡ Some n → filter_map f (t ∷ tables) ≡ n ∷ filter_map f tables → ((i : ℕ) → slice_get (filter_map f tables) i ≡ option_and_then f (slice_get tables i)) → (i : ℕ) → slice_get (filter_map f (t ∷ tables)) i ≡ option_and_then f (slice_get (t ∷ tables) i)
      at n is all_is more zero = ap (λ l. slice_get l 0) all_is ∙ sym is
      at n is all_is more (suc i) = ap (λ l. slice_get l (suc i)) all_is ∙ more i

      taken : (n : List ℕ) → f t ≡ Some n → filter_map f (t ∷ tables) ≡ n ∷ filter_map f tables → ((i : ℕ) → take i (filter_map f tables) ≡ filter_map f (take i tables)) → (i : ℕ) → take i (filter_map f (t ∷ tables)) ≡ filter_map f (take i (t ∷ tables))
      taken n is all_is more zero = refl
      taken n is all_is more (suc i) = ap (take (suc i)) all_is ∙ ap (λ l. n ∷ l) (more i) ∙ ap (λ o. cons_option o (filter_map f (take i tables))) (sym is)
