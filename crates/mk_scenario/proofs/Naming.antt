-- How many tables have a name.
use Rattle.std.proofs.Common.{◌≡◌, ℕ, ◌+◌, ◌<◌, List, [], ◌∷◌, ◌++◌, take, length, get_or, Bool, true, false, Option, Some, None, refl, ap, ◌∙◌, sym}
use Rattle.std.specs.Prelude.{option_map, unwrap_or, if◌then◌else◌}
use Rattle.std.specs.List.{filter, filter_map}
use Rattle.std.proofs.lemmas.List.{take_more, length-append}
use Rattle.std.proofs.lemmas.List.Elements.{filter-append, filter_map-append}

-- whether a text is there and passes
abbrev pub is_there : {Y : Type 0} → (Y → Bool) → Option Y → Bool
is_there p o = unwrap_or (option_map p o) false

abbrev counted : Bool → ℕ
counted b = if b then 1 else 0

kept : {Y : Type 0} (p : Y → Bool) (y : Y) → length (filter p (y ∷ [])) ≡ counted (p y)
kept p y = elim (p y) as (λ b. p y ≡ b → length (filter p (y ∷ [])) ≡ counted b) [
  | true ↦ λ is. cc
  | false ↦ λ is. cc
] refl

one_text : {X Y : Type 0} (h : X → Option Y) (p : Y → Bool) (x : X) → length (filter p (filter_map h (x ∷ []))) ≡ counted (is_there p (h x))
one_text h p x = elim (h x) as (λ o. h x ≡ o → length (filter p (filter_map h (x ∷ []))) ≡ counted (is_there p o)) [
  | None ↦ λ is. cc
  | Some y ↦ λ is. rw is (kept p y)
] refl

-- one table more
pub more_named : {X Y : Type 0} (h : X → Option Y) (p : Y → Bool) (xs : List X) (i : ℕ) (x : X) → i < length xs → x ≡ get_or xs i x
    → length (filter p (filter_map h (take (i + 1) xs))) ≡ length (filter p (filter_map h (take i xs))) + counted (is_there p (h x))
more_named h p xs i x below is =
    ap (λ l. length (filter p (filter_map h l))) (take_more xs i x below ∙ ap (λ z. take i xs ++ z ∷ []) (sym is))
    ∙ ap (λ l. length (filter p l)) (filter_map-append h (take i xs) (x ∷ []))
    ∙ ap length (filter-append p (filter_map h (take i xs)) (filter_map h (x ∷ [])))
    ∙ length-append (filter p (filter_map h (take i xs))) (filter p (filter_map h (x ∷ [])))
    ∙ ap (λ n. length (filter p (filter_map h (take i xs))) + n) (one_text h p x)
