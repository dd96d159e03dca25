-- Walks over a list that end where a test says so.
use Rattle.std.proofs.Common.{◌≡◌, ℕ, ◌+◌, ◌<◌, ◌≤◌, Bool, true, false, ◌&&◌, ◌||◌, List, length, get_or, take, sym, ap, ◌∙◌}
use Rattle.std.specs.List.{list_all, list_any}
use Rattle.std.proofs.lemmas.List.{take_all}
use Rattle.std.proofs.lemmas.List.Folds.{list_all_more, list_all_at, list_any_more, list_any_at}

module _ {X : Type 0} (f : X → Bool) (xs : List X) where
  pub all_end : (n : ℕ) → length xs ≤ n → list_all f (take n xs) ≡ true → true ≡ list_all f xs
  all_end n all so = sym (ap (list_all f) (sym (take_all n xs all)) ∙ so)

  module _ (i : ℕ) (x : X) (b : Bool) (low : i < length xs) (is : x ≡ get_or xs i x) (here : b ≡ f x) where
    pub all_more : b ≡ true → list_all f (take i xs) ≡ true → list_all f (take (i + 1) xs) ≡ true
    all_more it so = list_all_more f xs i x low ∙ ap (λ (c : Bool). c && f (get_or xs i x)) so ∙ sym (ap f is) ∙ sym here ∙ it

    pub all_not : b ≡ false → false ≡ list_all f xs
    all_not it = sym (list_all_at f xs i x low (sym (ap f is) ∙ sym here ∙ it))

    pub any_more : b ≡ false → list_any f (take i xs) ≡ false → list_any f (take (i + 1) xs) ≡ false
    any_more it so = list_any_more f xs i x low ∙ ap (λ (c : Bool). c || f (get_or xs i x)) so ∙ sym (ap f is) ∙ sym here ∙ it

    pub any_here : b ≡ true → true ≡ list_any f xs
    any_here it = sym (list_any_at f xs i x low (sym (ap f is) ∙ sym here ∙ it))
