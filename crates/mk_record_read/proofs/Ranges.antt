-- An item of a list whose items all pass a test passes it.
use Rattle.std.proofs.Common.{◌≡◌, ℕ, Bool, true, false, List, ◌∙◌, refl, sym, get_or, ◌<◌, length}
use Rattle.std.specs.List.{list_all}
use Rattle.std.proofs.lemmas.Bool.{true≢false}
use Rattle.std.proofs.lemmas.List.Folds.{list_all_at}

pub all_get : {X : Type 0} (p : X → Bool) (xs : List X) (i : ℕ) (d : X) → list_all p xs ≡ true → i < length xs → p (get_or xs i d) ≡ true
all_get p xs i d all below = elim (p (get_or xs i d)) as (λ b. p (get_or xs i d) ≡ b → p (get_or xs i d) ≡ true) [ true ↦ λ e. e | false ↦ λ e. absurd (true≢false (sym all ∙ list_all_at p xs i d below e)) ] refl
