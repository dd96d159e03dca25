-- A text in which nothing needs an escape stands as it is within quotes.
use Rattle.std.proofs.Common.{◌≡◌, ℕ, ◌≤◌, true, false, List, [], ◌∷◌, ◌++◌, nat_lt, flat_map, refl, sym, ap, ap₂, ◌∙◌, arith, append_assoc}
use Rattle.std.proofs.lemmas.Bool.{ne_eqb}
use Rattle.std.proofs.lemmas.Bool.Decides.{nat_tests}
use Rattle.std.specs.List.{list_all}
use Rattle.mk_base.specs.Texts.{escaped, quoted}
use Rattle.mk_json.specs.inner.Quotes.{stands_so}
use Rattle.mk_base.proofs.Bools.{first_holds, second_holds}

abbrev IsFree : ℕ → Type 0
IsFree b = (32 ≤ b) × (b ≡ 34 → ⊥) × (b ≡ 92 → ⊥)

is_free : (b : ℕ) → stands_so b ≡ true → IsFree b
is_free b h = (grind (arith, nat_tests), (λ e. grind (arith, nat_tests)), (λ e. grind (arith, nat_tests)))

stands : (b : ℕ) → IsFree b → escaped b ≡ b ∷ []
stands b f = rw (ne_eqb b 34 f.1, ne_eqb b 92 f.2, ne_eqb b 8 (λ e. omega arith), ne_eqb b 9 (λ e. omega arith), ne_eqb b 10 (λ e. omega arith), ne_eqb b 12 (λ e. omega arith), ne_eqb b 13 (λ e. omega arith), below) refl
  where
    below : nat_lt b 32 ≡ false
    below = grind (arith, nat_tests)

all_stand : (text : List ℕ) → list_all stands_so text ≡ true → flat_map escaped text ≡ text
all_stand [] h = refl
all_stand (b ∷ text) h = ap₂ (λ (x y : List ℕ). x ++ y) (stands b (is_free b (first_holds _ _ h))) (all_stand text (second_holds _ _ h))

-- bytes with the text behind them, a quote on each side
pub within_quotes : (old text : List ℕ) → list_all stands_so text ≡ true → ((old ++ 34 ∷ []) ++ text) ++ 34 ∷ [] ≡ old ++ quoted text
within_quotes old text h = append_assoc (old ++ 34 ∷ []) text (34 ∷ []) ∙ append_assoc old (34 ∷ []) (text ++ 34 ∷ []) ∙ ap (λ l. old ++ (34 ∷ (l ++ 34 ∷ []))) (sym (all_stand text h))
