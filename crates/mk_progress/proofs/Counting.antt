-- How Steps are counted entry by entry.
use Rattle.std.proofs.Common.{◌≡◌, ℕ, ◌+◌, ℤ, List, [], ◌∷◌, ◌++◌, length, refl, sym, ap, ◌∙◌, arith, length-append}
use Rattle.std.specs.Int.{int_max}
use Rattle.mk_base.proofs.Lists.{filter_map_append}
use Rattle.mk_plan.specs.declared.Entry.{Entry}
use Rattle.mk_progress.specs.declared.tally.Tally.{Tally}
use Rattle.mk_progress.specs.Numbers.{in_64_bits}
use Rattle.mk_progress.specs.Tallies.{latest, step_time, step_times, tally_after}

fold_on : (t : ℤ) (xs ys : List ℤ) → latest (latest t xs) ys ≡ latest t (xs ++ ys)
fold_on t [] ys = refl
fold_on t (x ∷ xs) ys = fold_on (int_max t x) xs ys

still : (a b c : ℕ) → in_64_bits (in_64_bits (a + b) + c) ≡ in_64_bits (a + (b + c))
still a b c = grind arith

-- what is counted behind what was counted
pub counted_on : (tally : Tally) (xs ys : List Entry) → tally_after (tally_after tally xs) ys ≡ tally_after tally (xs ++ ys)
counted_on tally xs ys =
    ap (λ (t : ℤ). record { time = t; steps = in_64_bits (in_64_bits (tally.steps + length (step_times xs)) + length (step_times ys)) }) (fold_on tally.time (step_times xs) (step_times ys))
    ∙ ap (λ (n : ℕ). record { time = latest tally.time (step_times xs ++ step_times ys); steps = n })
    (still tally.steps (length (step_times xs)) (length (step_times ys)) ∙ ap (λ (n : ℕ). in_64_bits (tally.steps + n)) (sym (length-append (step_times xs) (step_times ys))))
    ∙ ap (λ (l : List ℤ). record { time = latest tally.time l; steps = in_64_bits (tally.steps + length l) }) (sym (filter_map_append step_time xs ys))
