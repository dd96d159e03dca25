-- A note that was made beforehand is replaced by the right one.
use Rattle.std.proofs.Common.{◌≡◌, ℕ, ◌-◌, List, [], ◌∷◌, ◌++◌, length, slice_set, Some, refl, ap, ◌∙◌, arith, length-append}
use Rattle.std.proofs.lemmas.List.{map-append}
use Rattle.mk_outside.specs.Asked.{Asks, to_listen}
use Rattle.mk_fakes.specs.declared.asking.Ask.{Ask}
use Rattle.mk_fakes.specs.declared.asking.Ask.TheVariants as ask
use Rattle.mk_fakes.specs.Asking.{ask_of, asks_of}

set_last : (xs : List Ask) (x y : Ask) → slice_set (xs ++ x ∷ []) (length xs) y ≡ xs ++ y ∷ []
set_last [] x y = refl
set_last (z ∷ zs) x y = ap (λ ys. z ∷ ys) (set_last zs x y)

-- the port that listening gave stands in the place that was made for it
pub port_noted : (old pushed new : List Ask) (x : Ask) (port n : ℕ) → pushed ≡ old ++ x ∷ [] → n ≡ length pushed → new ≡ slice_set pushed (n - 1) (ask.Listened port)
    → Asks (to_listen port ∷ []) (Some (asks_of old)) (Some (asks_of new))
port_noted old pushed new x port n grown count is =
    let longer = length-append old (x ∷ []) in
    let counted : n ≡ length (old ++ x ∷ []) = count ∙ ap length grown in
    let last : n - 1 ≡ length old = omega (arith, longer, counted) in
    let put : new ≡ old ++ ask.Listened port ∷ [] = is ∙ ap (λ xs. slice_set xs (n - 1) (ask.Listened port)) grown ∙ ap (λ i. slice_set (old ++ x ∷ []) i (ask.Listened port)) last ∙ set_last old x (ask.Listened port) in
    (asks_of old, refl, ap asks_of put ∙ map-append ask_of old (ask.Listened port ∷ []))
