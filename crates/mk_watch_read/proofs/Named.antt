-- Rules with names of their own.
use Rattle.std.proofs.Common.{◌≡◌, ℕ, true, false, List, [], ◌∷◌, ◌++◌, map, drop, get_or, length, sym, ap, ◌∙◌, subst, arith, suc}
use Rattle.std.specs.Prelude.{◌+◌, ◌<◌}
use Rattle.std.proofs.Math.Seq.{drop-cons}
use Rattle.mk_watch_read.specs.declared.rule.Fold.{Fold}
use Rattle.mk_watch_read.specs.Folds.{name_of}
use Rattle.mk_watch_read.specs.Rules.{has_name}
use Rattle.mk_watch_read.specs.inner.Rules.{are_new}
use Rattle.mk_base.proofs.Bools.{not_and}

pub next_new : (there : List (List ℕ)) (folds : List Fold) (i : ℕ) (d F : Fold) (name : List ℕ) → i < length folds → F ≡ get_or folds i d → name ≡ name_of F → are_new there (map name_of (drop i folds)) ≡ true
    → (has_name name there ≡ false) × (are_new (there ++ name ∷ []) (map name_of (drop (i + 1) folds)) ≡ true)
next_new there folds i d F name low is named new =
    let more : suc i ≡ i + 1 = omega arith in
    let next : drop i folds ≡ get_or folds i d ∷ drop (i + 1) folds = drop-cons folds i d low ∙ ap (λ (n : ℕ). get_or folds i d ∷ drop n folds) more in
    let here : name_of (get_or folds i d) ≡ name = ap name_of (sym is) ∙ sym named in
    not_and (has_name name there) (are_new (there ++ name ∷ []) (map name_of (drop (i + 1) folds)))
    (subst (λ (n : List ℕ). are_new there (n ∷ map name_of (drop (i + 1) folds)) ≡ true) here (subst (λ (l : List Fold). are_new there (map name_of l) ≡ true) next new))
