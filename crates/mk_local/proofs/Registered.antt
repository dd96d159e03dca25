-- Kinds with names of their own.
use Rattle.std.proofs.Common.{◌≡◌, ℕ, true, false, List, [], ◌∷◌, ◌++◌, drop, get_or, length, sym, ap, ◌∙◌, subst, arith, suc}
use Rattle.std.specs.Prelude.{◌+◌, ◌<◌}
use Rattle.std.proofs.Math.Seq.{drop-cons}
use Rattle.mk_local.specs.declared.turn.Turn.{Turn}
use Rattle.mk_local.specs.Kinds.{has_kind, name_of}
use Rattle.mk_local.specs.inner.Registries.{are_new}
use Rattle.mk_base.proofs.Bools.{not_and}

pub next_new : (there turns : List Turn) (i : ℕ) (d T : Turn) → i < length turns → T ≡ get_or turns i d → are_new there (drop i turns) ≡ true
    → (has_kind (name_of T) there ≡ false) × (are_new (there ++ T ∷ []) (drop (i + 1) turns) ≡ true)
next_new there turns i d T low is new =
    let more : suc i ≡ i + 1 = omega arith in
    let next : drop i turns ≡ get_or turns i d ∷ drop (i + 1) turns = drop-cons turns i d low ∙ ap (λ (n : ℕ). get_or turns i d ∷ drop n turns) more in
    not_and (has_kind (name_of T) there) (are_new (there ++ T ∷ []) (drop (i + 1) turns))
    (subst (λ (x : Turn). are_new there (x ∷ drop (i + 1) turns) ≡ true) (sym is) (subst (λ (l : List Turn). are_new there l ≡ true) next new))
