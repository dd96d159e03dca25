-- What stands at a place of a list, and how places compare.
use Rattle.std.specs.Prelude.{OnOk, OnErr}
use Rattle.std.proofs.Common.{◌≡◌, ◌≢◌, ◌⊎◌, inl, inr, ℕ, ◌+◌, ◌<◌, Result, Ok, Err, arith}
pub use Rattle.mk_plan_judge.proofs.AtPlaces.{get_any, get_some}

pub apart_or_same : (i j : ℕ) → (i ≡ j) ⊎ (i ≢ j)
apart_or_same i j = elim (compared i j) [ inl less ↦ inr (λ e. omega arith) | inr more ↦ elim more [ inl same ↦ inl same | inr greater ↦ inr (λ e. omega arith) ] ]
  where
    compared : (i j : ℕ) → (i < j) ⊎ ((i ≡ j) ⊎ (j < i))
    compared i j = grind arith

pub below_or_same : (s n : ℕ) → s < n + 1 → (s ≡ n) ⊎ (s < n)
below_or_same s n h = grind arith

-- what follows either way
pub either_way : {A E : Type 0} {P Q R : Type 0} (r : Result A E) → OnOk r P → OnErr r Q → (P → R) → (Q → R) → R
either_way (Ok a) p q f g = f p
either_way (Err e) p q f g = g q
