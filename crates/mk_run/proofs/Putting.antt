-- One simulator has something else, the others have what they had.
use Rattle.std.proofs.Common.{◌≡◌, inl, inr, ℕ, Bool, if◌then◌else◌, sym, ap, ◌∙◌, subst}
use Rattle.mk_run.specs.inner.Underway.{put}
use Rattle.mk_base.proofs.Counts.{not_same, same_or_not, same_self}

pub put_here : {X : Type 0} (f : ℕ → X) (s : ℕ) (x : X) → put f s x s ≡ x
put_here f s x = ap (λ (b : Bool). if b then x else f s) (same_self s)

pub put_away : {X : Type 0} (f : ℕ → X) (s : ℕ) (x : X) (i : ℕ) → (i ≡ s → ⊥) → put f s x i ≡ f i
put_away f s x i apart = ap (λ (b : Bool). if b then x else f i) (not_same i s apart)

pub put_same : {X : Type 0} (f : ℕ → X) (s : ℕ) (x : X) → f s ≡ x → (i : ℕ) → f i ≡ put f s x i
put_same f s x is i = elim (same_or_not i s) [
  | inl q ↦ subst (λ (j : ℕ). f j ≡ put f s x j) (sym q) (is ∙ sym (put_here f s x))
  | inr apart ↦ sym (put_away f s x i apart)
]
