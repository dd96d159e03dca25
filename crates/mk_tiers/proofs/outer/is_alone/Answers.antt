-- Answers to the goals of `outer::is_alone` that the prover leaves.
use Rattle.std.proofs.Common.{◌≡◌, ℕ, slice_index, ap, ◌∙◌, arith, inl, inr}
use Rattle.std.proofs.lemmas.Bool.{cases_lt}
use Rattle.mk_tiers.proofs.outer.is_alone.Goals as goal

pub loop-other-preserved : goal.loop-other-preserved
loop-other-preserved c = λ v h k. elim (cases_lt v c.loop-other.other) [
  | inl before ↦ c.loop-other.invariant v before k
  | inr now ↦
      let same : v ≡ c.loop-other.other = omega arith in
      let none = c.is_own_or_none.ensures c.if-not-is_own_or_none.false (λ q. k (same ∙ q)) in
      omega (arith, none, ap (λ (i : ℕ). slice_index c.args.owns.now i) same)
]
