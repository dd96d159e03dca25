-- Answers to the goals of `log::is_newest` that the prover leaves.
use Rattle.std.proofs.Common.{◌≡◌, inl, inr, ℕ, false, get_or, sym, subst, ◌∙◌, arith}
use Rattle.mk_buffers_log.specs.inner.Logs.{is_outdone}
use Rattle.mk_buffers_log.proofs.Places.{below_or_same}
use Rattle.mk_buffers_log.proofs.log.is_newest.Goals as goal

pub loop-other-preserved : goal.loop-other-preserved
loop-other-preserved c = λ q d low. elim (below_or_same q c.loop-other.other low) [
  | inl same ↦ subst (λ (k : ℕ). is_outdone c.args.via c.args.until c.args.mark (get_or c.args.entries.now.items c.args.place d).at (get_or c.args.entries.now.items k d).at c.args.place k ≡ false) (sym same) (sym (c.if-is_outdone_at.ensures d))
  | inr l ↦ c.loop-other.invariant q d l
]

pub returns-clause-newest : goal.returns-clause-newest
returns-clause-newest c = λ h. record {
  comes = λ d. sym (c.comes_at.ensures d) ∙ c.if-not-comes_at.false;
  best = λ q d low. c.loop-other.invariant q d (omega (arith, low, c.loop-other-test.false, c.len-other-end.ensures));
}

pub returns-then-is_outdone_at-clause-outdone : goal.returns-then-is_outdone_at-clause-outdone
returns-then-is_outdone_at-clause-outdone c = λ h d come. (c.loop-other.other, omega (arith, c.loop-other-test.true, c.len-other-end.ensures), sym (c.if-is_outdone_at.ensures d))
