-- Answers to the goals of `derived::new_derived` that the prover leaves.
use Rattle.std.proofs.Common.{sym, ◌∙◌, true≢false, arith}
use Rattle.std.proofs.lemmas.Bool.{lt-ltb}
use Rattle.mk_sched.proofs.derived.new_derived.Goals as goal

pub returns-clause-told : goal.returns-clause-told
returns-clause-told c = λ going s low h out. absurd (true≢false (sym (c.below.ensures s h ∙ lt-ltb s _ (omega (arith, low, c.len.ensures))) ∙ out))
