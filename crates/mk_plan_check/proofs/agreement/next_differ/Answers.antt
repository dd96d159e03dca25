-- Answers to the goals of `agreement::next_differ` that the prover leaves.
use Rattle.std.proofs.Common.{rules}
use Rattle.std.proofs.lemmas.Fn.{always_returns_same}
use Rattle.mk_plan_check.specs.inner.Marks.{differ_by}
use Rattle.mk_plan_check.proofs.Neighbours.{adjacent_is}
use Rattle.mk_plan_check.proofs.agreement.next_differ.Goals as goal

pub returns : goal.returns
returns c = adjacent_is differ_by c.args.marks.now c.is_sorted_by.result (c.is_sorted_by.ensures.cases differ_by (always_returns_same _ _ _ (λ a r f' k. search rules)))
