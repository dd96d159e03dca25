-- Answers to the goals of `agreement::next_agree` that the prover leaves.
use Rattle.std.proofs.Common.{rules}
use Rattle.std.proofs.lemmas.Fn.{always_returns_same}
use Rattle.mk_plan_check.specs.inner.Marks.{agree_by}
use Rattle.mk_plan_check.proofs.Neighbours.{adjacent_is}
use Rattle.mk_plan_check.proofs.agreement.next_agree.Goals as goal

pub returns : goal.returns
returns c = adjacent_is agree_by c.args.marks.now c.is_sorted_by.result (c.is_sorted_by.ensures.cases agree_by (always_returns_same _ _ _ (λ a r f' k. search rules)))
