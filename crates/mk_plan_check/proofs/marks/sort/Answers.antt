-- Answers to the goals of `marks::sort` that the prover leaves.
use Rattle.std.proofs.Common.{rules}
use Rattle.std.specs.Cmp.Lexicographic.{nat_list_cmp_total}
use Rattle.std.proofs.lemmas.Fn.{always_returns_same}
use Rattle.std.proofs.lemmas.List.Sorted.{ranks_by}
use Rattle.mk_plan_check.specs.inner.Marks.{label_of, comes_first}
use Rattle.mk_plan_check.proofs.marks.sort.Goals as goal

pub returns-clause-sorted : goal.returns-clause-sorted
returns-clause-sorted c = c.sort_unstable_by.ensures.sorted comes_first (ranks_by nat_list_cmp_total (λ m. (label_of m).key)) (always_returns_same _ _ _ (λ a r f' k. search rules))
