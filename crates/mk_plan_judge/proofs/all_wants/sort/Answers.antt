-- Answers to the goals of `all_wants::sort` that the prover leaves.
use Rattle.std.proofs.Common.{rules}
use Rattle.std.specs.Ordering.{is_lt}
use Rattle.std.proofs.lemmas.Fn.{always_returns_same}
use Rattle.std.proofs.lemmas.List.Sorted.{ranks_by}
use Rattle.mk_plan_judge.specs.inner.Takings.{taking_order, want_taken}
use Rattle.mk_plan_judge.proofs.Putting.{names_total}
use Rattle.mk_plan_judge.proofs.all_wants.sort.Goals as goal

pub returns : goal.returns
returns c = (
  c.in_ok-sort_by.ensures.permutation,
  c.in_ok-sort_by.ensures.sorted (λ x y. is_lt (taking_order x y)) (ranks_by names_total want_taken) (always_returns_same _ _ _ (λ a r f' k. search rules)),
)
