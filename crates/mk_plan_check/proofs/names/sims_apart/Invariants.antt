-- The invariants and measures of the loops of `names::sims_apart`.
use Rattle.std.proofs.Common.{◌≡◌, not, length}
use Rattle.mk_base.specs.Lists.{same_text}
use Rattle.mk_plan_check.specs.Tests.{all_apart}
use Rattle.mk_plan_check.proofs.names.sims_apart.Given as goal

abbrev pub invariant-pairs : goal.invariant-pairs
invariant-pairs l = all_apart (λ s t. not (same_text s.id t.id)) l.plan.sims ≡ all_apart (λ s t. not (same_text s.id t.id)) l.left

abbrev pub decreases-pairs : goal.decreases-pairs
decreases-pairs l = length l.left
