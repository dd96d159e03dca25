-- The invariants and measures of the loops of `bounds::count_so`.
use Rattle.std.proofs.Common.{◌≡◌, length}
use Rattle.mk_sched_trials.proofs.bounds.count_so.Given as goal

abbrev pub invariant-loop-place : goal.invariant-loop-place
invariant-loop-place l = length l.bounds.owns ≡ 2
