-- The invariants and measures of the loops of `turns::count_so`.
use Rattle.std.proofs.Common.{◌≡◌, length}
use Rattle.mk_sched_trials.proofs.turns.count_so.Given as goal

abbrev pub invariant-loop-place : goal.invariant-loop-place
invariant-loop-place l = length l.sims ≡ 2
