-- The invariants and measures of the loops of `agenda::count_so`.
use Rattle.std.proofs.Common.{◌≡◌, length}
use Rattle.mk_sched_trials.proofs.agenda.count_so.Given as goal

abbrev pub invariant-loop-place : goal.invariant-loop-place
invariant-loop-place l = length l.agenda.queues ≡ 2
