-- The invariants and measures of the loops of `beginning::first_dues`.
use Rattle.std.proofs.Common.{◌≡◌}
use Rattle.mk_sched_agenda.specs.inner.Begun.{AreBegun, AreNone}
use Rattle.mk_sched_agenda.proofs.beginning.first_dues.Given as goal

abbrev pub invariant-loop-number : goal.invariant-loop-number
invariant-loop-number l = (l.sim-items ≡ l.plan.sims) × AreBegun l.plan l.number l.dues.queues.items l.dues.opened l.dues.bounds × AreNone l.number l.dues.lasts.items
