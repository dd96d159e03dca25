-- The invariants and measures of the loops of `beginning::event_queue`.
use Rattle.std.proofs.Common.{◌≡◌, [], map, fold, take}
use Rattle.mk_base.specs.Tiers.{moment}
use Rattle.mk_sched_agenda.specs.inner.Dues.{with_own}
use Rattle.mk_sched_agenda.proofs.beginning.event_queue.Given as goal

abbrev pub invariant-loop-time : goal.invariant-loop-time
invariant-loop-time l = (l.time-items ≡ l.sim.initial) × (l.queue ≡ fold (with_own l.limits) [] (map moment (take l.time-index l.sim.initial)))
