-- The invariants and measures of the loops of `log::is_newest`.
use Rattle.std.proofs.Common.{◌≡◌, ◌<◌, ℕ, false, get_or}
use Rattle.mk_plan.specs.Deliveries.{Timed}
use Rattle.mk_buffers_log.specs.inner.Logs.{is_outdone}
use Rattle.mk_buffers_log.proofs.log.is_newest.Given as goal

abbrev pub invariant-loop-other : goal.invariant-loop-other
invariant-loop-other l = (q : ℕ) (d : Timed) → q < l.other → is_outdone l.via l.until l.mark (get_or l.entries.items l.place d).at (get_or l.entries.items q d).at l.place q ≡ false
