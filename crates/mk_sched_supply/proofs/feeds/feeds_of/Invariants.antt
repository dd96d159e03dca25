-- The invariants and measures of the loops of `feeds::feeds_of`.
use Rattle.std.proofs.Common.{◌≡◌}
use Rattle.mk_sched_supply.specs.inner.Making.{AreFeedsOf}
use Rattle.mk_sched_supply.proofs.feeds.feeds_of.Given as goal

abbrev pub invariant-loop-place : goal.invariant-loop-place
invariant-loop-place l = (l.conn-items ≡ l.plan.conns) × AreFeedsOf l.plan l.place l.feeds.items
