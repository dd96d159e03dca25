-- The invariants and measures of the loops of `outlets::outlets_of`.
use Rattle.std.proofs.Common.{◌≡◌}
use Rattle.mk_sched_agenda.specs.inner.Outlets.{AreRowsOf}
use Rattle.mk_sched_agenda.proofs.outlets.outlets_of.Given as goal

abbrev pub invariant-loop-place : goal.invariant-loop-place
invariant-loop-place l = (l.conn-items ≡ l.plan.conns) × AreRowsOf l.plan l.place l.rows.items
