-- The invariants and measures of the loops of `outlets::no_rows`.
use Rattle.std.proofs.Common.{◌≡◌, ℕ, length, []}
use Rattle.mk_sched_agenda.specs.Outlets.{outlets_in}
use Rattle.mk_sched_agenda.proofs.outlets.no_rows.Given as goal

abbrev pub invariant-loop-sim : goal.invariant-loop-sim
invariant-loop-sim l = (l._sim-items ≡ l.plan.sims) × (length l.rows.items ≡ l._sim-index) × ((i : ℕ) → outlets_in l.rows.items i ≡ [])
