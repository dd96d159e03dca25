-- The invariants and measures of the loops of `places::next_sim`.
use Rattle.std.proofs.Common.{ℕ, ◌<◌}
use Rattle.mk_cycles.specs.Orders.{MayFollow}
use Rattle.mk_cycles.specs.inner.Tables.{leads}
use Rattle.mk_cycles.proofs.places.next_sim.Given as goal

abbrev pub invariant-loop-sim : goal.invariant-loop-sim
invariant-loop-sim l = (t : ℕ) → t < l.sim → MayFollow (leads l.table) l.table.sims l.placed.order t → ⊥
