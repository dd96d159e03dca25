-- The invariants and measures of the loops of `places::places`.
use Rattle.std.proofs.Common.{◌≡◌, ◌-◌, length}
use Rattle.mk_cycles.specs.Orders.{IsOrder}
use Rattle.mk_cycles.specs.inner.Tables.{leads}
use Rattle.mk_cycles.proofs.places.places.Given as goal

abbrev pub decreases-placing : goal.decreases-placing
decreases-placing l = l.table.sims - length l.placed.order

abbrev pub invariant-placing : goal.invariant-placing
invariant-placing l = record { count : l.placed.count ≡ l.table.sims; order : IsOrder (leads l.table) l.table.sims l.placed.order }
