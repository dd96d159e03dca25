-- The invariants and measures of the loops of `table::Table::new`.
use Rattle.std.proofs.Common.{◌≡◌, ℕ, ◌+◌, ◌*◌, ◌<◌, false, length, take, slice_index_or}
use Rattle.mk_cycles.specs.Edges.{has_edge}
use Rattle.mk_cycles.proofs.table.Table.new.Given as goal

abbrev pub invariant-loop-edge : goal.invariant-loop-edge
invariant-loop-edge l = record {
  area : length l.set.items ≡ l.sims * l.sims;
  same : (p s : ℕ) → p < l.sims → s < l.sims → slice_index_or l.set.items (s * l.sims + p) false ≡ has_edge (take l.edge-index l.edges) p s;
}
