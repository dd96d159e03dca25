-- The ranks with which a setup begins.
use Rattle.std.specs.Prelude.{ℕ, List, length}
use Rattle.mk_cycles.specs.Edges.{has_edge}
use Rattle.mk_cycles.specs.Orders.{IsRanking}
use Rattle.mk_cycles.specs.Outcomes.{IsEachOnce, IsRising}
use Rattle.mk_scenario.specs.declared.parts.Scenario.{Scenario}
use Rattle.mk_connect.specs.Edges.{edges_of}

-- the ranks are those of the scenario's edges: each number is the rank of one simulator, and ranks
-- rise along edges
pub record AreRanksOf (S : Scenario) (ranks : List ℕ) : Type 0 where
  pub ranking : IsRanking (has_edge (edges_of S)) (length S.sims) ranks
  pub each_once : IsEachOnce (length S.sims) ranks
  pub rising : IsRising (edges_of S) ranks
