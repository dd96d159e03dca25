-- Which scenarios can be run, the kinds of simulators within the program having certain names, and
-- why others can't.
use Rattle.std.specs.Prelude.{◌≡◌, ◌⊎◌, ℕ, List, length, map}
use Rattle.mk_base.specs.declared.SimNo.{SimNo}
use Rattle.mk_cycles.specs.Cycles.{IsCycle}
use Rattle.mk_cycles.specs.Edges.{has_edge}
use Rattle.mk_cycles.specs.Orders.{IsRanking}
use Rattle.mk_cycles.specs.Outcomes.{IsEachOnce, IsRising, numbers}
use Rattle.mk_scenario.specs.declared.parts.Scenario.{Scenario}
use Rattle.mk_connect.specs.Edges.{edges_of}
use Rattle.mk_launch.specs.declared.faults.Unready.{Unready}
use Rattle.mk_launch.specs.Ready.{IsFirstFault, IsPrepared}
use Rattle.mosaikrun_endings.specs.declared.ending.Ending.{Ending}
use Rattle.mosaikrun_endings.specs.declared.ending.Ending.TheVariants as ends
use Rattle.mk_scenario.specs.Ids.{id_of_sim}

-- these are the ranks of the scenario's simulators
abbrev pub AreRanks : Scenario → List ℕ → Type 0
AreRanks S ranks = IsRanking (has_edge (edges_of S)) (length S.sims) ranks

-- the scenario has these ranks, so each number below the count of simulators is there once, and they
-- rise along its edges; and each of its simulators can be begun
pub record IsRunnable (kinds : List (List ℕ)) (S : Scenario) (ranks : List ℕ) : Type 0 where
  pub ranked : AreRanks S ranks
  pub each_once : IsEachOnce (length S.sims) ranks
  pub rising : IsRising (edges_of S) ranks
  pub prepared : IsPrepared S kinds

-- the ending names the first simulator that can't be begun, by its id, and why
pub record IsUnbegun (S : Scenario) (kinds : List (List ℕ)) (ending : Ending) : Type 0 where
  pub unready : Unready
  pub first : IsFirstFault S kinds unready
  pub is : ending ≡ ends.Launch (id_of_sim S.sims unready.sim.0) unready.fault

-- the ending has the ids of the simulators of the cycle that leaves no ranks
pub record IsCircular (S : Scenario) (ending : Ending) : Type 0 where
  pub walk : List SimNo
  pub cycle : IsCycle (has_edge (edges_of S)) (length S.sims) (numbers walk)
  pub is : ending ≡ ends.Cycle (map (λ (s : SimNo). id_of_sim S.sims s.0) walk)

-- the scenario has ranks, and the ending is that of its first simulator that can't be begun
pub record IsUnprepared (kinds : List (List ℕ)) (S : Scenario) (ending : Ending) : Type 0 where
  pub ranks : List ℕ
  pub ranked : AreRanks S ranks
  pub unbegun : IsUnbegun S kinds ending

-- why a scenario can't be run; or memory is wanting
abbrev pub IsUnrunnable : List (List ℕ) → Scenario → Ending → Type 0
IsUnrunnable kinds S e = (e ≡ ends.Mem) ⊎ (IsCircular S e ⊎ IsUnprepared kinds S e)
