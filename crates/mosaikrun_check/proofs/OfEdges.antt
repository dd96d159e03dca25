-- The ranks of a scenario, by those of its edges.
use Rattle.std.proofs.Common.{◌≡◌, ℕ, List, length, inl, inr, ◌⊎◌, subst}
use Rattle.mk_cycles.specs.Edges.{has_edge}
use Rattle.mk_cycles.specs.Orders.{IsRanking}
use Rattle.mk_cycles.specs.Outcomes.{IsEachOnce, IsRising}
use Rattle.mk_cycles.specs.declared.ranking.Edge.{Edge}
use Rattle.mk_connect.specs.Edges.{edges_of}
use Rattle.mk_launch.specs.Ready.{IsPrepared}
use Rattle.mk_scenario.specs.declared.parts.Scenario.{Scenario}
use Rattle.mosaikrun_endings.specs.declared.ending.Ending.{Ending}
use Rattle.mosaikrun_endings.specs.declared.ending.Ending.TheVariants.{Mem}
use Rattle.mosaikrun_check.specs.Runnable.{AreRanks, IsRunnable, IsUnbegun, IsUnrunnable}

-- ranks by the scenario's edges and its number of simulators
pub ranked_by : (S : Scenario) (ranks : List ℕ) (edges : List Edge) (n : ℕ) → edges ≡ edges_of S → n ≡ length S.sims → IsRanking (has_edge edges) n ranks → AreRanks S ranks
ranked_by S ranks edges n are count ranked = subst (λ (m : ℕ). IsRanking (has_edge (edges_of S)) m ranks) count (subst (λ (es : List Edge). IsRanking (has_edge es) n ranks) are ranked)

-- the scenario can be run
pub can_run : (kinds : List (List ℕ)) (S : Scenario) (ranks : List ℕ) (edges : List Edge) (n : ℕ) → edges ≡ edges_of S → n ≡ length S.sims → IsRanking (has_edge edges) n ranks → IsEachOnce n ranks → IsRising edges ranks → IsPrepared S kinds → IsRunnable kinds S ranks
can_run kinds S ranks edges n are count ranking each rising prepared = record {
  ranked = ranked_by S ranks edges n are count ranking;
  each_once = subst (λ (m : ℕ). IsEachOnce m ranks) count each;
  rising = subst (λ (es : List Edge). IsRising es ranks) are rising;
  prepared = prepared;
}

-- or it can't, since a simulator can't be begun, or there is no memory
pub unprepared : (kinds : List (List ℕ)) (S : Scenario) (ranks : List ℕ) (ending : Ending) → AreRanks S ranks → (ending ≡ Mem) ⊎ IsUnbegun S kinds ending → IsUnrunnable kinds S ending
unprepared kinds S ranks ending ranked (inl mem) = inl mem
unprepared kinds S ranks ending ranked (inr unbegun) = inr (inr (record { ranks = ranks; ranked = ranked; unbegun = unbegun }))
