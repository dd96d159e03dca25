-- What the two outcomes of ranking say of the edges.
use Rattle.std.specs.Prelude.{◌≡◌, ◌==◌, ℕ, ◌<◌, List, map, slice_index, count_by, ⊤}
use Rattle.mk_base.specs.Lists.{Each}
use Rattle.mk_base.specs.declared.SimNo.{SimNo}
use Rattle.mk_cycles.specs.declared.ranking.Edge.{Edge}
use Rattle.mk_cycles.specs.declared.ranking.CycleFault.{CycleFault}
use Rattle.mk_cycles.specs.declared.ranking.CycleFault.TheVariants.{Cycle, Mem}
use Rattle.mk_cycles.specs.Cycles.{IsCycle}
use Rattle.mk_cycles.specs.Edges.{has_edge, IsClosedWalk}

-- each number below the count is the rank of one simulator
abbrev pub IsEachOnce : ℕ → List ℕ → Type 0
IsEachOnce sims ranks = (r : ℕ) → r < sims → count_by (λ x. x == r) ranks ≡ 1

-- along each edge the rank rises
abbrev pub IsRising : List Edge → List ℕ → Type 0
IsRising edges ranks = Each
    (λ (e : Edge). slice_index ranks e.from.0 < slice_index ranks e.to.0) edges

-- the numbers of a walk
abbrev pub numbers : List SimNo → List ℕ
numbers walk = map (λ (s : SimNo). s.0) walk

-- the fault names the cycle
abbrev pub CycleOf : List Edge → ℕ → CycleFault → Type 0
CycleOf edges sims (Cycle walk) = IsCycle (has_edge edges) sims (numbers walk)
CycleOf edges sims Mem = ⊤

-- the fault names a closed walk
abbrev pub ClosedWalkOf : List Edge → CycleFault → Type 0
ClosedWalkOf edges (Cycle walk) = IsClosedWalk edges (numbers walk)
ClosedWalkOf edges Mem = ⊤
