-- The ends of a scenario's edges are its simulators.
use Rattle.std.proofs.Common.{ℕ, zero, suc, ◌<◌, Bool, true, false, List, [], ◌∷◌, ◌++◌, length, arith}
use Rattle.std.specs.Prelude.{flat_map, if◌then◌else◌}
use Rattle.mk_base.specs.Lists.{Each}
use Rattle.mk_cycles.specs.declared.ranking.Edge.{Edge}
use Rattle.mk_cycles.specs.Edges.{edge, EndsBelow}
use Rattle.mk_scenario.specs.declared.parts.Group.{Group}
use Rattle.mk_scenario.specs.declared.parts.Place.{Place}
use Rattle.mk_scenario.specs.declared.parts.Place.TheVariants.{Whole, One, Full}
use Rattle.mk_scenario.specs.declared.parts.Block.{Block}
use Rattle.mk_scenario.specs.declared.parts.Scenario.{Scenario}
use Rattle.mk_scenario.specs.Wellformed.{IsPlace, IsWellformed, IsWellformedBlock, IsWellformedGroup}
use Rattle.mk_connect.specs.Edges.{edges_in, edges_of, is_ordering, sim_at, sim_of_group}

pub group_below : (n : ℕ) (groups : List Group) (g : ℕ) → Each (IsWellformedGroup n) groups → g < length groups → sim_of_group groups g < n
group_below n [] g each within = absurd (omega (arith, within))
group_below n (x ∷ xs) zero each within = each.0.sim
group_below n (x ∷ xs) (suc g) each within = group_below n xs g each.1 (omega (arith, within))

pub place_below : (n : ℕ) (groups : List Group) (place : Place) → Each (IsWellformedGroup n) groups → IsPlace n groups place → sim_at groups place < n
place_below n groups (Whole g) each there = group_below n groups g each there
place_below n groups (One g i) each there = group_below n groups g each there.0
place_below n groups (Full sim eid) each there = there

below_more : (n : ℕ) (b : Bool) (from to : ℕ) (more : List Edge) → from < n → to < n → EndsBelow n more → EndsBelow n ((if b then edge from to ∷ [] else []) ++ more)
below_more n true from to more f t each = ((f, t), each)
below_more n false from to more f t each = each

blocks_below : (n : ℕ) (groups : List Group) (blocks : List Block) → Each (IsWellformedGroup n) groups → Each (IsWellformedBlock n groups) blocks → EndsBelow n (flat_map (edges_in groups) blocks)
blocks_below n groups [] each all = tt
blocks_below n groups (b ∷ blocks) each all =
    below_more n (is_ordering b) (sim_at groups b.from) (sim_at groups b.to) (flat_map (edges_in groups) blocks)
    (place_below n groups b.from each all.0.from) (place_below n groups b.to each all.0.to) (blocks_below n groups blocks each all.1)

pub edges_below : (S : Scenario) → IsWellformed S → EndsBelow (length S.sims) (edges_of S)
edges_below S wellformed = blocks_below (length S.sims) S.groups S.blocks wellformed.groups wellformed.blocks
