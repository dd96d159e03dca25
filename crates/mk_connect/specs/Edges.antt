-- Which simulators a scenario's connections put before which.
use Rattle.std.specs.Prelude.{ℕ, Bool, not, ◌||◌, ◌&&◌, ◌==◌, List, [], ◌∷◌, length, flat_map, option_map, unwrap_or, slice_get, if◌then◌else◌}
use Rattle.mk_base.specs.Tiers.{is_plain}
use Rattle.mk_cycles.specs.declared.ranking.Edge.{Edge}
use Rattle.mk_cycles.specs.Edges.{edge}
use Rattle.mk_scenario.specs.declared.parts.Group.{Group}
use Rattle.mk_scenario.specs.declared.parts.Place.{Place}
use Rattle.mk_scenario.specs.declared.parts.Place.TheVariants.{Whole, One, Full}
use Rattle.mk_scenario.specs.declared.parts.Block.{Block}
use Rattle.mk_scenario.specs.declared.parts.Scenario.{Scenario}

-- the simulator of a group, 0 where there is no such group
abbrev pub sim_of_group : List Group → ℕ → ℕ
sim_of_group groups n = unwrap_or (option_map (λ (g : Group). g.sim.0) (slice_get groups n)) 0

-- the simulator whose entities stand at a place
abbrev pub sim_at : List Group → Place → ℕ
sim_at groups (Whole n) = sim_of_group groups n
sim_at groups (One n i) = sim_of_group groups n
sim_at groups (Full sim eid) = sim.0

-- the left side has to come first: the block is asynchronous, or it is plain and connects
-- attributes
abbrev pub is_ordering : Block → Bool
is_ordering b = b.async_requests || (is_plain b.via && not (length b.attrs == 0))

-- the edge of a block, if there is one
abbrev pub edges_in : List Group → Block → List Edge
edges_in groups b = if is_ordering b then edge (sim_at groups b.from) (sim_at groups b.to) ∷ []
    else []

-- the edges of a scenario, in the order of its blocks
abbrev pub edges_of : Scenario → List Edge
edges_of S = flat_map (edges_in S.groups) S.blocks
