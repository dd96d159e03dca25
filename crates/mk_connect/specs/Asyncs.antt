-- The asynchronous pairs of simulators, each once, at the first block that asks for it.
use Rattle.std.specs.Prelude.{Bool, ◌&&◌, ◌==◌, List, [], ◌∷◌, ◌++◌, flat_map, fold, if◌then◌else◌}
use Rattle.std.specs.List.{list_any}
use Rattle.mk_plan.specs.declared.AsyncPair.{AsyncPair}
use Rattle.mk_scenario.specs.declared.parts.Group.{Group}
use Rattle.mk_scenario.specs.declared.parts.Block.{Block}
use Rattle.mk_connect.specs.Edges.{sim_at}

abbrev pub same_pair : AsyncPair → AsyncPair → Bool
same_pair p q = (p.from.0 == q.from.0) && (p.to.0 == q.to.0)

-- one pair more, unless it is there
abbrev pub pair_put : List AsyncPair → AsyncPair → List AsyncPair
pair_put pairs p = if list_any (same_pair p) pairs then pairs else pairs ++ p ∷ []

-- the pair of a block that is asynchronous
abbrev pub asyncs_in : List Group → Block → List AsyncPair
asyncs_in groups b = if b.async_requests
    then record {
      from = record { 0 = sim_at groups b.from };
      to = record { 0 = sim_at groups b.to };
    } ∷ [] else []

-- each distinct pair at its first block
abbrev pub asyncs_of : List Group → List Block → List AsyncPair
asyncs_of groups blocks = fold pair_put [] (flat_map (asyncs_in groups) blocks)
