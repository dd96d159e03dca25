-- Which entities are related: one names the other or has it as its child, or a block pairs them.
use Rattle.std.specs.Prelude.{ℕ, suc, Bool, not, ◌||◌, ◌&&◌, ◌==◌, List, [], ◌∷◌, ◌++◌, map, flat_map}
use Rattle.std.specs.List.{filter, list_any, range_with_len}
use Rattle.mk_entities.specs.declared.entities.EntityInfo.{EntityInfo}
use Rattle.mk_scenario.specs.declared.parts.Block.{Block}
use Rattle.mk_connect_pairs.specs.Connections.{block_pairs}

-- the pairs that entities, which are numbered from n, make of themselves
abbrev pub own_pairs : ℕ → List EntityInfo → List (ℕ × ℕ)
own_pairs n [] = []
own_pairs n (e ∷ es) = map (λ i. (n, i)) e.related ++ own_pairs (suc n) es

-- all pairs, of entities and of blocks
abbrev pub pairs_of : List EntityInfo → List Block → List (ℕ × ℕ)
pairs_of entities blocks = own_pairs 0 entities ++ flat_map (block_pairs entities) blocks

-- the pair is of these two, in either direction
abbrev pub joins : ℕ → ℕ → ℕ × ℕ → Bool
joins i j p = ((p.0 == i) && (p.1 == j)) || ((p.0 == j) && (p.1 == i))

-- another entity that some pair joins with this one
abbrev pub is_related : List (ℕ × ℕ) → ℕ → ℕ → Bool
is_related pairs i j = not (i == j) && list_any (joins i j) pairs

-- the entities among so many that this one is related to, in rising number
abbrev pub related : ℕ → List (ℕ × ℕ) → ℕ → List ℕ
related count pairs i = filter (is_related pairs i) (range_with_len 0 count)
