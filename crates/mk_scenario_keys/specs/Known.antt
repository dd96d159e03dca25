-- The keys that each kind of table has.
use Rattle.std.specs.Prelude.{ℕ, List, [], ◌∷◌, codes}
use Rattle.mk_scenario_keys.specs.declared.known.Table.{Table}
use Rattle.mk_scenario_keys.specs.declared.known.Table.TheVariants.{Top, Sim, Group, Block}

abbrev pub top_keys : List (List ℕ)
top_keys = codes "until" ∷ codes "max_loop_iterations" ∷ codes "max_entries" ∷ codes "sim"
    ∷ codes "entities" ∷ codes "connect" ∷ []

abbrev pub sim_keys : List (List ℕ)
sim_keys = codes "name" ∷ codes "command" ∷ codes "connect" ∷ codes "local" ∷ codes "params"
    ∷ codes "initial_events" ∷ []

abbrev pub group_keys : List (List ℕ)
group_keys = codes "id" ∷ codes "sim" ∷ codes "model" ∷ codes "num" ∷ codes "params" ∷ []

abbrev pub block_keys : List (List ℕ)
block_keys = codes "from" ∷ codes "to" ∷ codes "attrs" ∷ codes "time_shifted" ∷ codes "weak"
    ∷ codes "async_requests" ∷ codes "initial_data" ∷ []

abbrev pub keys_of : Table → List (List ℕ)
keys_of Top = top_keys
keys_of Sim = sim_keys
keys_of Group = group_keys
keys_of Block = block_keys
