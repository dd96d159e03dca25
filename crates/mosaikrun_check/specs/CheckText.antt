-- The text that `check` prints of a scenario and of its simulators' ranks.
use Rattle.std.specs.Prelude.{ℕ, List, ◌∷◌, ◌++◌, ◌==◌, length, flat_map, position, unwrap_or, codes}
use Rattle.std.specs.Fmt.{decimal}
use Rattle.std.specs.List.{range_with_len}
use Rattle.mk_scenario.specs.declared.parts.Scenario.{Scenario}
use Rattle.mk_scenario.specs.Ids.{id_of_sim}

-- a line with a word and a number
abbrev pub counted : List ℕ → ℕ → List ℕ
counted word n = word ++ codes " " ++ decimal n ++ codes "\n"

-- the simulator of a rank; 0 where none has it
abbrev pub sim_of_rank : List ℕ → ℕ → ℕ
sim_of_rank ranks r = unwrap_or (position (λ x. x == r) ranks) 0

-- the ids of the simulators of the first n ranks, each behind a space
abbrev pub ids_by_rank : Scenario → List ℕ → ℕ → List ℕ
ids_by_rank S ranks n =
    flat_map (λ r. 32 ∷ id_of_sim S.sims (sim_of_rank ranks r)) (range_with_len 0 n)

-- how many simulators, groups and blocks there are, and the simulators' ids in rising rank
abbrev pub check_text : Scenario → List ℕ → List ℕ
check_text S ranks =
    counted (codes "sims") (length S.sims) ++ counted (codes "groups") (length S.groups)
    ++ counted (codes "blocks") (length S.blocks)
    ++ codes "order" ++ ids_by_rank S ranks (length S.sims) ++ codes "\n"
