-- The ids of a scenario's simulators, by their numbers.
use Rattle.std.specs.Prelude.{ℕ, List, [], option_map, unwrap_or, slice_get}
use Rattle.mk_scenario.specs.declared.parts.SimPart.{SimPart}

-- the id of a simulator; no text where there is none of this number
abbrev pub id_of_sim : List SimPart → ℕ → List ℕ
id_of_sim sims s = unwrap_or (option_map (λ (part : SimPart). part.id) (slice_get sims s)) []
