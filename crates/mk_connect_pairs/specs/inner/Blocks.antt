-- For proofs alone. Beside `Connections`, which has what a reader needs.
use Rattle.std.specs.Prelude.{ℕ, List, Result, Ok}
use Rattle.mk_base.specs.Verdicts.{unless}
use Rattle.mk_entities.specs.declared.entities.EntityInfo.{EntityInfo}
use Rattle.mk_scenario.specs.declared.parts.Block.{Block}
use Rattle.mk_scenario.specs.declared.parts.SimPart.{SimPart}
use Rattle.mk_connect_pairs.specs.declared.fault.ConnectFault.{ConnectFault}
use Rattle.mk_connect_pairs.specs.Connections.{block_pairs}
use Rattle.mk_connect_pairs.specs.Ends.{place_fault}

-- which entities a block pairs, where what it names are entities
abbrev pub tested_pairs : List SimPart → List EntityInfo → Block
    → Result (List (ℕ × ℕ)) ConnectFault
tested_pairs sims entities b =
    unless (place_fault sims entities b.from) (
    unless (place_fault sims entities b.to) (
    Ok (block_pairs entities b)))
