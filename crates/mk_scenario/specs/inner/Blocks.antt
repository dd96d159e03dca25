-- For proofs alone. Beside `Blocks`, which has what a reader needs.
use Rattle.std.specs.Prelude.{ℕ, Bool, ◌||◌, List, [], is_some, codes, Result, Ok}
use Rattle.mk_base.specs.declared.json.Json.{Json}
use Rattle.mk_base.specs.declared.json.Json as tree
use Rattle.mk_base.specs.Trees.{member}
use Rattle.mk_base.specs.Verdicts.{passed}
use Rattle.mk_scenario_keys.specs.Tests.{key_in}
use Rattle.mk_scenario_keys.specs.Keys.{optional, values}
use Rattle.mk_scenario_keys.specs.declared.fault.ScenarioFault.{ScenarioFault}
use Rattle.mk_scenario.specs.Blocks as blocks
use Rattle.mk_scenario.specs.Blocks.{manner_said, pairs, via_of}
use Rattle.mk_scenario.specs.declared.parts.Place.{Place}
use Rattle.mk_scenario.specs.declared.parts.Block.{Block}
use Rattle.mk_scenario.specs.declared.blocks.BlockSaid.{BlockSaid}
use Rattle.mk_scenario.specs.declared.blocks.Manner.{Manner}

-- what the table of this path says beside these two references
abbrev pub said_between : List ℕ → Json → List ℕ → List ℕ → Result BlockSaid ScenarioFault
said_between path table from to =
    passed (optional [] (key_in path (codes "attrs")) pairs (member (codes "attrs") table))
    (λ attrs.
    passed (manner_said path table) (λ manner.
    passed (optional (tree.Object []) (key_in path (codes "initial_data")) values
    (member (codes "initial_data") table)) (λ initial.
    Ok (record { from = from; to = to; attrs = attrs; manner = manner; initial = initial }))))

-- the block that a table says, between these places
abbrev pub block_of : BlockSaid → Place → Place → Block
block_of said from to = record {
  from = from;
  to = to;
  attrs = said.attrs;
  via = via_of said.manner.width said.manner.weak;
  async_requests = said.manner.asks;
  initial = said.initial;
}

-- the connection delivers after the time at which it was given
abbrev pub is_delayed : Manner → Bool
is_delayed manner = is_some manner.width || manner.weak

-- the initial values that a table of this path says stand where they may
abbrev pub initial_fits : List ℕ → BlockSaid → Result Json ScenarioFault
initial_fits path said = blocks.initial_fits (key_in path (codes "initial_data"))
    (is_delayed said.manner) said.attrs said.initial
