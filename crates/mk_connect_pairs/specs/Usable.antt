-- What is asked of blocks before they are connected.
use Rattle.std.specs.Prelude.{ℕ, ◌<◌, ⊤}
use Rattle.mk_scenario.specs.declared.parts.Block.{Block}
use Rattle.mk_scenario.specs.declared.parts.Place.{Place}
use Rattle.mk_scenario.specs.declared.parts.Place.TheVariants.{Whole, One, Full}
use Rattle.mk_scenario_keys.specs.Keys.{IsObjectOfData}

-- a place of one of so many groups
abbrev pub HasGroup : ℕ → Place → Type 0
HasGroup groups (Whole n) = n < groups
HasGroup groups (One n i) = n < groups
HasGroup groups (Full sim eid) = ⊤

-- a block between places of so many groups, whose initial values are data
pub record IsUsable (groups : ℕ) (b : Block) : Type 0 where
  pub from : HasGroup groups b.from
  pub to : HasGroup groups b.to
  pub initial : IsObjectOfData b.initial
