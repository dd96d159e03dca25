-- What a fleet is asked at the start of a scenario's simulators.
use Rattle.std.specs.Prelude.{◌≡◌, ℕ, ◌⊎◌, List, [], ◌∷◌, ◌++◌, take, Some, slice_get, Result, Ok, Err, ⊤}
use Rattle.mk_outside.specs.declared.fleet.Start.{Start}
use Rattle.mk_outside.specs.declared.fleet.Start.TheVariants as start
use Rattle.mk_outside.specs.Asked.{Asked, to_listen, to_start}
use Rattle.mk_scenario.specs.declared.parts.Begin.{Begin}
use Rattle.mk_scenario.specs.declared.parts.Begin.TheVariants.{Command, Connect, Local}
use Rattle.mk_scenario.specs.declared.parts.SimPart.{SimPart}
use Rattle.mk_launch.specs.declared.faults.StartFault.{StartFault}
use Rattle.mk_launch.specs.declared.faults.StartFault.TheVariants.{Failed, Mem}
use Rattle.mk_launch.specs.Words.{words_of}

-- the start is by the words of this template for this port
abbrev pub IsCommand : List ℕ → ℕ → Start → Type 0
IsCommand template port (start.Command words) = words_of template port ≡ Ok words
IsCommand template port (start.Connect other) = ⊥

-- the simulator is begun by a command
abbrev pub IsByCommand : Begin → Type 0
IsByCommand (Command template) = ⊤
IsByCommand (Connect port) = ⊥
IsByCommand (Local kind) = ⊥

-- what a simulator's start asks: to listen, and then for the command's words with the port that this
-- gave; for a connection; within the program nothing
abbrev pub AsksFor : Begin → List Asked → Type 0
AsksFor (Command template) asks = (port : ℕ) × (begin : Start) × IsCommand template port begin
    × (asks ≡ to_listen port ∷ to_start begin ∷ [])
AsksFor (Connect port) asks = asks ≡ to_start (start.Connect port) ∷ []
AsksFor (Local kind) asks = asks ≡ []

-- that, or a beginning of it, the rest having been refused
abbrev pub AsksSome : Begin → List Asked → Type 0
AsksSome begin asks = AsksFor begin asks
    ⊎ ((asks ≡ []) ⊎ ((port : ℕ) × (asks ≡ to_listen port ∷ []) × IsByCommand begin))

-- so it was asked for each of these simulators, in their order
abbrev pub AsksForAll : List SimPart → List Asked → Type 0
AsksForAll [] asks = asks ≡ []
AsksForAll (sim ∷ sims) asks = (now : List Asked) × (later : List Asked) × (asks ≡ now ++ later)
    × AsksFor sim.begin now × AsksForAll sims later

-- and so for the first n of them, and then for the next one, or a beginning of that
pub record AsksUpTo (n : ℕ) (sims : List SimPart) (asks : List Asked) : Type 0 where
  pub first : List Asked
  pub last : List Asked
  pub parts : asks ≡ first ++ last
  pub before : AsksForAll (take n sims) first
  pub sim : SimPart
  pub there : slice_get sims n ≡ Some sim
  pub some : AsksSome sim.begin last

-- what was asked, by the answer
abbrev pub AsksBy : Result (Unit {0}) StartFault → List SimPart → List Asked → Type 0
AsksBy (Ok done) sims asks = AsksForAll sims asks
AsksBy (Err (Failed sim)) sims asks = AsksUpTo sim.0 sims asks
AsksBy (Err Mem) sims asks = (n : ℕ) × AsksUpTo n sims asks
