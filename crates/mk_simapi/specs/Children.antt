-- The words of a program that is one simulator, and how such a program ends.
use Rattle.std.specs.Prelude.{◌≡◌, ℕ, ◌+◌, ◌⊎◌, List, [], ◌∷◌, ◌++◌, Option, Some, None, option_map, if◌then◌else◌}
use Rattle.mk_base.specs.declared.LinkNo.{LinkNo}
use Rattle.mk_base.specs.Links.{without}
use Rattle.mk_outside.specs.declared.fleet.LogEntry.{LogEntry}
use Rattle.mk_outside.specs.Logs.{Adds}
use Rattle.mk_outside.specs.Asked.{Asked, Asks, to_start}
use Rattle.mk_outside.specs.declared.fleet.Start.TheVariants.{Connect}
use Rattle.mk_scenario_keys.specs.Spelling.{port_of}
use Rattle.mk_local.specs.declared.turn.Turn.{Turn}
use Rattle.mk_local.specs.Kinds.{has_kind, kind_named}
use Rattle.mk_local.specs.Simulators.{new_simulator}
use Rattle.mk_simapi.specs.declared.served.Served.{Served}
use Rattle.mk_simapi.specs.declared.served.Served.TheVariants as served
use Rattle.mk_simapi.specs.Serving.{Serves}

-- the name of a kind and the port of an address, where the words are these two
abbrev pub asked : List Turn → List (List ℕ) → Option (List ℕ × ℕ)
asked rows [] = None
asked rows (kind ∷ []) = None
asked rows (kind ∷ address ∷ []) = if has_kind kind rows
    then option_map (λ port. let p : List ℕ × ℕ = (kind, port) in p) (port_of address) else None
asked rows (kind ∷ address ∷ word ∷ more) = None

-- the status by which each end is told
abbrev pub status_of : Served → ℕ
status_of served.Stopped = 0
status_of served.Closed = 5
status_of served.Failed = 6
status_of (served.Garbled test) = 5
status_of (served.TooLong n) = 5
status_of (served.LongReply n) = 7
status_of served.Mem = 8

-- the fleet failed to start a link, or there was no memory; none was started, and nothing was heard
-- or said
pub record IsUnstarted (started_before started_after : ℕ) (before after : List LinkNo)
    (old new : Option (List LogEntry)) (answer : ℕ) : Type 0 where
  pub status : (answer ≡ 6) ⊎ (answer ≡ 8)
  pub number : started_after ≡ started_before
  pub links : after ≡ before
  pub silent : Adds [] old new

-- one link was started, which has the next number, a simulator of the kind of this name was served on
-- it, and the link was closed again; the status is that of the serving's end
pub record HasServed (rows : List Turn) (kind : List ℕ) (started_before started_after : ℕ)
    (before after : List LinkNo) (old new : Option (List LogEntry)) (answer : ℕ) : Type 0 where
  pub link : LinkNo
  pub is : link.0 ≡ started_before
  pub end : Served
  pub entries : List LogEntry
  pub adds : Adds entries old new
  pub serves : (row : Turn) → kind_named kind rows ≡ Some row
      → Serves (new_simulator row) link end entries
  pub number : started_after ≡ started_before + 1
  pub links : after ≡ without link (before ++ link ∷ [])
  pub status : answer ≡ status_of end

-- the fleet was asked for a link to this port, and one was started; or it was asked for nothing, and
-- none was
abbrev pub AsksToConnect : ℕ → ℕ → ℕ → Option (List Asked) → Option (List Asked) → Type 0
AsksToConnect port started_before started_after old new =
    ((started_after ≡ started_before + 1) × Asks (to_start (Connect port) ∷ []) old new)
    ⊎ ((started_after ≡ started_before) × Asks [] old new)

-- what the program did
abbrev pub HasEnded : List Turn → List ℕ → ℕ → ℕ → List LinkNo → List LinkNo
    → Option (List LogEntry) → Option (List LogEntry) → ℕ → Type 0
HasEnded rows kind started_before started_after before after old new answer =
    IsUnstarted started_before started_after before after old new answer
    ⊎ HasServed rows kind started_before started_after before after old new answer
