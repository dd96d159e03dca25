-- What contracts see of a crew.
use Rattle.std.specs.Prelude.{ℕ, Bool, List, Option, is_some}
use Rattle.mk_base.specs.declared.LinkNo.{LinkNo}
use Rattle.mk_plan.specs.Journals.{Arrival}
use Rattle.mk_local.specs.Simulators.{Simulator}
use Rattle.mk_run_laws.specs.Crews.{CrewState}
use Rattle.mk_run_links.specs.declared.answers.LinkHalt.{LinkHalt}
use Rattle.mk_run_links.specs.Places.{Channels}
use Rattle.mk_run_local.specs.Seen.{WithinState, sim_at}

-- the places of its links, their channels, the simulators within the program, the replies of theirs
-- that are kept, and the halt that it answers again
pub record CrewSeen : Type 0 where
  pub places : List (Option LinkNo)
  pub channels : Channels
  pub sims : List (Option Simulator)
  pub kept : List Arrival
  pub halt : Option LinkHalt

-- its channels and the replies that are kept
abbrev pub crew_of : CrewSeen → CrewState
crew_of C = record { channels = C.channels; kept = C.kept }

-- its simulators within the program
abbrev pub within_of : CrewSeen → WithinState
within_of C = record { sims = C.sims; kept = C.kept }

-- simulator i is within the program
abbrev pub is_here : CrewSeen → ℕ → Bool
is_here C i = is_some (sim_at (within_of C) i)
