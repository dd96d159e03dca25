-- What the start of a scenario's simulators leaves: the places of their links.
use Rattle.std.specs.Prelude.{◌≡◌, ℕ, ◌+◌, ◌<◌, ◌⊎◌, List, [], ◌∷◌, ◌++◌, length, take, flat_map, Option, Some, None, option_to_list, Result, Ok, Err}
use Rattle.mk_base.specs.declared.LinkNo.{LinkNo}
use Rattle.mk_base.specs.Lists.{Each}
use Rattle.mk_base.specs.Links.{without}
use Rattle.mk_scenario.specs.declared.parts.Begin.{Begin}
use Rattle.mk_scenario.specs.declared.parts.Begin.TheVariants.{Command, Connect, Local}
use Rattle.mk_scenario.specs.declared.parts.SimPart.{SimPart}
use Rattle.mk_launch.specs.declared.faults.StartFault.{StartFault}
use Rattle.mk_launch.specs.declared.faults.StartFault.TheVariants.{Failed, Mem}

-- what a fleet tells of its links: how many were started, and the open ones
pub record Links : Type 0 where
  pub started : ℕ
  pub links : List LinkNo

-- the link of this number
abbrev pub link_of : ℕ → LinkNo
link_of n = record { 0 = n }

-- the place of a simulator's link, so many links having been started before: the next one, or none
-- within the program
abbrev pub place_of : ℕ → Begin → Option LinkNo
place_of n (Command template) = Some (link_of n)
place_of n (Connect port) = Some (link_of n)
place_of n (Local kind) = None

-- how many links a place has
abbrev pub link_count : Option LinkNo → ℕ
link_count place = length (option_to_list place)

-- the places of simulators that are started in order, so many links having been started before
abbrev pub places : ℕ → List SimPart → List (Option LinkNo)
places n [] = []
places n (sim ∷ more) = place_of n sim.begin ∷ places (n + link_count (place_of n sim.begin)) more

-- the links that have a place
abbrev pub links_in : List (Option LinkNo) → List LinkNo
links_in = flat_map option_to_list

-- these simulators were started: each has its place, and their links are open behind those that
-- were open before
pub record AreStarted (sims : List SimPart) (old new : Links)
    (put : List (Option LinkNo)) : Type 0 where
  pub places : put ≡ places old.started sims
  pub started : new.started ≡ old.started + length (links_in put)
  pub links : new.links ≡ old.links ++ links_in put

-- one link more was started, found no memory for its place, and has been closed
pub record AreStartedAndOneClosed (sims : List SimPart) (old new : Links)
    (put : List (Option LinkNo)) : Type 0 where
  pub places : put ≡ places old.started sims
  pub started : new.started ≡ old.started + length (links_in put) + 1
  pub links : new.links
      ≡ without (link_of (old.started + length (links_in put))) (old.links ++ links_in put)

-- the links have numbers below that of the next one, so many having been started, as fleets number
-- them
abbrev pub AreNumbered : ℕ → List LinkNo → Type 0
AreNumbered started links = Each (λ (link : LinkNo). link.0 < started) links

-- what an answer says: all simulators were started; or those before the one at which the fleet
-- failed; or so many of the first ones, and memory was wanting
abbrev pub AllStarted : Result (Unit {0}) StartFault → List SimPart → Links → Links
    → List (Option LinkNo) → Type 0
AllStarted (Ok done) sims old new put = AreStarted sims old new put
AllStarted (Err (Failed sim)) sims old new put = (sim.0 < length sims)
    × AreStarted (take sim.0 sims) old new put
AllStarted (Err Mem) sims old new put = (count : ℕ) × (count < length sims)
    × (AreStarted (take count sims) old new put
    ⊎ AreStartedAndOneClosed (take count sims) old new put)
