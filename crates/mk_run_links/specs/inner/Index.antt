-- For proofs alone. The links of a crew's channels, with the simulators on them.
use Rattle.std.specs.Prelude.{◌≡◌, ℕ, List, length, Option, Some, slice_get}
use Rattle.mk_base.specs.declared.LinkNo.{LinkNo}
use Rattle.mk_base.specs.declared.SimNo.{SimNo}
use Rattle.mk_launch.specs.Starts.{links_in}

-- the links that have a place, and the simulators whose places these are
pub record AreListed (places : List (Option LinkNo)) (links : List LinkNo)
    (sims : List SimNo) : Type 0 where
  pub all : links ≡ links_in places
  pub paired : length sims ≡ length links
  pub placed : (k : ℕ) (sim : SimNo) (link : LinkNo) → slice_get sims k ≡ Some sim
      → slice_get links k ≡ Some link
      → slice_get places sim.0 ≡ Some (Some link)
