-- For proofs alone. Beside `Wholly`, which has what a reader needs.
use Rattle.std.specs.Prelude.{List, length, replicate, Option, None}
use Rattle.mk_base.specs.declared.LinkNo.{LinkNo}
use Rattle.mk_scenario.specs.declared.parts.SimPart.{SimPart}

-- the places of their links, of which there are none
abbrev pub no_links : List SimPart → List (Option LinkNo)
no_links sims = replicate (length sims) None
