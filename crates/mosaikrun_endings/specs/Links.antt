-- What is said of a link that ended, or on which no message came.
use Rattle.std.specs.Prelude.{ℕ, List, ◌++◌, codes}
use Rattle.std.specs.Fmt.{decimal}
use Rattle.mosaikrun_endings.specs.declared.links.LinkFault.{LinkFault}
use Rattle.mosaikrun_endings.specs.declared.links.LinkFault.TheVariants.{Closed, Garbled, LongFrame}

-- by the simulator's id, and why
abbrev pub text_of_link : List ℕ → LinkFault → List ℕ
text_of_link sim Closed = codes "run 5: " ++ sim ++ codes " closed its link"
text_of_link sim (Garbled test) = codes "run 6: " ++ sim ++ codes " sent no message ("
    ++ decimal test ++ codes ")"
text_of_link sim (LongFrame length) = codes "run 7: " ++ sim ++ codes " frame of " ++ decimal length
    ++ codes " bytes"
