-- What is said of a simulator that can't be begun.
use Rattle.std.specs.Prelude.{ℕ, List, ◌++◌, codes}
use Rattle.std.specs.Fmt.{decimal}
use Rattle.mk_launch.specs.declared.faults.LaunchFault.{LaunchFault}
use Rattle.mk_launch.specs.declared.faults.LaunchFault.TheVariants.{Empty, BadQuote, BadPlace, NoKind, Mem}

-- by its id, and why
abbrev pub text_of_launch : List ℕ → LaunchFault → List ℕ
text_of_launch sim Empty = codes "launch 1: " ++ sim ++ codes " empty command"
text_of_launch sim (BadQuote i) = codes "launch 2: " ++ sim ++ codes " bad quote at " ++ decimal i
text_of_launch sim (BadPlace i) = codes "launch 3: " ++ sim ++ codes " bad percent at " ++ decimal i
text_of_launch sim NoKind = codes "launch 4: " ++ sim ++ codes " unknown kind"
text_of_launch sim Mem = codes "out of memory"
