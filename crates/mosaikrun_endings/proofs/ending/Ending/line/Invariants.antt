-- The invariants and measures of the loops of `ending::Ending::line`.
use Rattle.std.proofs.Common.{◌≡◌, ◌++◌, take, map}
use Rattle.std.specs.Prelude.{codes}
use Rattle.mosaikrun_endings.specs.Endings.{unbroken}
use Rattle.mosaikrun_endings.proofs.ending.Ending.line.Given as goal

abbrev pub invariant-loop-byte : goal.invariant-loop-byte
invariant-loop-byte l = l.line.items ≡ codes "mosaikrun: " ++ map unbroken (take l.byte-index l.byte-items)
