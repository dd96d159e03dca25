-- The invariants and measures of the loops of `lines::numbers_of`.
use Rattle.std.proofs.Common.{◌≡◌, take, map}
use Rattle.std.specs.Prelude.{nat_abs}
use Rattle.mk_record_read.proofs.lines.numbers_of.Given as goal

abbrev pub invariant-loop-place : goal.invariant-loop-place
invariant-loop-place l = l.numbers ≡ map nat_abs (take l.place-index l.places)
