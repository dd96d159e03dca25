-- The invariants and measures of the loops of `read::read_lines`.
use Rattle.std.proofs.Common.{length}
use Rattle.mk_record_read.proofs.Sound.{Reads}
use Rattle.mk_record_read.proofs.read.read_lines.Given as goal

abbrev pub invariant-loop-line : goal.invariant-loop-line
invariant-loop-line l = Reads l.fn.bytes l.rest l.number l.progress

abbrev pub decreases-loop-line : goal.decreases-loop-line
decreases-loop-line l = length l.rest
