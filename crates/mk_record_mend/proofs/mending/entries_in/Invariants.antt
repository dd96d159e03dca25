-- The invariants and measures of the loops of `mending::entries_in`.
use Rattle.std.proofs.Common.{length}
use Rattle.mk_record_mend.proofs.Ends.{Counts}
use Rattle.mk_record_mend.proofs.mending.entries_in.Given as goal

abbrev pub invariant-loop-end : goal.invariant-loop-end
invariant-loop-end l = Counts l.lines l.rest l.count

abbrev pub decreases-loop-end : goal.decreases-loop-end
decreases-loop-end l = length l.rest
