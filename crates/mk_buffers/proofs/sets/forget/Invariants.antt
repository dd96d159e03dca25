-- The invariants and measures of the loops of `sets::forget`.
use Rattle.std.proofs.Common.{length}
use Rattle.mk_buffers.specs.Slots.{SameLast}
use Rattle.mk_buffers.proofs.sets.forget.Given as goal

abbrev pub invariant-loop-values : goal.invariant-loop-values
invariant-loop-values l = SameLast l.mark l.values.items l.fn.values.items

abbrev pub decreases-loop-values : goal.decreases-loop-values
decreases-loop-values l = length l.values.items
