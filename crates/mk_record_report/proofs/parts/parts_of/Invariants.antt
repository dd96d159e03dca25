-- The invariants and measures of the loops of `parts::parts_of`.
use Rattle.std.proofs.Common.{take}
use Rattle.mk_record_report.specs.inner.Parts.{AreParts}
use Rattle.mk_record_report.proofs.parts.parts_of.Given as goal

abbrev pub invariant-loop-entry : goal.invariant-loop-entry
invariant-loop-entry l = AreParts l.count (take l.entry-index l.entries) l.parts.items
