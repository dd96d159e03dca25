-- The invariants and measures of the loops of `parts::empty_parts`.
use Rattle.std.proofs.Common.{[]}
use Rattle.mk_record_report.specs.inner.Parts.{AreParts}
use Rattle.mk_record_report.proofs.parts.empty_parts.Given as goal

abbrev pub invariant-loop : goal.invariant-loop
invariant-loop l = AreParts l.counter [] l.parts.items
