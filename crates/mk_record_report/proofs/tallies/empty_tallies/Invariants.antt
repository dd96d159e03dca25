-- The invariants and measures of the loops of `tallies::empty_tallies`.
use Rattle.std.proofs.Common.{◌≡◌, []}
use Rattle.mk_record_report.specs.inner.Summary.{AreTallies, all_values}
use Rattle.mk_record_report.proofs.tallies.empty_tallies.Given as goal

abbrev pub invariant-loop : goal.invariant-loop
invariant-loop l = record {
  each : AreTallies l.counter [] l.tallies.items;
  none : all_values l.tallies.items ≡ 0;
}
