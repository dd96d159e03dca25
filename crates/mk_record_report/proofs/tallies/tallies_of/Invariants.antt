-- The invariants and measures of the loops of `tallies::tallies_of`.
use Rattle.std.proofs.Common.{take, ◌≤◌, ◌*◌, ◌-◌, ◌^◌}
use Rattle.mk_record_report.specs.inner.Summary.{AreTallies, all_values}
use Rattle.mk_record_report.proofs.tallies.tallies_of.Given as goal

abbrev pub invariant-loop-entry : goal.invariant-loop-entry
invariant-loop-entry l = record {
  each : AreTallies l.count (take l.entry-index l.entries) l.tallies.items;
  small : all_values l.tallies.items ≤ l.entry-index * (2 ^ 64 - 1);
}
