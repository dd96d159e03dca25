-- proofs/entries/line_count/Invariants.antt
use Rattle.std.proofs.Common.{◌≡◌, ◌≤◌, length, take}
use Rattle.mk_record_read.specs.Entries.{entries_of}
use Rattle.mk_record_write.proofs.entries.line_count.Given as goal

abbrev pub invariant-loop-entry : goal.invariant-loop-entry
invariant-loop-entry l = record {
  count : l.count ≡ length (entries_of (take l.entry-index l.entries));
  small : l.count ≤ l.entry-index;
}
