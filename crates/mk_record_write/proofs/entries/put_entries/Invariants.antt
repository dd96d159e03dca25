-- proofs/entries/put_entries/Invariants.antt
use Rattle.std.proofs.Common.{◌≡◌, ◌++◌, true, flat_map, take, drop}
use Rattle.std.specs.List.{list_all}
use Rattle.mk_record_write.specs.Writable.{is_writable}
use Rattle.mk_record_write.specs.inner.Writable.{line_in}
use Rattle.mk_record_write.proofs.entries.put_entries.Given as goal

abbrev pub invariant-loop-entry : goal.invariant-loop-entry
invariant-loop-entry l = record {
  text : l.out.items ≡ l.fn.out.items ++ flat_map line_in (take l.entry-index l.entries);
  writable : list_all is_writable (drop l.entry-index l.entries) ≡ true;
}
