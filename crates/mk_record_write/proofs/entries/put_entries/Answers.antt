-- proofs/entries/put_entries/Answers.antt
use Rattle.std.proofs.Common.{◌+◌, ◌++◌, drop, flat_map, List, ◌∙◌, ap}
use Rattle.std.proofs.lemmas.List.{take_all}
use Rattle.mk_plan.specs.declared.Entry.{Entry}
use Rattle.mk_json.proofs.OfOutlines.{left_is, next_passes}
use Rattle.mk_record_write.specs.Writable.{is_writable}
use Rattle.mk_record_write.specs.inner.Writable.{line_in}
use Rattle.mk_record_write.proofs.EntryLines.{lines_are, line_push}
use Rattle.mk_record_write.proofs.entries.put_entries.Goals as goal

pub put_entry-requires : goal.put_entry-requires
put_entry-requires c = (next_passes is_writable (drop c.loop-entry.entry-index c.args.entries.now) (drop (c.loop-entry.entry-index + 1) c.args.entries.now) c.entry-item.result
    (left_is c.args.entries.now c.loop-entry.entry-index c.entry-item.result c.loop-entry-test.true c.entry-item.is) c.loop-entry.invariant.writable).0

pub loop-entry-preserved : goal.loop-entry-preserved
loop-entry-preserved c = record {
  text = line_push c.args.entries.now c.loop-entry.entry-index c.entry-item.result c.args.out.now.items c.loop-entry.out.items c.put_entry.new.out.items c.loop-entry-test.true c.entry-item.is c.loop-entry.invariant.text c.in_ok-put_entry.ensures;
  writable = (next_passes is_writable (drop c.loop-entry.entry-index c.args.entries.now) (drop (c.loop-entry.entry-index + 1) c.args.entries.now) c.entry-item.result
      (left_is c.args.entries.now c.loop-entry.entry-index c.entry-item.result c.loop-entry-test.true c.entry-item.is) c.loop-entry.invariant.writable).1;
}

pub returns : goal.returns
returns c = c.loop-entry.invariant.text ∙ ap (λ (l : List Entry). c.args.out.now.items ++ flat_map line_in l) (take_all c.loop-entry.entry-index c.args.entries.now c.loop-entry-test.false) ∙ ap (λ l. c.args.out.now.items ++ l) (lines_are c.args.entries.now)
