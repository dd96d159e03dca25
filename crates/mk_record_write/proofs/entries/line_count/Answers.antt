-- proofs/entries/line_count/Answers.antt
use Rattle.std.proofs.Common.{List, length, ap, ◌∙◌, arith}
use Rattle.std.proofs.lemmas.List.{take_all}
use Rattle.mk_plan.specs.declared.Entry.{Entry}
use Rattle.mk_record_read.specs.Entries.{entries_of}
use Rattle.mk_record_write.proofs.EntryLines.{count_push, one_at_most}
use Rattle.mk_record_write.proofs.entries.line_count.Goals as goal

pub loop-entry-preserved : goal.loop-entry-preserved
loop-entry-preserved c = record {
  count = count_push c.args.entries.now c.loop-entry.entry-index c.entry-item.result c.loop-entry.count c.lines_in-count.result c.loop-entry-test.true c.entry-item.is c.loop-entry.invariant.count c.lines_in-count.ensures;
  small = let one = one_at_most c.entry-item.result c.lines_in-count.result c.lines_in-count.ensures in omega (arith, one);
}

pub returns : goal.returns
returns c = c.loop-entry.invariant.count ∙ ap (λ (l : List Entry). length (entries_of l)) (take_all c.loop-entry.entry-index c.args.entries.now c.loop-entry-test.false)
