-- Answers to the goals of `migrating::message_count` that the prover leaves.
use Rattle.std.proofs.Common.{List, length, ap, ◌∙◌, arith}
use Rattle.std.proofs.lemmas.List.{take_all}
use Rattle.mk_plan.specs.declared.Entry.{Entry}
use Rattle.mk_plan.specs.Journals.{arrivals}
use Rattle.mosaikrun_records.proofs.Keeping.{count_push, one_at_most}
use Rattle.mosaikrun_records.proofs.migrating.message_count.Goals as goal

pub loop-entry-preserved : goal.loop-entry-preserved
loop-entry-preserved c = record {
  count = count_push c.args.entries.now c.loop-entry.entry-index c.entry-item.result c.loop-entry.count c.messages_in-count.result c.loop-entry-test.true c.entry-item.is c.loop-entry.invariant.count c.messages_in-count.ensures;
  small = let one = one_at_most c.entry-item.result c.messages_in-count.result c.messages_in-count.ensures in omega (arith, one);
}

pub returns : goal.returns
returns c = c.loop-entry.invariant.count ∙ ap (λ (l : List Entry). length (arrivals l)) (take_all c.loop-entry.entry-index c.args.entries.now c.loop-entry-test.false)
