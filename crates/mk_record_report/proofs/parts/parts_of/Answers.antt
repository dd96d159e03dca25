-- Answers to the goals of `parts::parts_of` that the prover leaves.
use Rattle.std.proofs.Common.{◌∷◌, [], ◌++◌, List, subst, sym, ap, ◌∙◌, take, length-take-le, arith, rules}
use Rattle.std.proofs.lemmas.List.{take_more}
use Rattle.mk_plan.specs.declared.Entry.{Entry}
use Rattle.mk_record_report.specs.inner.Parts.{AreParts}
use Rattle.mk_record_report.proofs.Parting.{steps_within}
use Rattle.mk_record_report.proofs.parts.parts_of.Goals as goal

pub note-requires : goal.note-requires
note-requires c = steps_within c.args.count c.loop-entry.entry-index (take c.loop-entry.entry-index c.args.entries.now) c.loop-entry.parts.items c.loop-entry.invariant (let same = length-take-le c.loop-entry.entry-index c.args.entries.now c.loop-entry.auto.entry-index-end in omega (arith, same)) (search (rules, arith))

pub loop-entry-preserved : goal.loop-entry-preserved
loop-entry-preserved c = subst (λ (J : List Entry). AreParts c.args.count J c.note.new.parts.items)
    (ap (λ (e : Entry). take c.loop-entry.entry-index c.args.entries.now ++ e ∷ []) c.entry-item.is ∙ sym (take_more c.args.entries.now c.loop-entry.entry-index c.entry-item.result c.loop-entry-test.true))
    (c.in_ok-note.ensures c.args.count (take c.loop-entry.entry-index c.args.entries.now) c.loop-entry.invariant)
