-- Answers to the goals of `tallies::tallies_of` that the prover leaves.
use Rattle.std.proofs.Common.{◌∷◌, [], ◌++◌, List, subst, sym, ap, ◌∙◌, take, length-take-le, arith, rules}
use Rattle.std.proofs.lemmas.List.{take_more}
use Rattle.mk_plan.specs.declared.Entry.{Entry}
use Rattle.mk_record_report.specs.inner.Summary.{AreTallies}
use Rattle.mk_record_report.proofs.Tallying.{tallied_within}
use Rattle.mk_record_report.proofs.tallies.tallies_of.Goals as goal

pub note-requires-clause-steps : goal.note-requires-clause-steps
note-requires-clause-steps c = tallied_within c.args.count c.loop-entry.entry-index (take c.loop-entry.entry-index c.args.entries.now) c.loop-entry.tallies.items c.loop-entry.invariant.each (let same = length-take-le c.loop-entry.entry-index c.args.entries.now c.loop-entry.auto.entry-index-end in omega (arith, same)) (search (rules, arith))

pub loop-entry-preserved : goal.loop-entry-preserved
loop-entry-preserved c = record {
  each = subst (λ (J : List Entry). AreTallies c.args.count J c.note.new.tallies.items)
      (ap (λ (e : Entry). take c.loop-entry.entry-index c.args.entries.now ++ e ∷ []) c.entry-item.is ∙ sym (take_more c.args.entries.now c.loop-entry.entry-index c.entry-item.result c.loop-entry-test.true))
      (c.note.ensures.each c.args.count (take c.loop-entry.entry-index c.args.entries.now) c.loop-entry.invariant.each);
  small = omega (arith, c.note.ensures.within, c.loop-entry.invariant.small);
}
