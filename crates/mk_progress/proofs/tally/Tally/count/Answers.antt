-- Answers to the goals of `tally::Tally::count` that the prover leaves.
use Rattle.std.proofs.Common.{◌∷◌, [], ◌++◌, sym, ap, ◌∙◌, take}
use Rattle.std.proofs.lemmas.List.{take_more}
use Rattle.mk_plan.specs.declared.Entry.{Entry}
use Rattle.mk_progress.specs.declared.tally.Tally.{Tally}
use Rattle.mk_progress.specs.Tallies.{tally_after}
use Rattle.mk_progress.proofs.Counting.{counted_on}
use Rattle.mk_progress.proofs.tally.Tally.count.Goals as goal

pub loop-entry-preserved : goal.loop-entry-preserved
loop-entry-preserved c = c.and-tally.ensures
    ∙ ap (λ (t : Tally). tally_after t (c.entry-item.result ∷ [])) c.loop-entry.invariant
    ∙ counted_on c.args.self.now (take c.loop-entry.entry-index c.args.fresh.now) (c.entry-item.result ∷ [])
    ∙ ap (tally_after c.args.self.now) (ap (λ (e : Entry). take c.loop-entry.entry-index c.args.fresh.now ++ e ∷ []) c.entry-item.is
    ∙ sym (take_more c.args.fresh.now c.loop-entry.entry-index c.entry-item.result c.loop-entry-test.true))
