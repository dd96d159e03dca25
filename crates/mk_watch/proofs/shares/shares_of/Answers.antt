-- Answers to the goals of `shares::shares_of` that the prover leaves.
use Rattle.std.proofs.Common.{◌∷◌, [], ◌++◌, List, subst, sym, ap, ◌∙◌, take, map}
use Rattle.std.proofs.lemmas.List.{take_more}
use Rattle.mk_plan.specs.declared.Entry.{Entry}
use Rattle.mk_watch.specs.inner.Shares.{AreShares}
use Rattle.mk_watch.proofs.shares.shares_of.Goals as goal

pub loop-entry-preserved : goal.loop-entry-preserved
loop-entry-preserved c = subst (λ (J : List Entry). AreShares c.args.count J (map (λ s. map (λ x. x.now) s.items) c.note.new.shares.items))
    (ap (λ (e : Entry). take c.loop-entry.entry-index c.args.entries.now ++ e ∷ []) c.entry-item.is ∙ sym (take_more c.args.entries.now c.loop-entry.entry-index c.entry-item.result c.loop-entry-test.true))
    (c.in_ok-note.ensures c.args.count (take c.loop-entry.entry-index c.args.entries.now) c.loop-entry.invariant)
