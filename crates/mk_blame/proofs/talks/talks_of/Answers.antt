-- Answers to the goals of `talks::talks_of` that the prover leaves.
use Rattle.std.proofs.Common.{◌∷◌, [], ◌++◌, List, subst, sym, ap, ◌∙◌, take, map}
use Rattle.std.proofs.lemmas.List.{take_more}
use Rattle.mk_plan.specs.declared.Entry.{Entry}
use Rattle.mk_blame.specs.inner.Parted.{AreTalks}
use Rattle.mk_blame.proofs.talks.talks_of.Goals as goal

pub loop-entry-preserved : goal.loop-entry-preserved
loop-entry-preserved c = subst (λ (J : List Entry). AreTalks c.args.count J (map (λ t. map (λ e. e.now) t.items) c.note.new.talks.items))
    (ap (λ (e : Entry). take c.loop-entry.entry-index c.args.entries.now ++ e ∷ []) c.entry-item.is ∙ sym (take_more c.args.entries.now c.loop-entry.entry-index c.entry-item.result c.loop-entry-test.true))
    (c.in_ok-note.ensures c.args.count (take c.loop-entry.entry-index c.args.entries.now) c.loop-entry.invariant)
