-- Answers to the goals of `summary::last_step` that the prover leaves.
use Rattle.std.proofs.Common.{◌∷◌, [], ◌++◌, List, sym, ap, ◌∙◌, take}
use Rattle.std.proofs.lemmas.List.{take_more}
use Rattle.mk_plan.specs.declared.Entry.{Entry}
use Rattle.mk_plan.specs.Journals.{sent}
use Rattle.mk_plan.specs.Report.{steps_in}
use Rattle.mk_base.specs.Lists.{last_of}
use Rattle.mk_record_report.proofs.Lasts.{last_more}
use Rattle.mk_record_report.proofs.summary.last_step.Goals as goal

pub loop-entry-preserved : goal.loop-entry-preserved
loop-entry-preserved c = c.later-last.ensures ∙ last_more (take c.loop-entry.entry-index c.args.entries.now) c.entry-item.result c.args.sim _ _ c.loop-entry.invariant c.step_to.ensures
    ∙ ap (λ (J : List Entry). last_of (steps_in (sent J c.args.sim))) (ap (λ (e : Entry). take c.loop-entry.entry-index c.args.entries.now ++ e ∷ []) c.entry-item.is ∙ sym (take_more c.args.entries.now c.loop-entry.entry-index c.entry-item.result c.loop-entry-test.true))
