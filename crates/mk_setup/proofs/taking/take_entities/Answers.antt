-- Answers to the goals of `taking::take_entities` that the prover leaves.
use Rattle.std.proofs.Common.{◌∙◌, None, ap, sym, subst}
use Rattle.mk_setup.specs.declared.progress.Progress.{Progress}
use Rattle.mk_setup.specs.Kept.{state_of}
use Rattle.mk_setup.specs.inner.Standing.{IsSoundSetup}
use Rattle.mk_scenario.specs.declared.parts.Group.{Group}
use Rattle.mk_setup.proofs.Stepping.{created_stands, to_create}
use Rattle.mk_base.proofs.Lists.{some_same}
use Rattle.mk_setup.proofs.taking.take_entities.Goals as goal

pub note_reply-requires-clause-next : goal.note_reply-requires-clause-next
note_reply-requires-clause-next c = to_create c.args.progress.now.scenario c.args.progress.now.answered c.args.group c.args.sim.0 c.requires.stage c.requires.there

pub returns-in-Ok-clause-kept : goal.returns-in-Ok-clause-kept
returns-in-Ok-clause-kept c =
    subst (λ (q : Progress). IsSoundSetup (state_of q None) q.ids q.plan) (sym c.note_reply.ensures.moved)
    (created_stands (state_of c.args.progress.now None) c.args.progress.now.ids c.note_reply.new.progress.ids c.args.progress.now.plan c.args.sim c.args.group c.at-part.result.now c.at-meta.result.now c.args.content.now c.add.new.self c.requires.kept c.requires.asked c.requires.stage
    c.at-part.ensures (ap (λ (g : Group). g.sim.0) (some_same (sym c.at-part.ensures ∙ c.requires.there.1)) ∙ c.requires.there.2) c.at-meta.ensures c.in-Ok.ensures.ok c.note_reply.ensures.counted)
