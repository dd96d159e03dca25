-- Answers to the goals of `steps::stepped` that the prover leaves.
use Rattle.std.proofs.Common.{ap, ◌∙◌}
use Rattle.mk_local.specs.declared.turn.Turn.{Turn}
use Rattle.mk_local.specs.Steps.{after_step}
use Rattle.mk_local.proofs.Stepping.{replied}
use Rattle.mk_local.proofs.steps.stepped.Goals as goal

pub returns-clause-content : goal.returns-clause-content
returns-clause-content g c = replied c.in-Some.kind.now.turn c.args.turn c.args.pace.now.step c.args.pace.now.time c.args.entities.now c.args.inputs.now c.in_ok-turned.turned.least c.step_content-content.result c.in-Some.ensures.same c.in_ok-turned.ensures.least c.step_content-content.ensures

pub returns-clause-after : goal.returns-clause-after
returns-clause-after g c = c.in_ok-turned.ensures.entities ∙ ap (λ (k : Turn). (after_step (record { kind = k; step = c.args.pace.now.step; entities = c.args.entities.now }) c.args.pace.now.time c.args.inputs.now).entities) c.in-Some.ensures.same
