-- Answers to the goals of `log::comes_at` that the prover leaves.
use Rattle.std.proofs.Common.{ap, ◌∙◌}
use Rattle.mk_plan.specs.Deliveries.{Timed}
use Rattle.mk_buffers_log.specs.inner.Logs.{does_come}
use Rattle.mk_buffers_log.proofs.Ascending.{get_or_any}
use Rattle.mk_buffers_log.proofs.log.comes_at.Goals as goal

pub returns : goal.returns
returns c = λ d. c.is_delivered.ensures ∙ ap (does_come c.args.via c.args.until c.args.mark) (c.at.ensures.same ∙ ap (λ (t : Timed). t.at) (c.index.ensures ∙ get_or_any c.args.entries.now.items c.args.place c.index.result.now d c.requires))
