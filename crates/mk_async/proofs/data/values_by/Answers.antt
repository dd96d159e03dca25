-- Answers to the goals of `data::values_by` that the prover leaves.
use Rattle.mk_base.specs.declared.json.Json.{Json}
use Rattle.mk_base.specs.Trees.{text_in}
use Rattle.mk_plan.specs.Asks.{gives_attr}
use Rattle.mk_async.specs.Forms.{is_such}
use Rattle.std.proofs.Common.{ap, ◌∙◌}
use Rattle.mk_async.specs.inner.Known.{gives_each}
use Rattle.mk_async.proofs.data.values_by.Goals as goal
use Rattle.mk_base.proofs.Items.{passes_at}

pub put_attr-requires-clause-given : goal.put_attr-requires-clause-given
put_attr-requires-clause-given c = passes_at (λ (t : Json). is_such (gives_attr c.args.plan.now c.args.entity) (text_in t)) c.as_slice-attr-items.result.now c.loop-attr.attr-index c.attr-item.result (ap (gives_each c.args.plan.now c.args.entity) c.as_slice-attr-items.ensures ∙ c.requires.given) c.loop-attr-test.true c.attr-item.is
