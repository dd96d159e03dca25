-- Answers to the goals of `related::related_of_each` that the prover leaves.
use Rattle.std.proofs.Common.{ap, ◌∙◌}
use Rattle.mk_base.specs.declared.json.Json as tree
use Rattle.mk_async.specs.Forms.{is_value}
use Rattle.mk_async.specs.inner.Known.{Members}
use Rattle.mk_async.proofs.Relating.{each_value}
use Rattle.mk_async.proofs.related.related_of_each.Goals as goal

pub datum_of-requires : goal.datum_of-requires
datum_of-requires c = ap (λ (ms : Members). is_value (tree.Object ms)) c.in_ok-members_of_each.ensures ∙ each_value c.args.plan.now c.args.ids.now
