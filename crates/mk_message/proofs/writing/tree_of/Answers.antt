-- Answers to the goals of `writing::tree_of` that the prover leaves.
use Rattle.std.proofs.Common.{sym, ap, ◌∙◌}
use Rattle.std.proofs.lemmas.Result.{IfOk-weaker}
use Rattle.mk_json.proofs.Layers.{folded-Text}
use Rattle.mk_message.proofs.ReadBack.{range-request}
use Rattle.mk_message.proofs.writing.tree_of.Goals as goal
use Rattle.mk_plan.specs.Messages.{is_message_in_range}

pub returns-in_ok-content-in-Ask-clause-in_range : goal.returns-in_ok-content-in-Ask-clause-in_range
returns-in_ok-content-in-Ask-clause-in_range c =
    IfOk-weaker c.framed.result _ _ (λ t h r. h (range-request c.in_ok-content-in-Ask.content c.in-Ask.named c.in-Ask.name c.in-Ask.args c.in_ok-content-in-Ask.ensures (sym (ap is_message_in_range c.in-Ask.is) ∙ r))) c.framed.ensures.in_range

pub returns-in_ok-copy-in-Failure-clause-in_range : goal.returns-in_ok-copy-in-Failure-clause-in_range
returns-in_ok-copy-in-Failure-clause-in_range c = IfOk-weaker c.framed-in-Failure.result _ _ (λ t h r. h (folded-Text _ _ c.in_ok-copy-in-Failure.field-0)) c.framed-in-Failure.ensures.in_range
