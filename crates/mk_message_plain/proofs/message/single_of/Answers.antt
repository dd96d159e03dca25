-- Answers to the goals of `message::single_of` that the prover leaves.
use Rattle.std.proofs.Common.{ℤ, sym, ap, ◌∙◌, subst}
use Rattle.mk_base.specs.declared.json.Json as tree
use Rattle.mk_base.specs.Texts.{text_of}
use Rattle.mk_message_plain.specs.inner.Members.{IsContent}
use Rattle.mk_message_plain.proofs.Members.{whole_content, whole_same}
use Rattle.mk_message_plain.proofs.Messages.{null_content, null_text, number_text}
use Rattle.mk_message_plain.proofs.message.single_of.Goals as goal

pub returns-then-is_text-clause-text : goal.returns-then-is_text-clause-text
returns-then-is_text-clause-text c = null_text c.args.text.now (sym c.if-is_text.ensures)

pub returns-then-is_text-clause-content : goal.returns-then-is_text-clause-content
returns-then-is_text-clause-content c = null_content 2

pub returns-in-empty-clause-text : goal.returns-in-empty-clause-text
returns-in-empty-clause-text c =
    let n = c.in_ok-number in
    number_text c.args.text.now n.rest.now n.number n.ensures.text c.in-empty.len_below ∙ ap (λ (z : ℤ). text_of (tree.Whole z)) (sym (whole_same n.number n.ensures.in_range))

pub returns-in-empty-clause-content : goal.returns-in-empty-clause-content
returns-in-empty-clause-content c =
    let n = c.in_ok-number in
    subst (λ (z : ℤ). IsContent 2 (tree.Whole z)) (sym (whole_same n.number n.ensures.in_range)) (whole_content 2 n.number n.ensures.in_range)
