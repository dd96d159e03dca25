-- Answers to the goals of `entities::attribute` that the prover leaves.
use Rattle.std.proofs.Common.{ℤ, sym, subst}
use Rattle.mk_base.specs.declared.json.Json as tree
use Rattle.mk_message_plain.specs.inner.Members.{Begins}
use Rattle.mk_message_plain.proofs.Members.{attribute_begins, whole_same}
use Rattle.mk_message_plain.proofs.entities.attribute.Goals as goal

pub returns : goal.returns
returns c =
    let v = c.in_ok-value in
    let begins = attribute_begins c.args.last.now c.args.text.now c.in_ok-name.name.now c.in_ok-name.digits.now v.sign.now c.in_ok-more.rest.now v.value c.in_ok-more.more c.in_ok-name.ensures.text v.ensures.text c.in_ok-more.ensures
    c.in_ok-name.ensures.above c.in_ok-name.ensures.utf8 v.ensures.in_range in
    subst (λ (z : ℤ). Begins 0 c.args.last.now c.args.text.now c.in_ok-name.name.now (tree.Whole z) c.in_ok-more.more c.in_ok-more.rest.now) (sym (whole_same v.value v.ensures.in_range)) begins
