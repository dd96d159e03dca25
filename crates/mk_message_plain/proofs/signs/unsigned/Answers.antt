-- Answers to the goals of `signs::unsigned` that the prover leaves.
use Rattle.std.proofs.Common.{◌++◌, decimal, ap, ◌∙◌}
use Rattle.mk_message_plain.proofs.Bytes.{if_some, one_digit}
use Rattle.mk_message_plain.proofs.signs.unsigned.Goals as goal

pub returns-then-first-eq0-clause-text : goal.returns-then-first-eq0-clause-text
returns-then-first-eq0-clause-text c =
    one_digit c.in_ok-first.first c.args.text.now c.in_ok-first.rest.now c.in_ok-first.ensures.below c.in_ok-first.ensures.text ∙ ap (λ n. decimal n ++ c.in_ok-first.rest.now) c.if-first-eq0.true

pub returns-clause-text : goal.returns-clause-text
returns-clause-text c =
    let first = one_digit c.in_ok-first.first c.args.text.now c.in_ok-first.rest.now c.in_ok-first.ensures.below c.in_ok-first.ensures.text in
    if_some c.more_digits.result (λ p is. first ∙ is) c.more_digits.ensures.text
