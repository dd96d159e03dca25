-- Answers to the goals of `first::next_step` that the prover leaves.
use Rattle.std.proofs.Common.{arith}
use Rattle.mk_record_compare.proofs.Left.{step_alone, message_next}
use Rattle.mk_record_compare.proofs.first.next_step.Goals as goal

pub returns-then-rest-eq0 : goal.returns-then-rest-eq0
returns-then-rest-eq0 c = λ A rest. step_alone c.args.before A c.args.steps.now _ c.in-len1-up.len_at_least (omega (arith, rest))

pub returns-else-rest-eq0 : goal.returns-else-rest-eq0
returns-else-rest-eq0 c = λ A rest. message_next c.args.before A c.args.steps.now _ c.in-len1-up.len_at_least c.if-asked-before.false (omega (arith, rest))
