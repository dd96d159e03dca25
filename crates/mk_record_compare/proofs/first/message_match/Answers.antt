-- Answers to the goals of `first::message_match` that the prover leaves.
use Rattle.std.proofs.Common.{refl, arith}
use Rattle.mk_record_compare.proofs.Matching.{message_for_step, message_behind, message_same, message_other}
use Rattle.mk_record_compare.proofs.first.message_match.Goals as goal

pub returns-in-Some : goal.returns-in-Some
returns-in-Some c = λ A rest named. message_for_step c.args.before A c.args.steps.now c.args.sim c.args.message.now c.in-Some.field-0.now (c.in-Some.ensures A rest)

pub returns-then-rest-eq0 : goal.returns-then-rest-eq0
returns-then-rest-eq0 c = λ A rest named. message_behind c.args.before A c.args.steps.now c.args.sim c.args.message.now (c.in-None.ensures A rest) (omega (arith, rest))

pub returns-then-is_next : goal.returns-then-is_next
returns-then-is_next c = λ A rest named. message_same c.args.before A c.args.steps.now c.args.sim c.args.message.now (c.in-None.ensures A rest) (omega (arith, rest))
    (λ a more is. c.if-is_next.ensures a (named c.args.sim c.args.message.now a more refl is))

pub returns-else-is_next : goal.returns-else-is_next
returns-else-is_next c = λ A rest named. message_other c.args.before A c.args.steps.now c.args.sim c.args.message.now (c.in-None.ensures A rest) (omega (arith, rest))
    (λ a more is. c.if-is_next.ensures a (named c.args.sim c.args.message.now a more refl is))
