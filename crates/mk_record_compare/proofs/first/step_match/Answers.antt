-- Answers to the goals of `first::step_match` that the prover leaves.
use Rattle.std.proofs.Common.{arith}
use Rattle.mk_record_compare.proofs.Matching.{step_other, step_behind, step_for_message}
use Rattle.mk_record_compare.proofs.first.step_match.Goals as goal

pub returns-else-is_step : goal.returns-else-is_step
returns-else-is_step c = λ A rest ins. step_other c.args.before A c.args.steps.now c.args.sim c.args.at.now ins c.args.max_advance.now c.in-Some.asked.now (c.in-Some.ensures A rest) c.if-is_step.ensures

pub returns-then-rest-eq0 : goal.returns-then-rest-eq0
returns-then-rest-eq0 c = λ A rest ins. step_behind c.args.before A c.args.steps.now c.args.sim c.args.at.now ins c.args.max_advance.now (c.in-None.ensures A rest) (omega (arith, rest))

pub returns-else-rest-eq0 : goal.returns-else-rest-eq0
returns-else-rest-eq0 c = λ A rest ins. step_for_message c.args.before A c.args.steps.now c.args.sim c.args.at.now ins c.args.max_advance.now (c.in-None.ensures A rest) (omega (arith, rest))
