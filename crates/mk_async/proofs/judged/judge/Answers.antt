-- Answers to the goals of `judged::judge` that the prover leaves.
use Rattle.mk_async.specs.Asked.{refusal_by}
use Rattle.mk_async.proofs.Judging.{judged_so, passed_known, passed_permitted, read_there}
use Rattle.mk_async.proofs.judged.judge.Goals as goal

pub returns-in-Some-clause-refusal : goal.returns-in-Some-clause-refusal
returns-in-Some-clause-refusal c = λ look. judged_so c.args.plan.now look c.args.sim.0 c.args.name.now c.args.args.now c.args.named.now c.is_function.result c.request_of.result c.in-Some.asked (refusal_by c.test.result) c.if-not-is_function.false c.is_function.ensures c.request_of.ensures.request c.in-Some.is c.test.ensures.refusal

pub returns-in-Some-clause-known : goal.returns-in-Some-clause-known
returns-in-Some-clause-known c = passed_known c.args.plan.now c.args.sim.0 c.test.result c.in-Some.asked (read_there c.args.name.now c.args.args.now c.args.named.now c.request_of.result c.in-Some.asked c.request_of.ensures.request c.in-Some.is) c.test.ensures.request c.test.ensures.known

pub returns-in-Some-clause-permitted : goal.returns-in-Some-clause-permitted
returns-in-Some-clause-permitted c = passed_permitted c.args.plan.now c.args.sim.0 c.test.result c.in-Some.asked (read_there c.args.name.now c.args.args.now c.args.named.now c.request_of.result c.in-Some.asked c.request_of.ensures.request c.in-Some.is) c.test.ensures.request c.test.ensures.permitted
