-- Answers to the goals of `asking::finish` that the prover leaves.
use Rattle.std.proofs.Common.{None, refl}
use Rattle.mk_setup.specs.Kept.{state_of}
use Rattle.mk_setup.proofs.Asked.{hindered, last_test, plan_hinders, ready}
use Rattle.mk_setup.proofs.asking.finish.Goals as goal

pub returns-in-Ok-clause-ok : goal.returns-in-Ok-clause-ok
returns-in-Ok-clause-ok c = ready (state_of c.args.progress.now None) (state_of c.take_plan.new.progress None) c.in-Ok.plan refl c.requires.resting c.requires.stage c.in-Ok.ensures.ok c.take_plan.ensures.same

pub returns-in-Err-clause-hindered : goal.returns-in-Err-clause-hindered
returns-in-Err-clause-hindered c = hindered (state_of c.args.progress.now None) (state_of c.take_plan.new.progress None) c.in-Err.fault c.connect_fault.result refl c.requires.resting c.take_plan.ensures.same (plan_hinders (state_of c.args.progress.now None) c.in-Err.fault (last_test (state_of c.args.progress.now None) c.requires.stage) c.in-Err.ensures.refused) c.connect_fault.ensures
