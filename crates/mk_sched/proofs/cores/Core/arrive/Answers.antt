-- Answers to the goals of `cores::Core::arrive` that the prover leaves.
use Rattle.std.proofs.Common.{IfOk, ap, subst, ◌∙◌}
use Rattle.mk_plan.specs.declared.Message.{Message}
use Rattle.mk_sched.specs.Answers.{ArriveOf}
use Rattle.mk_sched.proofs.Standing.{stands_of}
use Rattle.mk_sched.proofs.cores.Core.arrive.Goals as goal
use Rattle.mk_plan.specs.Messages.{is_message_in_range}

pub returns-in-Some-Faulty-clause-stands : goal.returns-in-Some-Faulty-clause-stands
returns-in-Some-Faulty-clause-stands c = rw (← c.self.view_is) (stands_of _ _ _ _ c.self.invariant.0)

pub returns-in-Some-OutOfMemory-clause-stands : goal.returns-in-Some-OutOfMemory-clause-stands
returns-in-Some-OutOfMemory-clause-stands c = rw (← c.self.view_is) (stands_of _ _ _ _ c.self.invariant.0)

pub take-requires-clause-form : goal.take-requires-clause-form
take-requires-clause-form c = ap is_message_in_range c.in-Ok.ensures ∙ c.requires.form

pub returns-in-Ok-clause-ok : goal.returns-in-Ok-clause-ok
returns-in-Ok-clause-ok c = subst (λ (m : Message). IfOk c.take.result (λ taken. ArriveOf c.args.self.now c.args.sim m taken c.take.new.self)) c.in-Ok.ensures c.take.ensures.ok

pub returns-in-Err-clause-stands : goal.returns-in-Err-clause-stands
returns-in-Err-clause-stands c = stands_of _ _ _ _ c.self.invariant.0
