-- Answers to the goals of `beginning::queue_call` that the prover leaves.
use Rattle.std.proofs.Common.{◌+◌, Err, ap, refl, subst, ◌∙◌}
use Rattle.mk_run_laws.specs.Payloads.{IsFramed}
use Rattle.mk_run_crew.proofs.Asked.{call_queued, call_unqueued}
use Rattle.mk_run_crew.proofs.beginning.queue_call.Goals as goal

pub returns-in-Ok-clause-ok : goal.returns-in-Ok-clause-ok
returns-in-Ok-clause-ok c = call_queued c.args.sim.0 c.args.call.now c.args.id (c.args.id + 1) c.deref.result.now _ _ (c.deref.ensures.value ∙ c.in_ok-payload.ensures) refl c.in-Ok.ensures.ok

pub returns-in-Ok-clause-framed : goal.returns-in-Ok-clause-framed
returns-in-Ok-clause-framed c = subst IsFramed (c.deref.ensures.value ∙ c.in_ok-payload.ensures) c.in-Ok.ensures.allowed

pub returns-clause-why : goal.returns-clause-why
returns-clause-why c =
    rw c.unsent.ensures
    (call_unqueued c.args.sim c.in-Err.fault c.args.call.now c.args.id c.deref.result.now (c.deref.ensures.value ∙ c.in_ok-payload.ensures) (λ n e. c.in-Err.ensures.too_long n (ap Err e)) (λ n e. c.in-Err.ensures.too_long_only n (ap Err e)))
