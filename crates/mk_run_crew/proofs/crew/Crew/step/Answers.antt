-- Answers to the goals of `crew::Crew::step` that the prover leaves.
use Rattle.std.proofs.Common.{inl, inr, refl, sym, subst, ◌∙◌, true≢false}
use Rattle.mk_setup.specs.declared.answers.SetupNext.{SetupNext}
use Rattle.mk_setup.specs.Answers.{IsAwaitingReply, NextOf}
use Rattle.mk_run_crew.proofs.Looping.{next_replied}
use Rattle.mk_run_crew.proofs.Unlinked.{within_halt}
use Rattle.mk_run_crew.proofs.crew.Crew.step.Goals as goal

pub make_request_within-requires-clause-replied : goal.make_request_within-requires-clause-replied
make_request_within-requires-clause-replied g c =
    next_replied c.args.setup.now c.next.new.self c.in-Ok-Request.sim c.in-Ok-Request.call c.in-Ok-Request.id (subst (λ (n : SetupNext). NextOf c.args.setup.now n c.next.new.self) c.in-Ok-Request.field-0-is c.in-Ok-Request.ensures.ok)

pub returns-in-Ok-clause-ok : goal.returns-in-Ok-clause-ok
returns-in-Ok-clause-ok g c = record {
  sim = c.in-Ok-Request.sim;
  call = c.in-Ok-Request.call;
  id = c.in-Ok-Request.id;
  state = c.next.new.self;
  requested = subst (λ (n : SetupNext). NextOf c.args.setup.now n c.next.new.self) c.in-Ok-Request.field-0-is c.in-Ok-Request.ensures.ok;
  answers = c.in-Ok.ensures.ok;
}

pub returns-in-Ok-Request-clause-err : goal.returns-in-Ok-Request-clause-err
returns-in-Ok-Request-clause-err g c = inl (record {
  sim = c.in-Ok-Request.sim;
  call = c.in-Ok-Request.call;
  id = c.in-Ok-Request.id;
  state = c.next.new.self;
  requested = subst (λ (n : SetupNext). NextOf c.args.setup.now n c.next.new.self) c.in-Ok-Request.field-0-is c.in-Ok-Request.ensures.ok;
  failed = c.in-Err-make_request_within.ensures.err;
})

pub unreachable-requires : goal.unreachable-requires
unreachable-requires g c =
    let w : IsAwaitingReply c.args.setup.now c.next.new.self = subst (λ (n : SetupNext). NextOf c.args.setup.now n c.next.new.self) c.in-Ok-Wait.field-0-is c.in-Ok-Wait.ensures.ok in
    true≢false (sym w.asked ∙ c.requires)

pub returns-in-Ok-Ready-clause-ok : goal.returns-in-Ok-Ready-clause-ok
returns-in-Ok-Ready-clause-ok g c = (refl, subst (λ (n : SetupNext). NextOf c.args.setup.now n c.next.new.self) c.in-Ok-Ready.field-0-is c.in-Ok-Ready.ensures.ok)

pub returns-clause-err : goal.returns-clause-err
returns-clause-err g c = inr (record { fault = c.in-Err.fault; is = c.setup_halt.ensures; same = refl; state = c.next.new.self; unready = c.in-Err.ensures.refused })

pub returns-clause-cause : goal.returns-clause-cause
returns-clause-cause g c = rw c.setup_halt.ensures (within_halt c.in-Err.fault)
