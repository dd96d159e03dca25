-- Answers to the goals of `serving::Service::step` that the prover leaves.
use Rattle.std.proofs.Common.{◌≡◌, Some, ap}
use Rattle.mk_simapi.specs.declared.served.Served.TheVariants as served
use Rattle.mk_simapi.proofs.serving.Service.step.Goals as goal

pub returns-in-Some-clause-went : goal.returns-in-Some-clause-went
returns-in-Some-clause-went g c = c.in-Some.ensures.went

pub returns-in-None-clause-went : goal.returns-in-None-clause-went
returns-in-None-clause-went g c = c.in-None.ensures.went

pub returns-in-Some-clause-cause : goal.returns-in-Some-clause-cause
returns-in-Some-clause-cause g c = λ e. c.in-Some.ensures.cause (let same : c.in-Some.end ≡ served.Failed = cc in ap Some same)
