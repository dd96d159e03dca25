-- Answers to the goals of `crew::Crew::set_up_within` that the prover leaves.
use Rattle.std.proofs.Common.{Option, refl, subst, ◌∙◌}
use Rattle.mk_run_crew.specs.declared.asking.Stage.{Stage}
use Rattle.mk_run_crew.specs.inner.Asking.{StepsTo}
use Rattle.mk_run_crew.proofs.Looping.{steps_fewer, steps_not, steps_on, steps_to}
use Rattle.mk_run_crew.proofs.crew.Crew.set_up_within.Goals as goal

pub asking-init : goal.asking-init
asking-init g c = record { same_channels = refl; same_places = refl; so_far = λ A so_far. so_far }

pub step-requires : goal.step-requires
step-requires g c = (c.asking.invariant.so_far c.requires.0 c.requires.1).resting

pub returns-in-Ok-Some-clause-ok : goal.returns-in-Ok-Some-clause-ok
returns-in-Ok-Some-clause-ok g c A so_far =
    steps_to c.replies_make.ensures A c.asking.self c.asking.setup (c.asking.invariant.so_far A so_far) c.in-Ok-Some.stage c.step.new.self c.step.new.setup
    (subst (λ (o : Option Stage). StepsTo o c.asking.self c.step.new.self c.asking.setup c.step.new.setup) c.in-Ok-Some.field-0-is c.in-Ok-Some.ensures.ok)

pub asking-preserved : goal.asking-preserved
asking-preserved g c = record {
  same_channels = c.in-Ok-None.ensures.same_channels ∙ c.asking.invariant.same_channels;
  same_places = c.in-Ok-None.ensures.same_places ∙ c.asking.invariant.same_places;
  so_far = λ A so_far.
      steps_on c.replies_make.ensures A c.asking.self c.asking.setup (c.asking.invariant.so_far A so_far) c.step.new.self c.step.new.setup
      (subst (λ (o : Option Stage). StepsTo o c.asking.self c.step.new.self c.asking.setup c.step.new.setup) c.in-Ok-None.field-0-is c.in-Ok-None.ensures.ok) c.in-Ok-None.ensures.same_places;
}

pub asking-smaller : goal.asking-smaller
asking-smaller g c =
    steps_fewer c.replies_make.ensures c.requires.0 c.asking.self c.asking.setup (c.asking.invariant.so_far c.requires.0 c.requires.1) c.step.new.self c.step.new.setup
    (subst (λ (o : Option Stage). StepsTo o c.asking.self c.step.new.self c.asking.setup c.step.new.setup) c.in-Ok-None.field-0-is c.in-Ok-None.ensures.ok)

pub returns-in-Err-clause-err : goal.returns-in-Err-clause-err
returns-in-Err-clause-err g c A so_far = steps_not c.replies_make.ensures A c.asking.self c.asking.setup (c.asking.invariant.so_far A so_far) c.in-Err.halt c.step.new.self c.in-Err.ensures.err c.in-Err.ensures.same_places
