-- Answers to the goals of `asking::ask_done` that the prover leaves.
use Rattle.std.proofs.Common.{◌≡◌, ◌∙◌, ◌<◌, None, Some, ap, sym, subst, refl, length}
use Rattle.mk_plan.specs.declared.Call.TheVariants.{SetupDone}
use Rattle.mk_setup.specs.Answers.{NextOf}
use Rattle.mk_setup.specs.Asking.{test_before}
use Rattle.mk_setup.specs.Kept.{state_of}
use Rattle.mk_setup.specs.Requests.{request_of}
use Rattle.mk_setup.specs.Seen.{SetupState}
use Rattle.mk_setup.proofs.Asked.{done_test, hindered, plan_hinders}
use Rattle.mk_setup.proofs.Sequence.{done_at}
use Rattle.mk_setup.proofs.asking.ask_done.Goals as goal

pub ask-requires-clause-resting : goal.ask-requires-clause-resting
ask-requires-clause-resting c = ap (λ (U : SetupState). U.asked) c.make_plan.ensures.same ∙ c.requires.resting

pub ask-requires-clause-there : goal.ask-requires-clause-there
ask-requires-clause-there c = subst (λ (U : SetupState). c.args.sim < length U.scenario.sims) (sym c.make_plan.ensures.same) c.requires.there

pub ask-requires-clause-request : goal.ask-requires-clause-request
ask-requires-clause-request c = subst (λ (U : SetupState). request_of U ≡ Some (record { sim = c.args.sim; call = SetupDone })) (sym c.make_plan.ensures.same) (done_at c.args.progress.now.scenario c.args.progress.now.answered c.args.sim c.requires.stage c.requires.there)

pub ask-requires-clause-tested : goal.ask-requires-clause-tested
ask-requires-clause-tested c = subst (λ (U : SetupState). test_before U (request_of U) ≡ None) (sym c.make_plan.ensures.same) (done_test (state_of c.args.progress.now None) c.args.sim c.requires.stage c.requires.there ∙ c.in-Ok.ensures.ok)

pub returns-in-Ok-clause-ok : goal.returns-in-Ok-clause-ok
returns-in-Ok-clause-ok c = subst (λ (U : SetupState). NextOf U c.ask.result (state_of c.ask.new.progress None)) c.make_plan.ensures.same c.ask.ensures.asked

pub returns-in-Err-clause-hindered : goal.returns-in-Err-clause-hindered
returns-in-Err-clause-hindered c = hindered (state_of c.args.progress.now None) (state_of c.make_plan.new.progress None) c.in-Err.fault c.connect_fault.result refl c.requires.resting c.make_plan.ensures.same (plan_hinders (state_of c.args.progress.now None) c.in-Err.fault (done_test (state_of c.args.progress.now None) c.args.sim c.requires.stage c.requires.there) c.in-Err.ensures.refused) c.connect_fault.ensures
