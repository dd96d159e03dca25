-- Answers to the goals of `done_answers` that the prover leaves.
use Rattle.mk_run_laws.specs.Handshake.{is_within}
use Rattle.mk_run_laws.proofs.Answering as answering
use Rattle.mk_run_laws.proofs.done_answers.Goals as goal

pub returns : goal.returns
returns c X J j done R goes = answering.done_answers c.args.plan.now X.reply (is_within X.scenario) c.requires J j.orderly j.kinds done R goes
