-- Answers to the goals of `asking::ask_init` that the prover leaves.
use Rattle.std.proofs.Common.{None}
use Rattle.mk_setup.specs.Kept.{state_of}
use Rattle.mk_setup.proofs.Asked.{init_request, init_tested}
use Rattle.mk_setup.proofs.asking.ask_init.Goals as goal

pub ask-requires-clause-request : goal.ask-requires-clause-request
ask-requires-clause-request c = init_request c.args.progress.now.scenario c.args.progress.now.answered c.args.sim c.at-part.result.now c.in_ok-call.call c.requires.stage c.at-part.ensures c.in_ok-call.ensures

pub ask-requires-clause-tested : goal.ask-requires-clause-tested
ask-requires-clause-tested c = init_tested (state_of c.args.progress.now None) c.args.sim c.at-part.result.now c.requires.stage c.at-part.ensures
