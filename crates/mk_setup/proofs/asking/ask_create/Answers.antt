-- Answers to the goals of `asking::ask_create` that the prover leaves.
use Rattle.mk_setup.proofs.Asked.{create_request}
use Rattle.mk_setup.proofs.Counting.{group_sim}
use Rattle.mk_setup.proofs.asking.ask_create.Goals as goal

pub ask-requires-clause-there : goal.ask-requires-clause-there
ask-requires-clause-there c = group_sim c.args.progress.now.scenario c.requires.kept.wellformed c.args.group c.at-part.result.now c.at-part.ensures

pub ask-requires-clause-request : goal.ask-requires-clause-request
ask-requires-clause-request c = create_request c.args.progress.now.scenario c.args.progress.now.answered c.args.group c.at-part.result.now c.in_ok-call.call c.requires.stage c.at-part.ensures c.in_ok-call.ensures
