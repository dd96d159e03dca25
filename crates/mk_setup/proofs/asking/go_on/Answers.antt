-- Answers to the goals of `asking::go_on` that the prover leaves.
use Rattle.std.proofs.Common.{None}
use Rattle.mk_setup.specs.Kept.{state_of}
use Rattle.mk_setup.proofs.Asked.{at_end}
use Rattle.mk_setup.proofs.asking.go_on.Goals as goal

pub finish-requires-clause-stage : goal.finish-requires-clause-stage
finish-requires-clause-stage c = at_end (state_of c.args.progress.now None) c.args.progress.now.ids c.args.progress.now.plan c.requires c.in-Over.ensures
