-- Answers to the goals of `asking::test_group` that the prover leaves.
use Rattle.std.proofs.Common.{None}
use Rattle.mk_setup.specs.Kept.{state_of}
use Rattle.mk_setup.proofs.Asked.{group_refused, group_tested, meta_there}
use Rattle.mk_setup.proofs.asking.test_group.Goals as goal

pub at-meta-requires : goal.at-meta-requires
at-meta-requires c = meta_there (state_of c.args.progress.now None) c.args.progress.now.ids c.args.progress.now.plan c.args.group c.at-part.result.now c.requires.kept c.requires.stage c.at-part.ensures

pub returns-clause-ok : goal.returns-clause-ok
returns-clause-ok c = group_tested (state_of c.args.progress.now None) c.args.group c.at-part.result.now c.at-meta.result.now c.group_check.result c.requires.stage c.at-part.ensures c.at-meta.ensures c.group_check.ensures.ok

pub returns-clause-refused : goal.returns-clause-refused
returns-clause-refused c = group_refused (state_of c.args.progress.now None) c.args.group c.at-part.result.now c.at-meta.result.now c.group_check.result c.requires.stage c.at-part.ensures c.at-meta.ensures c.group_check.ensures.refused
