-- Answers to the goals of `known::entity_of` that the prover leaves.
use Rattle.mk_async.proofs.Entities.{entity_inside}
use Rattle.mk_async.proofs.known.entity_of.Goals as goal

pub returns-clause-there : goal.returns-clause-there
returns-clause-there c = entity_inside c.args.plan.now c.args.id.now c.find.result (c.find.ensures.entity c.args.plan.now c.requires)
