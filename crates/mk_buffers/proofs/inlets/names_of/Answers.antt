-- Answers to the goals of `inlets::names_of` that the prover leaves.
use Rattle.mk_buffers.proofs.Founding.{names_more}
use Rattle.mk_buffers.proofs.inlets.names_of.Goals as goal

pub loop-entity-preserved : goal.loop-entity-preserved
loop-entity-preserved c = names_more c.args.plan.now c.loop-entity.entity c.loop-entity.names.items c.push.new.self.items c.in_ok-full_id.field-0 c.loop-entity.invariant c.in_ok-full_id.ensures c.in_ok-push.ensures.items
