-- Answers to the goals of `sets::slot_order` that the prover leaves.
use Rattle.mk_base.specs.Lists.{text_order}
use Rattle.mk_buffers.proofs.Putting.{then_parts}
use Rattle.mk_buffers.proofs.sets.slot_order.Goals as goal

pub returns : goal.returns
returns c = let parts = then_parts (text_order c.args.first.now.eid c.args.second.now.eid) (text_order c.args.first.now.attr c.args.second.now.attr) (text_order c.args.first.now.source c.args.second.now.source) in cc
