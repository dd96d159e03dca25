-- Answers to the goals of `inlets::target_order` that the prover leaves.
use Rattle.std.specs.Ordering.{nat_cmp, ordering_then}
use Rattle.mk_base.specs.Lists.{text_order}
use Rattle.mk_buffers.proofs.Putting.{then_parts}
use Rattle.mk_buffers.proofs.inlets.target_order.Goals as goal

pub returns : goal.returns
returns c = let parts = then_parts (ordering_then (nat_cmp c.args.first.now.sim c.args.second.now.sim) (text_order c.args.first.now.eid.now c.args.second.now.eid.now)) (text_order c.args.first.now.conn.now.to_attr c.args.second.now.conn.now.to_attr) (text_order c.args.first.now.source.now c.args.second.now.source.now) in let whole = then_parts (nat_cmp c.args.first.now.sim c.args.second.now.sim) (text_order c.args.first.now.eid.now c.args.second.now.eid.now) (ordering_then (text_order c.args.first.now.conn.now.to_attr c.args.second.now.conn.now.to_attr) (text_order c.args.first.now.source.now c.args.second.now.source.now)) in cc
