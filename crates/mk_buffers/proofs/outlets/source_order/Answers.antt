-- Answers to the goals of `outlets::source_order` that the prover leaves.
use Rattle.std.specs.Ordering.{nat_cmp}
use Rattle.mk_base.specs.Lists.{text_order}
use Rattle.mk_buffers.proofs.Putting.{then_parts}
use Rattle.mk_buffers.proofs.outlets.source_order.Goals as goal

pub returns : goal.returns
returns c = let parts = then_parts (nat_cmp c.args.first.now.sim c.args.second.now.sim) (text_order c.args.first.now.eid.now c.args.second.now.eid.now) (text_order c.args.first.now.attr.now c.args.second.now.attr.now) in cc
