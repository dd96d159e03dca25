-- Answers to the goals of `sets::Sets::new` that the prover leaves.
use Rattle.mk_buffers.proofs.Slots.{none_sorted}
use Rattle.mk_buffers.proofs.sets.Sets.new.Goals as goal

pub invariant_of-result : goal.invariant_of-result
invariant_of-result c = none_sorted c.new.result.items c.new.ensures.items
