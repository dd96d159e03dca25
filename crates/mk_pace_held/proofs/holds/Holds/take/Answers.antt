-- Answers to the goals of `holds::Holds::take` that the prover leaves.
use Rattle.mk_pace_held.proofs.Changing.{kept_read, taken}
use Rattle.mk_pace_held.proofs.holds.Holds.take.Goals as goal

pub invariant_of-self : goal.invariant_of-self
invariant_of-self c = kept_read c.self.inside.firsts c.set.new.self c.self.inside.queues.items c.args.self.now c.args.sim c.pop-taken.new.self c.index.result.now c.first_of.result c.self.invariant c.self.view_is c.requires c.index.ensures c.first_of.ensures c.set.ensures

pub returns : goal.returns
returns c = taken c.self.inside.queues.items c.args.self.now c.args.sim.0 c.index_mut.result.now c.pop-taken.new.self c.pop-taken.result c.self.view_is c.requires c.index_mut.ensures.value c.pop-taken.ensures
