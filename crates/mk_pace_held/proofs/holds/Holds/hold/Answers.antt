-- Answers to the goals of `holds::Holds::hold` that the prover leaves.
use Rattle.mk_pace_held.proofs.Changing.{held_behind, kept_held, kept_read}
use Rattle.mk_pace_held.proofs.holds.Holds.hold.Goals as goal

pub invariant_of-self-else-was_empty : goal.invariant_of-self-else-was_empty
invariant_of-self-else-was_empty c = kept_held c.self.inside.firsts c.self.inside.queues.items c.args.self.now c.args.sim c.index.result.now c.index_mut.result.now c.push.new.self c.front.result c.args.held c.self.invariant c.self.view_is c.requires c.index.ensures c.index_mut.ensures.value c.front.ensures c.if-was_empty.ensures c.in_ok-push.ensures.ok

pub invariant_of-self-then-was_empty : goal.invariant_of-self-then-was_empty
invariant_of-self-then-was_empty c = kept_read c.self.inside.firsts c.set.new.self c.self.inside.queues.items c.args.self.now c.args.sim c.push.new.self c.index-then-was_empty.result.now c.first_of.result c.self.invariant c.self.view_is c.requires c.index-then-was_empty.ensures c.first_of.ensures c.set.ensures

pub returns-then-was_empty-clause-ok : goal.returns-then-was_empty-clause-ok
returns-then-was_empty-clause-ok c = held_behind c.self.inside.queues.items c.args.self.now c.args.sim.0 c.index_mut.result.now c.push.new.self c.args.held c.self.view_is c.requires c.index_mut.ensures.value c.in_ok-push.ensures.ok

pub returns-else-was_empty-clause-ok : goal.returns-else-was_empty-clause-ok
returns-else-was_empty-clause-ok c = held_behind c.self.inside.queues.items c.args.self.now c.args.sim.0 c.index_mut.result.now c.push.new.self c.args.held c.self.view_is c.requires c.index_mut.ensures.value c.in_ok-push.ensures.ok
