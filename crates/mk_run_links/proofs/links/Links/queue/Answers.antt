-- Answers to the goals of `links::Links::queue` that the prover leaves.
use Rattle.mk_run_links.proofs.Standing.{sent_stands}
use Rattle.mk_run_links.proofs.links.Links.queue.Goals as goal

pub invariant_of-self-2 : goal.invariant_of-self-2
invariant_of-self-2 c = sent_stands c.args.sim.0 c.self.inside.channels c.queue.new.self c.self.inside.turns c.ready.new.self c.link-link.result c.args.payload.now c.args.next c.self.invariant c.link-link.ensures c.in_ok-queue.ensures.ok c.ready.ensures.ready
