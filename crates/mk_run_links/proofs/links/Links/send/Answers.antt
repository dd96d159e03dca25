-- Answers to the goals of `links::Links::send` that the prover leaves.
use Rattle.std.proofs.Common.{refl, arith, ◌∙◌}
use Rattle.mk_run_links.proofs.Sending.{length_of, sent_on_link}
use Rattle.mk_run_links.proofs.links.Links.send.Goals as goal

pub id_behind-requires : goal.id_behind-requires
id_behind-requires c = let w = c.next-id.ensures in let small = c.requires.small w.0 w.1 in let same = w.2 in omega (arith, small, same)

pub returns-clause-ok : goal.returns-clause-ok
returns-clause-ok c = sent_on_link c.args.sim.0 c.args.item.now c.next-id.result c.id_behind.result c.deref.result.now c.args.self.now.channels c.queue.new.self.channels c.next-id.ensures c.id_behind.ensures (c.deref.ensures.value ∙ c.in-Ok.ensures) c.in_ok-queue.ensures.ok c.in_ok-queue.ensures.allowed

pub returns-clause-allowed : goal.returns-clause-allowed
returns-clause-allowed c = (_, length_of _ c.args.sim.0 c.args.item.now c.next-id.result c.deref.result.now c.args.self.now.channels c.next-id.ensures (c.deref.ensures.value ∙ c.in-Ok.ensures) refl, c.in_ok-queue.ensures.allowed)
