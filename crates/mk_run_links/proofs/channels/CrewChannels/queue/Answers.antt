-- The channel on which a payload is queued keeps its link.
use Rattle.std.proofs.Common.{subst, sym}
use Rattle.mk_run_links.specs.Places.{Channels, IsLinked}
use Rattle.mk_run_links.proofs.Linking.{is_set, queued_link, queued_set, still_listed}
use Rattle.mk_run_links.proofs.channels.CrewChannels.queue.Goals as goal

pub invariant_of-self : goal.invariant_of-self
invariant_of-self c = still_listed c.self.inside.channels.items c.args.sim.0 c.in-Some.channel c.queue.new.self c.index_mut.result.now (subst (λ (L : Channels). IsLinked c.args.sim.0 L) (sym c.self.view_is) c.requires) c.index_mut.ensures.value c.in-Some.is c.self.inside.links.items c.self.inside.sims.items
    (queued_link c.queue.result c.in-Some.channel c.queue.new.self c.args.payload.now c.args.next c.queue.ensures.ok c.queue.ensures.err) c.self.invariant

pub returns-clause-ok : goal.returns-clause-ok
returns-clause-ok c = rw (← c.self.view_is) (queued_set c.queue.result c.args.sim.0 c.in-Some.channel c.queue.new.self _ _ c.args.payload.now c.args.next c.queue.ensures.ok
    (is_set c.self.inside.channels.items c.args.sim.0 c.in-Some.channel c.queue.new.self c.index_mut.result.now (subst (λ (L : Channels). IsLinked c.args.sim.0 L) (sym c.self.view_is) c.requires) c.index_mut.ensures.value c.in-Some.is))
