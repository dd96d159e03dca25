-- The channel that is polled keeps its link.
use Rattle.std.proofs.Common.{subst, sym}
use Rattle.mk_run_links.specs.Places.{Channels, IsLinked}
use Rattle.mk_run_links.proofs.Linking.{is_set, still_listed}
use Rattle.mk_run_links.proofs.channels.CrewChannels.poll.Goals as goal

pub invariant_of-self : goal.invariant_of-self
invariant_of-self g c = still_listed c.self.inside.channels.items c.args.sim.0 c.in-Some.channel c.poll.new.self c.index_mut.result.now (subst (λ (L : Channels). IsLinked c.args.sim.0 L) (sym c.self.view_is) c.requires.there) c.index_mut.ensures.value c.in-Some.is c.self.inside.links.items c.self.inside.sims.items
    c.poll.ensures.polled.2.moved.link c.self.invariant

pub returns-clause-polled : goal.returns-clause-polled
returns-clause-polled g c =
    let p = c.poll.ensures.polled in
    rw (← c.self.view_is) (
      p.0,
      p.1,
      record {
        channel = c.in-Some.channel;
        after = c.poll.new.self;
        set = is_set c.self.inside.channels.items c.args.sim.0 c.in-Some.channel c.poll.new.self c.index_mut.result.now (subst (λ (L : Channels). IsLinked c.args.sim.0 L) (sym c.self.view_is) c.requires.there) c.index_mut.ensures.value c.in-Some.is;
        polled = p.2;
      },
    )
