-- The channel that is woken keeps its link.
use Rattle.std.proofs.Common.{ap, subst, sym, slice_set, Some}
use Rattle.mk_run_laws.specs.Channels.{Channel}
use Rattle.mk_run_links.specs.Places.{Channels, IsLinked, IsSet}
use Rattle.mk_run_links.proofs.Linking.{is_set, same_places, still_listed}
use Rattle.mk_run_links.proofs.channels.CrewChannels.wake.Goals as goal

pub invariant_of-self : goal.invariant_of-self
invariant_of-self c = still_listed c.self.inside.channels.items c.args.sim.0 c.in-Some.channel c.wake.new.self c.index_mut.result.now (subst (λ (L : Channels). IsLinked c.args.sim.0 L) (sym c.self.view_is) c.requires) c.index_mut.ensures.value c.in-Some.is c.self.inside.links.items c.self.inside.sims.items (ap (λ (w : Channel). w.link) c.wake.ensures) c.self.invariant

pub returns-clause-woken : goal.returns-clause-woken
returns-clause-woken c = rw (← c.self.view_is) (
  c.in-Some.channel,
  subst (λ (v : Channel). IsSet c.args.sim.0 c.in-Some.channel v c.self.inside.channels.items (slice_set c.self.inside.channels.items c.args.sim.0 (Some c.wake.new.self))) c.wake.ensures
      (is_set c.self.inside.channels.items c.args.sim.0 c.in-Some.channel c.wake.new.self c.index_mut.result.now (subst (λ (L : Channels). IsLinked c.args.sim.0 L) (sym c.self.view_is) c.requires) c.index_mut.ensures.value c.in-Some.is),
)

pub returns-clause-same_links : goal.returns-clause-same_links
returns-clause-same_links c = rw (← c.self.view_is) (same_places c.self.inside.channels.items c.args.sim.0 c.in-Some.channel c.wake.new.self c.index_mut.result.now (subst (λ (L : Channels). IsLinked c.args.sim.0 L) (sym c.self.view_is) c.requires) c.index_mut.ensures.value c.in-Some.is (ap (λ (w : Channel). w.link) c.wake.ensures))
