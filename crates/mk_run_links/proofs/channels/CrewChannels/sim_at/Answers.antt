-- The simulator at the place of a link is on it.
use Rattle.std.proofs.Common.{subst, sym, ◌<◌, length, map}
use Rattle.mk_launch.specs.Starts.{links_in}
use Rattle.mk_run_links.specs.inner.OneChannel.{link_of}
use Rattle.mk_run_links.specs.Places.{Channels}
use Rattle.mk_run_links.proofs.Linking.{sim_at_place}
use Rattle.mk_run_links.proofs.channels.CrewChannels.sim_at.Goals as goal

pub returns : goal.returns
returns c = rw (← c.self.view_is) (sim_at_place c.self.inside.channels.items c.self.inside.links.items c.self.inside.sims.items c.args.k c.index.result.now c.self.invariant.1 (subst (λ (L : Channels). c.args.k < length (links_in (map link_of L))) (sym c.self.view_is) c.requires) c.index.ensures)
