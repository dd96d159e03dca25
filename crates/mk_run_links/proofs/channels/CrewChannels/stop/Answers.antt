-- Answers to the goals of `channels::CrewChannels::stop` that the prover leaves.
use Rattle.std.proofs.Common.{[], sym, subst, ◌<◌, length}
use Rattle.mk_outside.proofs.OnLogs.{adds_none}
use Rattle.mk_run_links.specs.Places.{Channels}
use Rattle.mk_run_links.proofs.OnStops.{none_at, stops_none}
use Rattle.mk_run_links.proofs.channels.CrewChannels.stop.Goals as goal

pub returns-in-None-clause-stopped : goal.returns-in-None-clause-stopped
returns-in-None-clause-stopped g c = rw (← c.self.view_is) ([], adds_none _, stops_none c.args.sim.0 c.self.inside.channels.items _ (none_at c.self.inside.channels.items c.args.sim.0 c.index.result.now (subst (λ (L : Channels). c.args.sim.0 < length L) (sym c.self.view_is) c.requires.there) c.index.ensures c.in-None.is))
