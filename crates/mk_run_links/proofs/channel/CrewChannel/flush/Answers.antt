-- Answers to the goals of `channel::CrewChannel::flush` that the prover leaves.
use Rattle.mk_run_links.proofs.OnChannels.{channel_of, flushes_channel}
use Rattle.mk_run_links.proofs.channel.CrewChannel.flush.Goals as goal

pub returns-clause-flushed : goal.returns-clause-flushed
returns-clause-flushed g c =
    let f = c.flush.ensures.flushed in
    rw (← c.self.view_is) (f.0, f.1, flushes_channel c.flush.result (channel_of c.self.inside.session c.self.inside.parked c.self.inside.next) c.args.last.now f.0 _ _ f.2)
