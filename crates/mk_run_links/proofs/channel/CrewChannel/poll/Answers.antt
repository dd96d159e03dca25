-- Answers to the goals of `channel::CrewChannel::poll` that the prover leaves.
use Rattle.std.proofs.Common.{subst, sym, Bool}
use Rattle.mk_run_links.specs.inner.OneChannel.{PollsChannel}
use Rattle.mk_run_links.proofs.OnChannels.{channel_of, polls_channel}
use Rattle.mk_run_links.proofs.channel.CrewChannel.poll.Goals as goal

pub returns-clause-polled : goal.returns-clause-polled
returns-clause-polled g c =
    let p = c.poll-polled.ensures.polled in
    rw (← c.self.view_is) (
      p.0,
      p.1,
      subst (λ (b : Bool). PollsChannel c.poll-polled.result (channel_of c.self.inside.session c.self.inside.parked c.self.inside.next) p.0 (channel_of c.poll-polled.new.self b c.self.inside.next)) (sym c.is_pending-self-inside.ensures)
          (polls_channel c.poll-polled.result c.self.inside.session c.poll-polled.new.self p.0 c.self.inside.parked c.self.inside.next p.2),
    )
