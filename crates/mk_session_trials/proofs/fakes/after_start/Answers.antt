-- Answers to the goals of `fakes::after_start` that the prover leaves.
use Rattle.mk_session_trials.proofs.fakes.after_start.Goals as goal
use Rattle.mk_base.proofs.Items.{in_last}

pub after_sleep-requires : goal.after_sleep-requires
after_sleep-requires g c = in_last c.in-Link.link (g.F.Fleet.open_links c.args.fleet.now) _ c.in-Link.ensures.starts.3
