-- Answers to the goals of `sessions::word_on` that the prover leaves.
use Rattle.mk_session_trials.proofs.sessions.word_on.Goals as goal
use Rattle.mk_base.proofs.Items.{in_last}

pub heard-requires : goal.heard-requires
heard-requires g c = in_last c.in-Link.link (g.F.Fleet.open_links c.args.fleet.now) _ c.in-Link.ensures.starts.3
