-- Answers to the goals of `fakes::count_on_first` that the prover leaves.
use Rattle.mk_session_trials.proofs.fakes.count_on_first.Goals as goal
use Rattle.mk_base.proofs.Items.{in_last}

pub count_so-count-requires : goal.count_so-count-requires
count_so-count-requires g c = in_last c.in-Link.link (g.F.Fleet.open_links c.args.fleet.now) _ c.in-Link.ensures.starts.3
