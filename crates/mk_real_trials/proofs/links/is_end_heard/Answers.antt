-- Answers to the goals of `links::is_end_heard` that the prover leaves.
use Rattle.mk_real_trials.proofs.links.is_end_heard.Goals as goal
use Rattle.mk_base.proofs.Items.{in_last}

pub does_end-requires : goal.does_end-requires
does_end-requires g c = in_last c.in-Some.link (g.F.Fleet.open_links c.args.fleet.now) _ c.in-Some.ensures
