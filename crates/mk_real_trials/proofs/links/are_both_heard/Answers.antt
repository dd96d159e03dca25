-- Answers to the goals of `links::are_both_heard` that the prover leaves.
use Rattle.mk_real_trials.proofs.links.are_both_heard.Goals as goal
use Rattle.mk_base.proofs.Items.{in_last}

pub is_second_heard-requires : goal.is_second_heard-requires
is_second_heard-requires g c = in_last c.in-Some.late (g.F.Fleet.open_links c.args.fleet.now) _ c.in-Some.ensures
