-- Answers to the goals of `links::is_child` that the prover leaves.
use Rattle.mk_real_trials.proofs.links.is_child.Goals as goal
use Rattle.mk_base.proofs.Items.{in_last}

pub are_so_to_the_end-requires : goal.are_so_to_the_end-requires
are_so_to_the_end-requires g c = in_last c.in-Some.link (g.F.Fleet.open_links c.args.fleet.now) _ c.in-Some.ensures
