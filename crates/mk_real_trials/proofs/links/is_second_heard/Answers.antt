-- Answers to the goals of `links::is_second_heard` that the prover leaves.
use Rattle.std.proofs.Common.{sym, subst}
use Rattle.mk_base.specs.Lists.{IsIn}
use Rattle.mk_real_trials.proofs.Opened.{stays_open}
use Rattle.mk_real_trials.proofs.links.is_second_heard.Goals as goal
use Rattle.mk_base.proofs.Items.{in_last}

pub are_so-requires : goal.are_so-requires
are_so-requires g c = stays_open c.args.late c.in-Some.early (g.F.Fleet.open_links c.args.fleet.now) _ c.in-Some.ensures c.requires

pub are_so-requires-then-are_so : goal.are_so-requires-then-are_so
are_so-requires-then-are_so g c = subst (IsIn c.in-Some.early) (sym c.are_so.ensures) (in_last c.in-Some.early (g.F.Fleet.open_links c.args.fleet.now) _ c.in-Some.ensures)
