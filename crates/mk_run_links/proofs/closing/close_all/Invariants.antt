-- The invariants and measures of the loops of `closing::close_all`.
use Rattle.std.proofs.Common.{◌≡◌, ◌≤◌, [], take}
use Rattle.mk_outside.specs.Logs.{Adds}
use Rattle.mk_launch.specs.Starts.{links_in}
use Rattle.mk_run_links.specs.Places.{without_all}
use Rattle.mk_run_links.proofs.closing.close_all.Given as goal

-- the links of the places so far were closed
abbrev pub invariant-loop-place : goal.invariant-loop-place
invariant-loop-place g l = record {
  closed : g.F.Fleet.open_links l.fleet ≡ without_all (links_in (take l.place-index l.links)) (g.F.Fleet.open_links l.fn.fleet);
  counted : g.F.Fleet.faults l.fn.fleet ≤ g.F.Fleet.faults l.fleet;
  same_count : g.F.Fleet.started l.fleet ≡ g.F.Fleet.started l.fn.fleet;
  logged : Adds [] (g.F.Fleet.log l.fn.fleet) (g.F.Fleet.log l.fleet);
}
