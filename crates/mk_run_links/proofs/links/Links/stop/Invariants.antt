-- The invariants and measures of the loops of `links::Links::stop`.
use Rattle.std.proofs.Common.{◌≡◌, ◌≤◌}
use Rattle.mk_outside.specs.Counts.{HasRisen}
use Rattle.mk_run_links.proofs.OnStops.{Stopping}
use Rattle.mk_run_links.proofs.links.Links.stop.Given as goal

-- the channels so far were stopped
abbrev pub invariant-loop-i : goal.invariant-loop-i
invariant-loop-i g l = record {
  counted : g.F.Fleet.faults l.fn.fleet ≤ g.F.Fleet.faults l.fleet;
  same_count : g.F.Fleet.started l.fleet ≡ g.F.Fleet.started l.fn.fleet;
  same_links : g.F.Fleet.open_links l.fleet ≡ g.F.Fleet.open_links l.fn.fleet;
  stopping : Stopping l.i l.self.channels (HasRisen (g.F.Fleet.faults l.fn.fleet) (g.F.Fleet.faults l.fleet)) (g.F.Fleet.log l.fn.fleet) (g.F.Fleet.log l.fleet);
}
