-- The invariants and measures of the loops of `links::Links::hear_next`.
use Rattle.std.proofs.Common.{◌≡◌, ◌≤◌}
use Rattle.mk_run_links.proofs.Hearing.{Silence}
use Rattle.mk_run_links.proofs.links.Links.hear_next.Given as goal

-- nothing was heard so far
abbrev pub invariant-loop : goal.invariant-loop
invariant-loop g l = record {
  counted : g.F.Fleet.faults l.fn.fleet ≤ g.F.Fleet.faults l.fleet;
  same_count : g.F.Fleet.started l.fleet ≡ g.F.Fleet.started l.fn.fleet;
  same_links : g.F.Fleet.open_links l.fleet ≡ g.F.Fleet.open_links l.fn.fleet;
  same_halt : l.self.halt ≡ l.fn.self.halt;
  silence : Silence l.fn.self.channels l.self.channels (g.F.Fleet.log l.fn.fleet) (g.F.Fleet.log l.fleet);
}
