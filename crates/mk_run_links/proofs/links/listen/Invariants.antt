-- The invariants and measures of the loops of `links::listen`.
use Rattle.std.proofs.Common.{◌≡◌, ◌≤◌, length}
use Rattle.mk_run_links.specs.Places.{AreOpen}
use Rattle.mk_run_links.specs.inner.Standing.{HaveTurns}
use Rattle.mk_run_links.proofs.Hearing.{Hush}
use Rattle.mk_run_links.proofs.links.listen.Given as goal

-- nothing was heard so far
abbrev pub invariant-looking : goal.invariant-looking
invariant-looking g l = record {
  counted : g.F.Fleet.faults l.fn.fleet ≤ g.F.Fleet.faults l.fleet;
  same_count : g.F.Fleet.started l.fleet ≡ g.F.Fleet.started l.fn.fleet;
  same_links : g.F.Fleet.open_links l.fleet ≡ g.F.Fleet.open_links l.fn.fleet;
  stands : HaveTurns l.channels l.turns;
  are_open : AreOpen l.channels (g.F.Fleet.open_links l.fleet);
  hush : Hush l.fn.channels l.channels (g.F.Fleet.log l.fn.fleet) (g.F.Fleet.log l.fleet);
}

abbrev pub decreases-looking : goal.decreases-looking
decreases-looking g l = length l.turns.ready
