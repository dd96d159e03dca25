-- The invariants and measures of the loops of `crew::Crew::set_up`.
use Rattle.std.proofs.Common.{◌≡◌, ◌≤◌, ℕ, List}
use Rattle.mk_outside.specs.declared.fleet.LogEntry.{LogEntry}
use Rattle.mk_outside.specs.Logs.{Adds}
use Rattle.mk_run_links.specs.Places.{AreOpen}
use Rattle.mk_local.specs.Registries.{rows_in}
use Rattle.mk_run_crew.specs.Attempts.{attempt}
use Rattle.mk_run_crew.specs.inner.Asking.{GoesSoFar, IsNewCrew}
use Rattle.mk_run_crew.proofs.crew.Crew.set_up.Given as goal

-- the requests so far were answered
abbrev pub invariant-loop : goal.invariant-loop
invariant-loop g l = record {
  counted : g.F.Fleet.faults l.fn.fleet ≤ g.F.Fleet.faults l.fleet;
  same_count : g.F.Fleet.started l.fleet ≡ g.F.Fleet.started l.fn.fleet;
  same_links : g.F.Fleet.open_links l.fleet ≡ g.F.Fleet.open_links l.fn.fleet;
  same_places : (l.self).places ≡ (l.fn.self).places;
  are_open : AreOpen (l.self).channels (g.F.Fleet.open_links l.fleet);
  so_far : (started : ℕ) → IsNewCrew started (rows_in l.kinds) (l.fn.setup).scenario (g.F.Fleet.open_links l.fn.fleet) l.fn.self
      → (entries : List LogEntry) × Adds entries (g.F.Fleet.log l.fn.fleet) (g.F.Fleet.log l.fleet)
      × GoesSoFar (attempt started (l.fn.setup).scenario (l.fn.setup).ranks (rows_in l.kinds) entries) l.self l.setup;
}
