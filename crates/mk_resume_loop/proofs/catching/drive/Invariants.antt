-- The invariants and measures of the loops of `catching::drive`.
use Rattle.std.proofs.Common.{◌≡◌, ◌≤◌, None, true}
use Rattle.mk_local.specs.Registries.{rows_in}
use Rattle.mk_run_local.specs.Seen.{AreOf}
use Rattle.mk_run_crew.specs.Seen.{within_of}
use Rattle.mk_run.specs.inner.Turns.{IsStill}
use Rattle.mk_onlooker.specs.Showings.{IsShown}
use Rattle.mk_resume_loop.specs.inner.Turns.{Waits}
use Rattle.mk_resume_loop.proofs.Turned.{Gone}
use Rattle.mk_resume_loop.proofs.catching.drive.Given as goal

-- the run went on so far, and all that the journal has was shown
abbrev pub invariant-loop : goal.invariant-loop
invariant-loop g l = record {
  going : l.core.ended ≡ None;
  unhalted : l.crew.halt ≡ None;
  known : AreOf (rows_in l.kinds) (within_of l.crew);
  counted : g.F.Fleet.faults l.fn.fleet ≤ g.F.Fleet.faults l.fleet;
  same_count : g.F.Fleet.started l.fleet ≡ g.F.Fleet.started l.fn.fleet;
  same_links : g.F.Fleet.open_links l.fleet ≡ g.F.Fleet.open_links l.fn.fleet;
  still : IsStill l.fn.crew l.crew;
  gone : Gone l.fn.core l.core l.fn.crew l.crew l.fn.behind l.behind (g.F.Fleet.log l.fn.fleet) (g.F.Fleet.log l.fleet);
  waits : Waits l.core l.behind;
  same_plan : l.core.plan ≡ l.fn.core.plan;
  shown : IsShown g.O.Onlooker.looks l.fn.core.plan true l.fn.core.entries l.core.entries l.fn.onlooker l.onlooker;
}
