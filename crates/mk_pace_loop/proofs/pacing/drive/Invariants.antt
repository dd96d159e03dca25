-- The invariants and measures of the loops of `pacing::drive`.
use Rattle.std.proofs.Common.{◌≡◌, ◌≤◌, true, None}
use Rattle.mk_local.specs.Registries.{rows_in}
use Rattle.mk_run_local.specs.Seen.{AreOf}
use Rattle.mk_run_crew.specs.Seen.{within_of}
use Rattle.mk_run.specs.inner.Turns.{IsStill, Waits}
use Rattle.mk_onlooker.specs.Showings.{IsShown}
use Rattle.mk_pace_loop.specs.inner.Turns.{RisesOn}
use Rattle.mk_pace_loop.specs.inner.Waiting.{IsOnTempo}
use Rattle.mk_pace_loop.proofs.Turning.{Gone}
use Rattle.mk_pace_loop.proofs.pacing.drive.Given as goal

-- the run went on so far
abbrev pub invariant-loop : goal.invariant-loop
invariant-loop g l = record {
  going : l.core.ended ≡ None;
  unhalted : l.crew.halt ≡ None;
  waits : Waits l.core;
  plan : l.core.plan ≡ l.fn.core.plan;
  shown : IsShown g.O.Onlooker.looks l.core.plan true l.fn.core.entries l.core.entries l.fn.onlooker l.onlooker;
  known : AreOf (rows_in l.kinds) (within_of l.crew);
  counted : g.F.Fleet.faults l.fn.fleet ≤ g.F.Fleet.faults l.fleet;
  same_count : g.F.Fleet.started l.fleet ≡ g.F.Fleet.started l.fn.fleet;
  same_links : g.F.Fleet.open_links l.fleet ≡ g.F.Fleet.open_links l.fn.fleet;
  still : IsStill l.fn.crew l.crew;
  tempo : IsOnTempo l.fn.waiting l.waiting;
  rising : RisesOn (g.F.Fleet.log l.fn.fleet) (g.F.Fleet.log l.fleet);
  gone : Gone l.fn.core l.core l.fn.crew l.crew l.fn.waiting l.waiting (g.F.Fleet.log l.fn.fleet) (g.F.Fleet.log l.fleet);
}
